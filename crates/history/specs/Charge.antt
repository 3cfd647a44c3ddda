-- Request P8: "Over any number of cut and uncut attempts the sum equals set fuses after minus set fuses before". Here is the claim, over every
-- list of calls of every entry point, demand 3's histories of attempts and restarts among them. Cells and marks are any
-- numbers. Assumes nothing.
-- The theorems stand in proofs/Charge.antt.
use Rattle.std.specs.Prelude.{ℕ, ◌+◌, ◌≡◌, Bool, false, cond, List, [], ◌∷◌, eqb, length, Option, Some, None, Result, Ok, Err}
use Rattle.std.proofs.Math.Bool.{true}
use Rattle.refusal.specs.Refusals.{first_of}
use Rattle.refusal.specs.declared.Refusal.{Refusal}
use Rattle.context.specs.State.{State}
use Rattle.fuse.specs.Fuse.{set_fuses}
use Rattle.word.specs.declared.Word.{Word}
use Rattle.word.specs.Word.{word_at}
use Rattle.direct.specs.declared.Command.{Command}
use Rattle.direct.specs.declared.Command.TheVariants.{Read, Write, Zeroize}
use Rattle.direct.specs.declared.Answer.{Answer}
use Rattle.direct.specs.declared.Answer.TheVariants.{Word as Shown, Burned, Done, Withheld}
use Rattle.direct.specs.Direct.{cell_of, direct_tests, new_after}
use Rattle.erasure.specs.Erasure.{told_new, erasure_of, cut_erasure_of}
use Rattle.codec.specs.declared.Command.TheVariants.{Fers}
use Rattle.codec.specs.Fields.{code_of, NewFuses, response_fields, no_numbers, number_at}
use Rattle.mailbox.specs.declared.Reply.{Reply}
use Rattle.mailbox.specs.Mailbox.{lent, mailbox_of}
use Rattle.history.specs.Calls.{Call, Direct, Erase, EraseCut, Mailbox, TakeReply, MakeTable, Restart, after, after_all}

-- ---- the claim

-- FERS "carries it as a last field", which a host reads by the field list; a refusal has no response, and no other command burns
abbrev pub report_in : (code : ℕ) → Result Reply Refusal → (response : List ℕ) → ℕ
report_in code (Err r) response = 0
report_in code (Ok reply) response = cond (eqb code (code_of Fers)) (number_at (response_fields Fers no_numbers) NewFuses response) 0

-- what WRITE and ZEROIZE report or, in a secret partition, where they do not show it, would: the fuses that their burn newly sets, 0 where
-- they are refused; READ sets none
abbrev pub new_by : Option Word → Command → (marks cells : List ℕ) → ℕ
new_by None command marks cells = 0
new_by (Some word) command marks cells = new_after command word.wide marks cells

abbrev pub report_by : Option Word → (image marks : List ℕ) → Command → State → ℕ
report_by found image marks command s = first_of (λ _. 0) (direct_tests found command image marks s) (new_by found command marks s.cells)

-- what a call reports: an erasure in its answer, cut ones included, FERS in its response; a restart, a reply and a table have nothing to report
abbrev pub report_of : (image marks : List ℕ) → Call → State → ℕ
report_of image marks (Direct command) s = report_by (word_at image (cell_of command)) image marks command s
report_of image marks (Erase i) s = told_new (erasure_of image marks i s).told
report_of image marks (EraseCut i k mask) s = told_new (cut_erasure_of image marks i k mask s).told
report_of image marks (Mailbox code request response block) s =
    let o = mailbox_of image marks code request (lent s response block) in
    report_in code o.told o.after.response
report_of image marks (TakeReply reply) s = 0
report_of image marks (MakeTable handles algorithms) s = 0
report_of image marks Restart s = 0

-- the sum, each call made on what the one before left
abbrev pub sum_of : (image marks : List ℕ) → List Call → State → ℕ
sum_of image marks [] s = 0
sum_of image marks (call ∷ calls) s = report_of image marks call s + sum_of image marks calls (after image marks call s)

-- the set fuses of the whole array have grown by it
abbrev pub Charge : Type 0
Charge =
    (image marks : List ℕ) (calls : List Call) (s : State)
    → set_fuses (after_all image marks calls s).cells ≡ set_fuses s.cells + sum_of image marks calls s

-- ---- what a direct command shows of it

-- the number beside a word, 0 where there is none
abbrev pub new_in : Result Answer Refusal → ℕ
new_in (Ok (Shown word)) = 0
new_in (Ok (Burned word new)) = new
new_in (Ok Done) = 0
new_in (Ok Withheld) = 0
new_in (Err r) = 0

-- a command that burns its word
abbrev pub burns_word : Command → Bool
burns_word (Read cell) = false
burns_word (Write cell value) = true
burns_word (Zeroize cell) = true
