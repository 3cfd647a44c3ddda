-- Request P8: "Over any number of cut and uncut attempts the sum equals set fuses after minus set fuses before". Here is the proof, over every
-- list of calls of every entry point, demand 3's histories of attempts and restarts among them. Cells and marks are any
-- numbers. Assumes nothing.
-- The definitions stand in specs/Charge.antt.
use Rattle.std.specs.Prelude.{ℕ, ◌+◌, ◌≡◌, Bool, false, List, [], ◌∷◌, eqb, length, Option, Some, None, Result, Err, Ok}
use Rattle.std.proofs.Math.Path.{refl, subst}
use Rattle.std.proofs.Common.{sym, ap, ◌∙◌, ⊎_elim, eqb-true, eq-eqb, ne_eqb, leb-false}
use Rattle.std.proofs.Math.Bool.{true}
use Rattle.std.proofs.lemmas.Bool.{false≢true}
use native.Mathlib.Omega.{arith}
use Rattle.laws.specs.Tests.{decided, cond_keeps}
use Rattle.refusal.specs.Refusals.{first_both, first_elim, not_numbered}
use Rattle.refusal.specs.declared.Refusal.{Refusal}
use Rattle.context.specs.State.{State, Outcome, outcome, refusing}
use Rattle.map.specs.Map.{entry_of, secret}
use Rattle.fuse.specs.Fuse.{short, all_ones, set_fuses}
use Rattle.fuse.proofs.Charge.{burn_charge}
use Rattle.burns.specs.declared.End.{End}
use Rattle.burns.specs.declared.End.TheVariants.{Whole, Stopped, Cut as CutEnd}
use Rattle.burns.specs.Run.{Tally}
use Rattle.word.specs.declared.Role.{Role}
use Rattle.word.specs.declared.Word.{Word}
use Rattle.word.specs.Word.{word_at, some_word}
use Rattle.direct.specs.declared.Command.{Command}
use Rattle.direct.specs.declared.Command.TheVariants.{Read, Write, Zeroize}
use Rattle.direct.specs.declared.Answer.{Answer}
use Rattle.direct.specs.declared.Answer.TheVariants.{Word as Shown, Burned, Done, Withheld}
use Rattle.direct.specs.Direct.{cell_of, direct_tests, cells_after, new_after, carried_out, direct_of}
use Rattle.direct.proofs.Laws.{direct_at}
use Rattle.erasure.specs.Erasure.{never, run_on, answer_by, told_new}
use Rattle.erasure.proofs.Cuts.{whole_by, uncut_judged}
use Rattle.erasure.proofs.Charge.{ran_charge, erase_charge}
use Rattle.codec.specs.declared.Command.TheVariants.{Fers}
use Rattle.codec.specs.Fields.{code_of, command_of, known}
use Rattle.codec.proofs.Laws.{code_of_lem}
use Rattle.mailbox.specs.declared.effects.Effect.{Effect}
use Rattle.mailbox.specs.declared.Reply.{Reply}
use Rattle.mailbox.specs.Mailbox.{fers_of, partition_in, accepted, done_of, response_after, reply_of}
use Rattle.mailbox.proofs.Laws.{fers_or_plain}
use Rattle.mailbox.proofs.Told.{ended_reads, mailbox_elim}
use Rattle.history.specs.Secrets.{tells_new}
use Rattle.history.specs.Calls.{Call, Direct, Erase, EraseCut, Mailbox, TakeReply, MakeTable, Restart, Answering, refusal, after}
use Rattle.history.specs.Charge.{report_in, new_by, report_by, report_of, Charge, new_in, burns_word}

-- ---- its proof: direct commands

module _ (image marks : List ℕ) (s : State) where
  -- the set fuses have grown by so many
  abbrev Grown : (cells : List ℕ) (new : ℕ) → Type 0
  Grown cells new = set_fuses cells ≡ set_fuses s.cells + new

  carried_charge : (found : Option Word) (command : Command) → Grown (carried_out found command image marks s).after.cells (new_by found command marks s.cells)
  unfolding carried_out cells_after new_after
  carried_charge None command = omega arith
  carried_charge (Some word) (Read cell) = omega arith
  carried_charge (Some word) (Write cell value) = burn_charge marks cell word.wide value s.cells
  carried_charge (Some word) (Zeroize cell) = burn_charge marks cell word.wide all_ones s.cells

  direct_charge : (command : Command) → Grown (direct_of image marks command s).after.cells (report_of image marks (Direct command) s)
  direct_charge command =
      let found = word_at image (cell_of command) in
      subst (λ (o : Outcome (Result Answer Refusal) State). Grown o.after.cells (report_by found image marks command s)) (sym (direct_at image marks command s refl))
      (first_both (λ (o : Outcome (Result Answer Refusal) State) (new : ℕ). Grown o.after.cells new) (refusing Err s) (λ _. 0)
      (direct_tests found command image marks s) (carried_out found command image marks s) (new_by found command marks s.cells)
      (λ n _. omega arith) (λ none. carried_charge found command))

  -- ---- the mailbox

  module _ (request response : List ℕ) where
    abbrev Reports : (code : ℕ) → Outcome (Result Effect Refusal) (List ℕ) → Type 0
    Reports code d = Grown d.after (report_in code (reply_of d.told) (response_after d.told response))

    -- FERS, by how its run ended; it is not cut
    fers_charge : (end : End) → (end ≡ CutEnd → ⊥) → (t : Tally) → let p = partition_in request in
        Grown t.cells (told_new (answer_by end image p t)) → Reports (code_of Fers) (outcome (fers_of (answer_by end image p t)) t.cells)
    fers_charge Whole u t h = h ∙ ap (λ (new : ℕ). set_fuses s.cells + new) (sym (ended_reads _ _ t.burns t.new response).2)
    fers_charge Stopped u t h = h
    fers_charge CutEnd u t h = absurd (u refl)

    -- no other command reports anything, nor burns
    other_none : (code : ℕ) → eqb code (code_of Fers) ≡ false → (reply : Result Reply Refusal) (bytes : List ℕ) → report_in code reply bytes ≡ 0
    other_none code n (Err r) bytes = refl
    other_none code n (Ok reply) bytes = rw n

    other_charge : (code : ℕ) → eqb code (code_of Fers) ≡ false → known (command_of code) ≡ true → Reports code (accepted (command_of code) image marks request s)
    other_charge code n k =
        let d = accepted (command_of code) image marks request s in
        ⊎_elim
        (λ (e : command_of code ≡ Fers). absurd (false≢true (sym n ∙ eq-eqb code (code_of Fers) (code_of_lem code k ∙ ap code_of e))))
        (λ plain. omega (arith, other_none code n (reply_of d.told) (response_after d.told response), ap set_fuses plain.1))
        (fers_or_plain (command_of code) image marks request s k)

    mailbox_charge : (code block : ℕ) → Reports code (done_of image marks code request (length response) block s)
    mailbox_charge code block =
        ⊎_elim
        (λ (y : eqb code (code_of Fers) ≡ true).
        subst (λ (c : ℕ). Reports c (done_of image marks c request (length response) block s)) (sym (eqb-true code (code_of Fers) y))
        (mailbox_elim image marks (code_of Fers) request (length response) block s (Reports (code_of Fers))
        (λ _ _. omega arith)
        (λ good arrays _ none.
        let p = partition_in request in
        let whole = whole_by image s.cells marks good arrays in
        let within = leb-false _ _ (none 0) in
        let r = run_on image s.cells marks p never 0 in
        fers_charge r.end (uncut_judged image s.cells p whole within marks 0) r.tally (ran_charge image s.cells marks p never 0 whole within))))
        (λ (n : eqb code (code_of Fers) ≡ false).
        mailbox_elim image marks code request (length response) block s (Reports code)
        (λ _ _. omega arith) (λ _ _ k _. other_charge code n k))
        (decided (eqb code (code_of Fers)))

  -- ---- every call

  call_charge : (call : Call) → Grown (after image marks call s).cells (report_of image marks call s)
  call_charge (Direct command) = direct_charge command
  call_charge (Erase i) = erase_charge image marks i never 0 s
  call_charge (EraseCut i k mask) = erase_charge image marks i k mask s
  call_charge (Mailbox code request response block) = mailbox_charge request response code (length block)
  call_charge (TakeReply reply) = omega arith
  call_charge (MakeTable handles algorithms) = omega arith
  call_charge Restart = omega arith

pub charge : Charge
charge image marks [] s = omega arith
charge image marks (call ∷ calls) s = omega (arith, call_charge image marks s call, charge image marks calls (after image marks call s))

-- ---- what a direct command shows of it

module _ (image marks : List ℕ) (s : State) where
  -- an answer with a number tells this one
  abbrev Tells : Result Answer Refusal → (new : ℕ) → Type 0
  Tells answer new = tells_new answer ≡ true → new_in answer ≡ new

  carried_tells : (found : Option Word) (command : Command) → Tells (carried_out found command image marks s).told (new_by found command marks s.cells)
  unfolding carried_out
  carried_tells None command = λ y. absurd (false≢true y)
  carried_tells (Some word) (Read cell) = λ y. absurd (false≢true y)
  carried_tells (Some word) (Write cell value) =
      let new = new_after (Write cell value) word.wide marks s.cells in
      cond_keeps (λ (a : Answer). Tells (Ok a) new) (secret (entry_of image word.partition)) Done (Burned _ new) (λ _ y. absurd (false≢true y)) (λ _ _. refl)
  carried_tells (Some word) (Zeroize cell) =
      let new = new_after (Zeroize cell) word.wide marks s.cells in
      cond_keeps (λ (a : Answer). Tells (Ok a) new) (secret (entry_of image word.partition)) _ (Burned _ new)
      (λ _. cond_keeps (λ (a : Answer). Tells (Ok a) new) (short _ _) Withheld (Shown _) (λ _ y. absurd (false≢true y)) (λ _ y. absurd (false≢true y)))
      (λ _ _. refl)

  -- it is what its burn reports; in a secret partition there is none (`Secrets` `new_hidden`)
  pub direct_tells : (command : Command) → Tells (direct_of image marks command s).told (report_of image marks (Direct command) s)
  direct_tells command =
      let found = word_at image (cell_of command) in
      subst (λ (o : Outcome (Result Answer Refusal) State). Tells o.told (report_by found image marks command s)) (sym (direct_at image marks command s refl))
      (first_both (λ (o : Outcome (Result Answer Refusal) State) (new : ℕ). Tells o.told new) (refusing Err s) (λ _. 0)
      (direct_tests found command image marks s) (carried_out found command image marks s) (new_by found command marks s.cells)
      (λ n _ y. absurd (false≢true y)) (λ none. carried_tells found command))

  -- and outside secret partitions there is one: a WRITE or a ZEROIZE that is carried out tells it
  pub new_shown : (command : Command) {i : ℕ} {role : Role} {wide : Bool} → word_at image (cell_of command) ≡ some_word i role wide → secret (entry_of image i) ≡ false
      → burns_word command ≡ true → refusal (Answering (direct_of image marks command s).told) ≡ 0 → tells_new (direct_of image marks command s).told ≡ true
  unfolding carried_out
  new_shown command {i} {role} {wide} starts unsecret b =
      subst (λ (o : Outcome (Result Answer Refusal) State). refusal (Answering o.told) ≡ 0 → tells_new o.told ≡ true) (sym (direct_at image marks command s starts))
      (first_elim (λ (o : Outcome (Result Answer Refusal) State). refusal (Answering o.told) ≡ 0 → tells_new o.told ≡ true) (refusing Err s)
      (direct_tests (some_word i role wide) command image marks s) (carried_out (some_word i role wide) command image marks s)
      (λ n a r. absurd (not_numbered 0 (direct_tests (some_word i role wide) command image marks s) refl n a r))
      (λ none _. by command b))
    where
      by : (command : Command) → burns_word command ≡ true → tells_new (carried_out (some_word i role wide) command image marks s).told ≡ true
      by (Read cell) y = absurd (false≢true y)
      by (Write cell value) y = rw unsecret
      by (Zeroize cell) y = rw unsecret
