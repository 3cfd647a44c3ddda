-- Request P7: "only the answered word depends on the flag". Here is the claim of two maps that differ in flag 8 alone: of every call of the
-- entry points that are lent something to change, over every list of them, and of the states; the theorem is in `GuidesProof`. Assumes nothing.
use Rattle.std.specs.Prelude.{ℕ, ◌≡◌, Bool, true, false, List, Result, Ok, Err}
use Rattle.refusal.specs.declared.Refusal.{Refusal}
use Rattle.context.specs.State.{State}
use Rattle.direct.specs.declared.Command.TheVariants.{Read, Write, Zeroize}
use Rattle.direct.specs.declared.Answer.{Answer}
use Rattle.direct.specs.declared.Answer.TheVariants.{Word as Shown, Burned, Done, Withheld}
use Rattle.direct.specs.Direct.{direct_of}
use Rattle.drive.specs.Drive.{survey_at, active_slot}
use Rattle.mailbox.specs.Mailbox.{Lent, mailbox_of}
use Rattle.history.specs.Calls.{Call, Direct, Erase, EraseCut, Mailbox, TakeReply, MakeTable, Restart, told, after, after_all}

-- an answer with its word left out; the fuses newly set stay (request P8)
abbrev pub wordless : Result Answer Refusal → Result Answer Refusal
wordless (Ok (Shown word)) = Ok (Shown 0)
wordless (Ok (Burned word new)) = Ok (Burned 0 new)
wordless (Ok Done) = Ok Done
wordless (Ok Withheld) = Ok Withheld
wordless (Err r) = Err r

-- a call is a ZEROIZE
abbrev pub zeroizes : Call → Bool
zeroizes (Direct (Read cell)) = false
zeroizes (Direct (Write cell value)) = false
zeroizes (Direct (Zeroize cell)) = true
zeroizes (Erase i) = false
zeroizes (EraseCut i k mask) = false
zeroizes (Mailbox code request response block) = false
zeroizes (TakeReply reply) = false
zeroizes (MakeTable handles algorithms) = false
zeroizes Restart = false

-- two maps by which every call tells and leaves the same, but for the word that a ZEROIZE answers
pub record OnlyTheWord (image other marks : List ℕ) : Type 0 where
  -- a call that is no ZEROIZE tells the same, the mailbox with all that it leaves; a ZEROIZE is refused alike and withheld alike
  pub same_told : (call : Call) → zeroizes call ≡ false → (s : State) → told other marks call s ≡ told image marks call s
  pub same_mailbox : (code : ℕ) (request : List ℕ) (l : Lent) → mailbox_of other marks code request l ≡ mailbox_of image marks code request l
  pub same_but_word : (cell : ℕ) (s : State) → wordless (direct_of other marks (Zeroize cell) s).told ≡ wordless (direct_of image marks (Zeroize cell) s).told
  -- cells and context, after a call and after every list of calls
  pub same_after : (call : Call) (s : State) → after other marks call s ≡ after image marks call s
  pub same_after_all : (calls : List Call) (s : State) → after_all other marks calls s ≡ after_all image marks calls s
  -- the state and the short pairs of each partition, and the active slot
  pub same_survey : (cells : List ℕ) (i : ℕ) → survey_at other cells i ≡ survey_at image cells i
  pub same_active : (cells : List ℕ) → active_slot other cells ≡ active_slot image cells
