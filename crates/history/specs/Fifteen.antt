-- Request P4: "15 is given exactly when no indicator fuse is set after its burn". Here is the claim, of every call of every entry point.
-- That 15 leaves every cell is `refused_unchanged`, that it tells one burn `erasure` `burns_told`. Assumes nothing.
-- The theorems stand in proofs/Fifteen.antt.
use Rattle.std.specs.Prelude.{ℕ, ◌≤◌, ◌≡◌, ◌⊎◌, ◌↔◌, List}
use Rattle.context.specs.State.{State}
use Rattle.erasure.specs.Ends.{NoneSet}
use Rattle.codec.specs.declared.Command.TheVariants.{Fers}
use Rattle.codec.specs.Fields.{code_of}
use Rattle.mailbox.specs.Mailbox.{partition_in}
use Rattle.history.specs.Calls.{Call, Direct, Erase, EraseCut, Mailbox, TakeReply, MakeTable, Restart, told, refusal}

-- ---- the claim

-- a call that asks for the erasure of partition i and, where nothing refuses it before, burns its indicator whole; one that is cut in that
-- burn is told as cut
abbrev pub BurnsIndicator : Call → (i : ℕ) → Type 0
BurnsIndicator (Direct command) i = ⊥
BurnsIndicator (Erase j) i = j ≡ i
BurnsIndicator (EraseCut j k mask) i = (j ≡ i) × (1 ≤ k)
BurnsIndicator (Mailbox code request response block) i = (code ≡ code_of Fers) × (partition_in request ≡ i)
BurnsIndicator (TakeReply reply) i = ⊥
BurnsIndicator (MakeTable handles algorithms) i = ⊥
BurnsIndicator Restart i = ⊥

-- no other number is given
abbrev pub NoOther : (number : ℕ) → Type 0
NoOther number = (number ≡ 0) ⊎ (number ≡ 15)

pub record Fifteen (image marks : List ℕ) (call : Call) (s : State) : Type 0 where
  -- where no other number is given, 15 is given exactly when no indicator fuse is set after its burn
  pub exactly : (i : ℕ) → BurnsIndicator call i → NoOther (refusal (told image marks call s))
      → (refusal (told image marks call s) ≡ 15) ↔ NoneSet image s.cells marks i
  -- and it is given to no other call
  pub only : refusal (told image marks call s) ≡ 15 → (i : ℕ) × BurnsIndicator call i
