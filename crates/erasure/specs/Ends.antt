-- What an erasure leaves of its partition, told by its own answer: one that ended leaves it erased or torn, and 15, which is given exactly
-- when no indicator fuse is set, leaves every cell. Assumes nothing.
-- The theorems stand in proofs/Ends.antt and proofs/Leaves.antt.
use Rattle.std.specs.Prelude.{ℕ, ◌-◌, ◌≤◌, ◌<◌, ◌≡◌, ◌⊎◌, ◌↔◌, Ok, Err}
use mathlib.Core.List.{List}
use Rattle.std.proofs.Math.ListN.{get_or}
use Rattle.std.specs.Int.Bits.{bit_or}
use Rattle.erasure.specs.Erasure.{Told}
use Rattle.map.specs.Map.{entry_of, end_of}
use Rattle.fuse.specs.Fuse.{free}
use Rattle.partition.specs.declared.Survey.{Survey}
use Rattle.partition.specs.declared.State.TheVariants.{Erased, Torn}
use Rattle.drive.specs.Drive.{survey_at}
use Rattle.erasure.specs.declared.Answer.{Answer}
use Rattle.erasure.specs.declared.Answer.TheVariants.{Ended, Cut}

-- the first cell of a zeroizable partition's indicator, its last pair, in the whole array
abbrev pub indicator_cell : (image : List ℕ) (i : ℕ) → ℕ
indicator_cell image i = end_of (entry_of image i) - 2

-- ---- the claims

-- a partition of which an erasure that ended has told so many short pairs and this first short cell; its indicator starts at `cell`
pub record LeftBy (cell short first : ℕ) (left : Survey) : Type 0 where
  -- "Erased now means marked with no short pair besides the indicator": no pair is short, or the first short cell is the indicator's
  pub erased : (left.state ≡ Erased) ↔ ((short ≡ 0) ⊎ (first ≡ cell))
  -- "torn means marked otherwise"
  pub torn : (left.state ≡ Erased → ⊥) → left.state ≡ Torn
  -- "an erased slot may report one short pair", and no more
  pub one_most : left.state ≡ Erased → short ≤ 1
  pub as_told : left.short ≡ short

-- "no indicator fuse is set after its burn": each of its two cells is 0 with every fuse set that is not stuck
abbrev pub NoneSet : (image cells marks : List ℕ) (i : ℕ) → Type 0
NoneSet image cells marks i = (j : ℕ) → indicator_cell image i ≤ j → j < end_of (entry_of image i) → bit_or (get_or cells j 0) (free (get_or marks j 0)) ≡ 0

-- ---- what an answer says of the partition: one that ended tells its short pairs and the first, any other nothing

abbrev pub LeftAs : (image : List ℕ) (i : ℕ) → Told → (cells : List ℕ) → Type 0
LeftAs image i (Ok (Ended short first burns new)) cells = LeftBy (indicator_cell image i) short first (survey_at image cells i)
LeftAs image i (Ok (Cut burns new)) cells = Unit {0}
LeftAs image i (Err refused) cells = Unit {0}
