-- Document 02, request P1: "Each is given exactly when it holds, and none when the HEK is available". Here is the claim: when each reason
-- holds, in the request's words over the definitions of slot and state, and that it is given exactly then. Assumes nothing.
-- The theorems stand in proofs/Exactly.antt.
use Rattle.std.specs.Prelude.{ℕ, ◌+◌, ◌*◌, ◌≤◌, ◌<◌, ◌≡◌, ◌⊎◌, ◌↔◌, List, Ok, Err}
use Rattle.std.proofs.Math.Bool.{true, false}
use Rattle.refusal.specs.declared.Refusal.{Refusal}
use Rattle.refusal.specs.declared.Refusal.TheVariants.{BadMap, BadLent}
use Rattle.map.specs.Map.{header_of, entry_of, slot, map_good}
use Rattle.fuse.specs.Fuse.{held_at, ones_of}
use Rattle.partition.specs.Partition.{indicator}
use Rattle.partition.specs.declared.State.TheVariants.{Blank as BlankState, Torn as TornState}
use Rattle.drive.specs.Drive.{whole_arrays, cells_of}
use Rattle.drive.specs.Active.{Active, ErasedBelow, Available as Hek}
use Rattle.reason.specs.declared.Reason.{Reason}
use Rattle.reason.specs.declared.Reason.TheVariants.{Available, NoSlot, AllErased, Blank, Torn}
use Rattle.reason.specs.Reason.{reason_of}

-- ---- the claim

-- pair j of partition i, in the whole array
abbrev pub pair_in : (image cells : List ℕ) (i j : ℕ) → ℕ
pair_in image cells i j = held_at cells ((entry_of image i).first + 2 * j)

-- "its first short pair and that pair's ones", where "P1 passes over the indicator" (P4): among the pairs before the indicator, the one that
-- starts at this cell of the whole array has so many ones, which is below the bound, and no pair before it has fewer ones than the bound
pub record FirstShort (image cells : List ℕ) (i cell ones : ℕ) : Type 0 where
  pub pair : ℕ
  pub within : pair < indicator (cells_of image cells i)
  pub cell_is : cell ≡ (entry_of image i).first + 2 * pair
  pub ones_are : ones ≡ ones_of (pair_in image cells i pair)
  pub short_there : ones < (header_of image).bound
  pub none_before : (j : ℕ) → j < pair → (header_of image).bound ≤ ones_of (pair_in image cells i j)

-- when each reason holds, of a drive that is not refused
abbrev pub Holds : (image cells : List ℕ) → Reason → Type 0
-- "the map has no slot"
Holds image cells NoSlot = (i : ℕ) → i < (header_of image).partitions → slot (entry_of image i) ≡ false
-- "it has some and all are erased"
Holds image cells AllErased =
    ((i : ℕ) × (i < (header_of image).partitions) × (slot (entry_of image i) ≡ true)) × ErasedBelow image cells (header_of image).partitions
-- "the active slot is blank", "with the partition"
Holds image cells (Blank i) = Active image cells i BlankState
-- "or it is torn", "torn also with its first short pair and that pair's ones"
Holds image cells (Torn i cell ones) = Active image cells i TornState × FirstShort image cells i cell ones
-- "none when the HEK is available": the first slot that is not erased is programmed
Holds image cells Available = Hek image cells

-- "Refusals: 1, 2"
abbrev pub RefusedWith : (image cells marks : List ℕ) (r : Refusal) → Type 0
RefusedWith image cells marks r =
    ((r ≡ BadMap) × (map_good image ≡ false)) ⊎ ((r ≡ BadLent) × (map_good image ≡ true) × (whole_arrays image cells marks ≡ false))

-- "Each is given exactly when it holds"; and one always holds, and only one
pub record Exactly (image cells marks : List ℕ) : Type 0 where
  pub refused : (r : Refusal) → (reason_of image cells marks ≡ Err r) ↔ RefusedWith image cells marks r
  pub given : map_good image ≡ true → whole_arrays image cells marks ≡ true → (reason : Reason) → (reason_of image cells marks ≡ Ok reason) ↔ Holds image cells reason
  pub one : (reason : Reason) × Holds image cells reason × ((other : Reason) → Holds image cells other → other ≡ reason)
