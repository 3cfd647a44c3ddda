-- Document 02, request P1: why a drive offers no HEK. Assumes nothing.
use Rattle.std.specs.Prelude.{ℕ, ◌+◌, Bool, cond, not, List, Result, Ok, Err}
use Rattle.laws.specs.Below.{all_below}
use Rattle.refusal.specs.Refusals.{first_of}
use Rattle.refusal.specs.declared.Refusal.{Refusal}
use Rattle.map.specs.Map.{header_of, entry_of, slot}
use Rattle.partition.specs.Partition.{torn_pair}
use Rattle.partition.specs.declared.ShortPair.{ShortPair}
use Rattle.drive.specs.Drive.{drive_tests, cells_of, active_slot}
use Rattle.drive.specs.declared.ActiveSlot.{ActiveSlot}
use Rattle.drive.specs.declared.ActiveSlot.TheVariants.{Programmed as ProgrammedSlot, Blank as BlankSlot, Torn as TornSlot, Absent}
use Rattle.reason.specs.declared.Reason.{Reason}
use Rattle.reason.specs.declared.Reason.TheVariants.{Available, NoSlot, AllErased, Blank, Torn}

-- partition i is no slot
unfoldable pub not_slot : (image : List ℕ) (i : ℕ) → Bool
not_slot image i = not (slot (entry_of image i))

-- "the map has no slot"
abbrev pub no_slot : (image : List ℕ) → Bool
no_slot image = all_below (not_slot image) (header_of image).partitions

-- "torn also with its first short pair and that pair's ones": the pair by its first cell in the whole array
abbrev pub torn_reason : (image cells : List ℕ) (i : ℕ) → Reason
torn_reason image cells i =
    let pair : ShortPair = torn_pair (header_of image).bound (cells_of image cells i) in
    Torn i ((entry_of image i).first + pair.cell) pair.ones

-- the reason by the active slot
abbrev pub reason_by : (image cells : List ℕ) → ActiveSlot → Reason
-- "and none when the HEK is available"
reason_by image cells (ProgrammedSlot i) = Available
-- "the active slot is blank, or it is torn; both with the partition"
reason_by image cells (BlankSlot i) = Blank i
reason_by image cells (TornSlot i) = torn_reason image cells i
-- "the map has no slot, it has some and all are erased"
reason_by image cells Absent = cond (no_slot image) NoSlot AllErased

-- "Walk the slots until the first that is not erased"
unfoldable pub reason_in : (image cells : List ℕ) → Reason
reason_in image cells = reason_by image cells (active_slot image cells)

-- "Refusals: 1, 2": the lowest that applies, else the reason
abbrev pub reason_of : (image cells marks : List ℕ) → Result Reason Refusal
reason_of image cells marks = first_of Err (drive_tests image cells marks) (Ok (reason_in image cells))
