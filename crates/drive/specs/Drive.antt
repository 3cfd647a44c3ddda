-- A whole drive, map image, cells and marks: document 01, "Refusal numbers" 1, 2 and 10, and "Active slot and key cache". Assumes nothing.
use Rattle.std.specs.Prelude.{ℕ, ◌≡◌, Bool, true, false, cond, ◌&&◌, not, List, [], ◌∷◌, length, take, drop, eqb, ltb, Result, Ok, Err}
use Rattle.laws.specs.Below.{first_below}
use Rattle.refusal.specs.Refusals.{first_of}
use Rattle.refusal.specs.declared.Refusal.{Refusal}
use Rattle.refusal.specs.declared.Refusal.TheVariants.{BadMap, BadLent}
use Rattle.map.specs.declared.Header.{Header}
use Rattle.map.specs.Map.{header_of, entry_of, zeroizable, slot, map_good}
use Rattle.partition.specs.declared.State.{State}
use Rattle.partition.specs.declared.State.TheVariants.{Erased, Torn, Blank, Programmed}
use Rattle.partition.specs.declared.Survey.{Survey}
use Rattle.partition.specs.Partition.{marked, survey_of}
use Rattle.cache.specs.Cache.{cache_of, has_place}
use Rattle.cache.specs.declared.Sought.TheVariants.{Occupied}
use Rattle.drive.specs.declared.Terms.{Terms}
use Rattle.drive.specs.declared.ActiveSlot.{ActiveSlot}
use Rattle.drive.specs.declared.ActiveSlot.TheVariants.{Programmed as ProgrammedSlot, Blank as BlankSlot, Torn as TornSlot, Absent}

-- ---- refusals 1 and 2, which every call on a drive shares

-- 2: "cells or marks not C long"
unfoldable pub whole_arrays : (image cells marks : List ℕ) → Bool
whole_arrays image cells marks = eqb (length cells) (header_of image).cells && eqb (length marks) (header_of image).cells

-- the first refusals of every call: 1, "map breaks a rule above", then 2
abbrev pub drive_tests : (image cells marks : List ℕ) → List (Bool × Refusal)
drive_tests image cells marks =
    (not (map_good image), BadMap)
    ∷ (not (whole_arrays image cells marks), BadLent)
    ∷ []

-- the check: the first of the two that applies, else the header
unfoldable pub check_of : (image cells marks : List ℕ) → Result Header Refusal
check_of image cells marks = first_of Err (drive_tests image cells marks) (Ok (header_of image))

-- a map and cells that neither refusal concerns: what the functions below the entry points ask for
pub record Whole (image cells : List ℕ) : Type 0 where
  pub good : map_good image ≡ true
  pub long : length cells ≡ (header_of image).cells

-- ---- partitions

-- "A partition's cells are handed on as a part of the array that starts where the partition starts"
abbrev pub cells_of : (image cells : List ℕ) (i : ℕ) → List ℕ
cells_of image cells i = take (entry_of image i).n (drop (entry_of image i).first cells)

-- what its pairs are judged by: the map's bound, and whether the partition is zeroizable
abbrev pub terms_of : (image : List ℕ) (i : ℕ) → Terms
terms_of image i = record { bound = (header_of image).bound; zeroizable = zeroizable (entry_of image i) }

-- the state and the short pairs of partition i
unfoldable pub survey_at : (image cells : List ℕ) (i : ℕ) → Survey
survey_at image cells i = survey_of (zeroizable (entry_of image i)) (header_of image).bound (cells_of image cells i)

-- partition i is marked (request P4)
unfoldable pub marked_at : (image cells : List ℕ) (i : ℕ) → Bool
marked_at image cells i = marked (zeroizable (entry_of image i)) (cells_of image cells i)

-- ---- the active slot

-- the answer for a slot in partition i, by its state: an erased slot is passed over
abbrev pub slot_in : State → (i : ℕ) → ActiveSlot
slot_in Erased i = Absent
slot_in Torn i = TornSlot i
slot_in Blank i = BlankSlot i
slot_in Programmed i = ProgrammedSlot i

-- partition i as the active slot: absent where it is no slot or is erased
unfoldable pub slot_at : (image cells : List ℕ) (i : ℕ) → ActiveSlot
slot_at image cells i = cond (slot (entry_of image i)) (slot_in (survey_at image cells i).state i) Absent

-- there is an active slot
abbrev pub present : ActiveSlot → Bool
present Absent = false
present (TornSlot i) = true
present (BlankSlot i) = true
present (ProgrammedSlot i) = true

-- partition i is a slot that is not erased
unfoldable pub open_slot : (image cells : List ℕ) (i : ℕ) → Bool
open_slot image cells i = present (slot_at image cells i)

-- "Active slot: the first slot in map order that is not erased": its partition, P where there is none
abbrev pub active_place : (image cells : List ℕ) → ℕ
active_place image cells = first_below (open_slot image cells) (header_of image).partitions

unfoldable pub active_slot : (image cells : List ℕ) → ActiveSlot
active_slot image cells = cond (ltb (active_place image cells) (header_of image).partitions) (slot_at image cells (active_place image cells)) Absent

-- the document's number for each case: "active slot's partition or 0xFFFFFFFF"
abbrev pub slot_number : ActiveSlot → ℕ
slot_number (ProgrammedSlot i) = i
slot_number (BlankSlot i) = i
slot_number (TornSlot i) = i
slot_number Absent = 0xFFFF_FFFF

-- "The HEK is available when there is one and it is programmed. A torn slot is active and gives no HEK"
abbrev pub available : ActiveSlot → Bool
available (ProgrammedSlot i) = true
available (BlankSlot i) = false
available (TornSlot i) = false
available Absent = false

-- ---- slots while a place of the cache is not empty

-- 10, "slot change while keys are held": "WRITE, ZEROIZE and erasure on a slot are refused (10) while any place is held"; by request P5
-- "Waiting and unsure places count as held"
abbrev pub slot_in_use : (image : List ℕ) (i : ℕ) (context : List ℕ) → Bool
slot_in_use image i context = slot (entry_of image i) && has_place (cache_of context) Occupied
