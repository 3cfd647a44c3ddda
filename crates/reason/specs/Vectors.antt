-- The reasons, by computation: the small drive as document 01's cases leave it, and two slots of six cells, bound 60. Assumes nothing.
use Rattle.std.specs.Prelude.{ℕ, ◌≡◌, refl, List, [], ◌∷◌, ◌++◌, map, replicate, Err, Result, Ok}
use Rattle.std.specs.Int.Count.{ones_in}
use Rattle.laws.specs.Tests.{every}
use Rattle.laws.specs.Below.{all_below, count_below, first_from}
use Rattle.refusal.specs.declared.Refusal.TheVariants.{BadMap, BadLent}
use Rattle.refusal.specs.declared.Refusal.{Refusal}
use Rattle.endian.specs.Endian.{u16_at}
use Rattle.map.specs.Map.{header_good, filler_good, entry_good, place_good, map_good}
use Rattle.map.specs.Image.{image, entry}
use Rattle.map.specs.Vectors.{one, two}
use Rattle.partition.specs.Partition.{short_at, marked, zero_cell, state_of}
use Rattle.drive.specs.Drive.{whole_arrays, survey_at, slot_at, open_slot, active_slot}
use Rattle.drive.specs.Vectors.{erased, torn, blank, programmed}
use Rattle.reason.specs.declared.Reason.{Reason}
use Rattle.reason.specs.declared.Reason.TheVariants.{Available, NoSlot, AllErased, Blank, Torn}
use Rattle.reason.specs.Reason.{not_slot, reason_in, reason_of}

-- the small drive, with these cells in its slot
abbrev small : (slot : List ℕ) → Result Reason Refusal
small slot = reason_of (image 2 12 60 8 [] two) (slot ++ replicate 6 0) (replicate 12 0)

-- as it stands; new; after case 2; after case 4; after case 5, its indicator at 59; after case 6 with the low 59 bits; at 59 in its digest
-- and its indicator
cases :
    map small
    (programmed
    ∷ blank
    ∷ erased
    ∷ (0xFFFF_FFFF ∷ 0xFFFF_FFE0 ∷ replicate 4 0xFFFF_FFFF)
    ∷ (replicate 5 0xFFFF_FFFF ++ (0xFFFF_FFE0 ∷ []))
    ∷ (1 ∷ 0 ∷ 0 ∷ 0 ∷ 0xFFFF_FFFF ∷ 0x07FF_FFFF ∷ [])
    ∷ (0xFFFF_FFFF ∷ 0xFFFF_FFFF ∷ 0xFFFF_FFFF ∷ 0xFFFF_FFE0 ∷ 0xFFFF_FFFF ∷ 0xFFFF_FFE0 ∷ [])
    ∷ [])
    ≡ map Ok (Available ∷ Blank 0 ∷ AllErased ∷ Torn 0 0 59 ∷ AllErased ∷ Torn 0 0 1 ∷ Torn 0 2 59 ∷ [])
unfolding reason_in not_slot active_slot open_slot slot_at survey_at state_of marked short_at zero_cell map_good whole_arrays every header_good filler_good entry_good
    place_good all_below count_below first_from u16_at ones_in
cases = refl

abbrev two_slots : (first second : List ℕ) → Result Reason Refusal
two_slots first second = reason_of (image 2 12 60 8 [] (entry 0 6 0 7 ++ entry 6 6 0 7)) (first ++ second) (replicate 12 0)

-- "the first that is not erased", its pair by the whole array's cells; no reason where the second slot has the HEK; a map without slots
slots :
    two_slots erased torn ∷ two_slots torn programmed ∷ two_slots erased blank ∷ two_slots erased programmed ∷ two_slots erased erased
    ∷ reason_of (one (entry 0 6 0 3)) (replicate 12 0) (replicate 12 0) ∷ []
    ≡ map Ok (Torn 1 6 59 ∷ Torn 0 0 59 ∷ Blank 1 ∷ Available ∷ AllErased ∷ NoSlot ∷ [])
unfolding reason_in not_slot active_slot open_slot slot_at survey_at state_of marked short_at zero_cell map_good whole_arrays every header_good filler_good entry_good
    place_good all_below count_below first_from u16_at ones_in
slots = refl

-- 1 before 2, 2 for either array
refusals :
    reason_of [] (0 ∷ []) [] ∷ reason_of (one (entry 0 6 0 3)) [] (replicate 12 0) ∷ reason_of (one (entry 0 6 0 3)) (replicate 12 0) [] ∷ []
    ≡ Err BadMap ∷ Err BadLent ∷ Err BadLent ∷ []
unfolding map_good whole_arrays every header_good filler_good entry_good place_good all_below u16_at
refusals = refl
