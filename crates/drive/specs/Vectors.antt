-- The active slot, by computation: two slots of six cells, bound 60, each erased, torn at 59, blank or programmed. Assumes nothing.
use Rattle.std.specs.Prelude.{ℕ, ◌≡◌, refl, true, false, List, [], ◌∷◌, ◌++◌, map, replicate, Err}
use Rattle.std.specs.Int.Count.{ones_in}
use Rattle.laws.specs.Tests.{every}
use Rattle.laws.specs.Below.{all_below, count_below, first_from}
use Rattle.refusal.specs.declared.Refusal.TheVariants.{BadMap, BadLent}
use Rattle.endian.specs.Endian.{u16_at}
use Rattle.map.specs.Map.{header_good, filler_good, entry_good, place_good, map_good}
use Rattle.map.specs.Image.{image, entry}
use Rattle.map.specs.Vectors.{one}
use Rattle.partition.specs.Partition.{short_at, marked, zero_cell, state_of}
use Rattle.drive.specs.Drive.{whole_arrays, check_of, survey_at, slot_at, open_slot, active_slot, available}
use Rattle.drive.specs.declared.ActiveSlot.{ActiveSlot}
use Rattle.drive.specs.declared.ActiveSlot.TheVariants.{Programmed, Blank, Torn, Absent}

abbrev pub erased : List ℕ
erased = replicate 6 0xFFFF_FFFF

abbrev pub torn : List ℕ
torn = 0xFFFF_FFE0 ∷ replicate 5 0xFFFF_FFFF

abbrev pub blank : List ℕ
blank = replicate 6 0

abbrev pub programmed : List ℕ
programmed = 1 ∷ replicate 5 0

abbrev two_slots : (first second : List ℕ) → ActiveSlot
two_slots first second = active_slot (image 2 12 60 8 [] (entry 0 6 0 7 ++ entry 6 6 0 7)) (first ++ second)

-- the first that is not erased: a torn slot is active, though the next is programmed
slots :
    two_slots programmed erased ∷ two_slots erased programmed ∷ two_slots torn programmed ∷ two_slots blank programmed ∷ two_slots erased blank ∷ two_slots erased erased ∷ []
    ≡ Programmed 0 ∷ Programmed 1 ∷ Torn 0 ∷ Blank 0 ∷ Blank 1 ∷ Absent ∷ []
unfolding active_slot open_slot slot_at survey_at state_of marked short_at zero_cell all_below count_below first_from u16_at ones_in
slots = refl

-- only a programmed slot gives the HEK
hek : map available (Programmed 3 ∷ Blank 3 ∷ Torn 3 ∷ Absent ∷ []) ≡ true ∷ false ∷ false ∷ false ∷ []
hek = refl

-- a map with no slot
none : active_slot (one (entry 0 6 0 3)) (replicate 12 0) ≡ Absent
unfolding active_slot open_slot slot_at first_from u16_at
none = refl

-- refusal 1 before 2, 2 for either array
refusals :
    check_of [] (0 ∷ []) []
    ∷ check_of (one (entry 0 6 0 3)) (replicate 11 0) (replicate 12 0)
    ∷ check_of (one (entry 0 6 0 3)) (replicate 12 0) (replicate 13 0)
    ∷ []
    ≡ Err BadMap ∷ Err BadLent ∷ Err BadLent ∷ []
unfolding check_of whole_arrays map_good every header_good filler_good entry_good place_good all_below u16_at
refusals = refl
