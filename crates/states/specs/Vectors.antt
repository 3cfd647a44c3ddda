-- The listing of a drive, by computation: the four states beside each other under the bound 60, and the refusals. Assumes nothing.
use Rattle.std.specs.Prelude.{ℕ, ◌≡◌, refl, List, [], ◌∷◌, ◌++◌, replicate, Result, Ok, Err}
use Rattle.std.specs.Int.Count.{ones_in}
use Rattle.laws.specs.Tests.{every}
use Rattle.laws.specs.Below.{all_below, count_below, join_below}
use Rattle.refusal.specs.declared.Refusal.{Refusal}
use Rattle.refusal.specs.declared.Refusal.TheVariants.{BadMap, BadLent}
use Rattle.context.specs.State.{Outcome, outcome, refusing}
use Rattle.endian.specs.Endian.{u16_at}
use Rattle.map.specs.Map.{header_good, filler_good, entry_good, place_good, map_good}
use Rattle.map.specs.Image.{image, entry}
use Rattle.partition.specs.Partition.{short_at, marked, zero_cell, state_of}
use Rattle.drive.specs.Drive.{whole_arrays, survey_at}
use Rattle.drive.specs.Vectors.{torn, blank, programmed}
use Rattle.states.specs.States.{state_in, short_in, Lists, lists, listing_of}

abbrev four_slots : List ℕ
four_slots = image 4 24 60 8 [] (entry 0 6 0 7 ++ entry 6 6 0 7 ++ entry 12 6 0 7 ++ entry 18 6 0 7)

-- two arrays of five places
abbrev lent : Lists
lent = lists (replicate 5 9) (replicate 5 8)

abbrev listed : (image cells marks : List ℕ) → Outcome (Result ℕ Refusal) Lists
listed image cells marks = listing_of image cells marks lent

-- programmed, erased with a short indicator, torn at 59, blank: the numbers of the states, and 3, 1, 1, 3 short pairs; a place past the
-- fourth keeps its number
four_states :
    listed four_slots (programmed ++ (replicate 5 0xFFFF_FFFF ++ (0xFFFF_FFE0 ∷ [])) ++ torn ++ blank) (replicate 24 0)
    ≡ outcome (Ok 4) (lists (3 ∷ 0 ∷ 1 ∷ 2 ∷ 9 ∷ []) (3 ∷ 1 ∷ 1 ∷ 3 ∷ 8 ∷ []))
unfolding state_in short_in survey_at state_of marked short_at zero_cell map_good whole_arrays every header_good filler_good entry_good place_good all_below count_below join_below u16_at ones_in
four_states = refl

-- 1 before 2, and nothing is listed
refusals :
    listed [] (0 ∷ []) [] ∷ listed four_slots [] (replicate 24 0) ∷ listed four_slots (replicate 24 0) [] ∷ []
    ≡ refusing Err lent BadMap ∷ refusing Err lent BadLent ∷ refusing Err lent BadLent ∷ []
unfolding map_good whole_arrays every header_good filler_good entry_good place_good all_below u16_at
refusals = refl
