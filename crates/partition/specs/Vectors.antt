-- The customer's number, by computation: a partition of 32 cells, 1,024 fuses, bound 60, in which one pair lacks five fuses or four.
-- Assumes nothing.
use Rattle.std.specs.Prelude.{ℕ, ◌≡◌, refl, true, false, List, [], ◌∷◌, ◌++◌, replicate, Some, None}
use Rattle.std.specs.Int.Count.{ones_in}
use Rattle.laws.specs.Below.{all_below, count_below, first_from}
use Rattle.partition.specs.Partition.{short_at, lowest_short, counted, marked, zero_cell, state_of, survey_of, torn_pair}
use Rattle.partition.specs.declared.State.TheVariants.{Erased, Torn, Blank, Programmed}

-- n cells with every fuse set
abbrev full : (n : ℕ) → List ℕ
full n = replicate n 0xFFFF_FFFF

-- 32 cells, of which cell 7, the high half of pair 3, reads v
abbrev weak : (v : ℕ) → List ℕ
weak v = full 7 ++ (v ∷ full 24)

-- the same with the weak half in the indicator, the last pair
abbrev weak_indicator : (v : ℕ) → List ℕ
weak_indicator v = full 31 ++ (v ∷ [])

-- 59 of 64, 1,019 of 1,024 in all: torn, one short pair, the lowest starts at cell 6
torn_59 : (survey_of true 60 (weak 0xFFFF_FFE0) ≡ record { state = Torn; short = 1 }) × (lowest_short 60 (weak 0xFFFF_FFE0) ≡ Some 6)
unfolding state_of marked short_at count_below lowest_short first_from ones_in
torn_59 = (refl, refl)

-- request P1: of two short pairs, 59 ones at cell 6 and 33 at cell 12, the first is told, with its ones
first_of_two : torn_pair 60 (full 7 ++ (0xFFFF_FFE0 ∷ (full 4 ++ (1 ∷ full 19)))) ≡ record { cell = 6; ones = 59 }
unfolding short_at first_from ones_in
first_of_two = refl

-- 60 of 64: erased
erased_60 : (survey_of true 60 (weak 0xFFFF_FFF0) ≡ record { state = Erased; short = 0 }) × (lowest_short 60 (weak 0xFFFF_FFF0) ≡ None)
unfolding state_of marked short_at count_below lowest_short first_from ones_in
erased_60 = (refl, refl)

-- request P4: 59 of 64 in the indicator alone. It is not counted as zeroized, yet marked, so that it is erased; the indicator is told as
-- short
indicator_59 : (counted true 60 (weak_indicator 0xFFFF_FFE0) ≡ false) × (survey_of true 60 (weak_indicator 0xFFFF_FFE0) ≡ record { state = Erased; short = 1 })
    × (lowest_short 60 (weak_indicator 0xFFFF_FFE0) ≡ Some 30)
unfolding state_of counted marked short_at count_below lowest_short first_from ones_in
indicator_59 = (refl, refl, refl)

-- 59 of 64 in pair 3 and in the indicator: torn by pair 3
both_59 : (survey_of true 60 (full 7 ++ (0xFFFF_FFE0 ∷ full 23 ++ (0xFFFF_FFE0 ∷ []))) ≡ record { state = Torn; short = 2 })
    × (torn_pair 60 (full 7 ++ (0xFFFF_FFE0 ∷ full 23 ++ (0xFFFF_FFE0 ∷ []))) ≡ record { cell = 6; ones = 59 })
unfolding state_of marked short_at count_below first_from ones_in
both_59 = (refl, refl)

-- one set fuse marks it, and none does not: a seed and no more is torn, then programmed
one_fuse : survey_of true 60 (1 ∷ 0 ∷ 0 ∷ 0 ∷ 0 ∷ 0x8000_0000 ∷ []) ∷ survey_of true 60 (1 ∷ 0 ∷ 0 ∷ 0 ∷ 0 ∷ 0 ∷ []) ∷ []
    ≡ record { state = Torn; short = 3 } ∷ record { state = Programmed; short = 3 } ∷ []
unfolding state_of marked short_at count_below zero_cell all_below ones_in
one_fuse = refl

-- a partition that is not zeroizable is never marked, whatever its fuses
never_marked : survey_of false 60 (full 6) ≡ record { state = Programmed; short = 0 }
unfolding state_of marked short_at count_below zero_cell all_below ones_in
never_marked = refl

-- digest fuses alone leave a partition blank
blank_digest : survey_of true 60 (0 ∷ 0 ∷ 5 ∷ 0 ∷ 0 ∷ 0 ∷ []) ≡ record { state = Blank; short = 3 }
unfolding state_of marked short_at count_below zero_cell all_below ones_in
blank_digest = refl
