-- The order and runs at numbers, by computation: cut and whole, over single cells and over pairs, with stuck fuses. Assumes nothing.
use Rattle.std.specs.Prelude.{ℕ, ◌≡◌, refl, true, false, List, [], ◌∷◌, ◌++◌, replicate}
use Rattle.std.specs.Int.Count.{ones_in}
use Rattle.fuse.specs.Fuse.{burn_cell, burn_word, set_fuses, new_fuses}
use Rattle.partition.specs.Partition.{marked}
use Rattle.burns.specs.declared.End.TheVariants.{Whole, Stopped, Cut}
use Rattle.burns.specs.Run.{word_from, pair_from, words_from, order, tally_of, goes_on, stops_after, ran, burns_of, run}

abbrev all : ℕ
all = 0xFFFF_FFFF

abbrev zeros : ℕ → List ℕ
zeros n = replicate n 0

-- eight cells: indicator, data, digest; in a software partition the data words are single cells
orders : order false 8 ∷ order true 8 ∷ []
    ≡ (pair_from 6 ∷ pair_from 0 ∷ pair_from 2 ∷ pair_from 4 ∷ [])
    ∷ (pair_from 6 ∷ word_from false 0 ∷ word_from false 1 ∷ word_from false 2 ∷ word_from false 3 ∷ pair_from 4 ∷ []) ∷ []
unfolding order words_from
orders = refl

runs :
    -- cut at the indicator; at the second data word; at the digest
    run (zeros 8) false 0 0x3_0000_0005 (zeros 8)
    ∷ run (zeros 8) false 2 0x3_0000_0005 (zeros 8)
    ∷ run (zeros 8) false 3 0x3_0000_0005 (zeros 8)
    -- a word of one cell takes the mask's low 32 bits
    ∷ run (zeros 6) true 1 0x3_0000_0005 (zeros 6)
    -- it goes on through a short word, here with five fuses stuck, and begins with the indicator though the first pair is full
    ∷ run (0 ∷ 0 ∷ 0x1F ∷ zeros 5) false 9 0 (all ∷ all ∷ zeros 6)
    -- all fuses of the indicator stuck but one, all of them, which stops it and sets nothing, and all of them where one was set before
    ∷ run (zeros 6 ++ (all ∷ 0x7FFF_FFFF ∷ [])) true 9 0 (1 ∷ zeros 7)
    ∷ run (zeros 6 ++ (all ∷ all ∷ [])) true 9 0 (1 ∷ zeros 7)
    ∷ run (zeros 6 ++ (all ∷ all ∷ [])) true 9 0 (1 ∷ zeros 5 ++ (4 ∷ 0 ∷ []))
    ∷ []
    ≡ ran Cut (tally_of (0 ∷ 0 ∷ 0 ∷ 0 ∷ 0 ∷ 0 ∷ 5 ∷ 3 ∷ []) 1 4)
    ∷ ran Cut (tally_of (all ∷ all ∷ 5 ∷ 3 ∷ 0 ∷ 0 ∷ all ∷ all ∷ []) 3 132)
    ∷ ran Cut (tally_of (all ∷ all ∷ all ∷ all ∷ 5 ∷ 3 ∷ all ∷ all ∷ []) 4 196)
    ∷ ran Cut (tally_of (5 ∷ 0 ∷ 0 ∷ 0 ∷ all ∷ all ∷ []) 2 66)
    ∷ ran Whole (tally_of (all ∷ all ∷ 0xFFFF_FFE0 ∷ all ∷ all ∷ all ∷ all ∷ all ∷ []) 4 187)
    ∷ ran Whole (tally_of (all ∷ all ∷ all ∷ all ∷ all ∷ all ∷ 0 ∷ 0x8000_0000 ∷ []) 6 192)
    ∷ ran Stopped (tally_of (1 ∷ zeros 7) 1 0)
    ∷ ran Whole (tally_of (all ∷ all ∷ all ∷ all ∷ all ∷ all ∷ 4 ∷ 0 ∷ []) 6 191)
    ∷ []
unfolding burns_of order words_from burn_word burn_cell new_fuses set_fuses ones_in stops_after goes_on marked
runs = refl
