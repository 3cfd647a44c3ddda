-- The definitions at numbers, by computation: the customer's 59 and 60 of 64, and burns with stuck fuses. Assumes nothing.
use Rattle.std.specs.Prelude.{◌≡◌, refl, true, false, [], ◌∷◌}
use Rattle.std.specs.Int.Count.{ones_in}
use Rattle.fuse.specs.Fuse.{burn, pair_of, ones_of, short, burn_cell, burn_word, set_fuses, new_fuses}

-- five fuses missing leave 59, which is short of 60; four leave 60, which is not
fifty_nine : ones_of (pair_of 0xFFFF_FFFF 0xFFFF_FFE0) ≡ 59
unfolding ones_in
fifty_nine = refl

short_59 : short 60 (pair_of 0xFFFF_FFFF 0xFFFF_FFE0) ≡ true
unfolding ones_in
short_59 = refl

full_60 : short 60 (pair_of 0xFFFF_FFFF 0xFFFF_FFF0) ≡ false
unfolding ones_in
full_60 = refl

-- a burn keeps fuse 31, which v lacks, and leaves the stuck fuses 8 to 15
burn_kept : burn 0x8000_0000 0x7FFF_FFFF 0x0000_FF00 ≡ 0xFFFF_00FF
burn_kept = refl

-- a mark on a set fuse has no effect
burn_set : burn 0x0000_0100 0xFFFF_FFFF 0x0000_0100 ≡ 0xFFFF_FFFF
burn_set = refl

-- a word of one cell takes the low 32 bits alone, a pair takes both halves, and the cells around them stay
narrow : burn_word (0 ∷ 0 ∷ 0 ∷ []) 1 false 0x0000_0002_0000_0001 (4 ∷ 0 ∷ 4 ∷ []) ≡ 4 ∷ 1 ∷ 4 ∷ []
unfolding burn_word burn_cell
narrow = refl

wide : burn_word (0 ∷ 1 ∷ 0 ∷ 0 ∷ []) 1 true 0x0000_0002_0000_0003 (4 ∷ 0 ∷ 4 ∷ 4 ∷ []) ≡ 4 ∷ 2 ∷ 6 ∷ 4 ∷ []
unfolding burn_word burn_cell
wide = refl

-- newly set (request P8): of five fuses of v one is stuck and one was set, which has a mark besides; a word of one cell, and again the pair: none
newly :
    new_fuses (0x11 ∷ 0 ∷ []) 0 true 0x0000_0003_0000_0013 (0x10 ∷ 0 ∷ []) ∷ new_fuses (0 ∷ 0 ∷ []) 1 false 0x0000_0003_0000_0007 (0 ∷ 1 ∷ [])
    ∷ new_fuses (0x11 ∷ 0 ∷ []) 0 true 0x0000_0003_0000_0013 (0x12 ∷ 3 ∷ []) ∷ []
    ≡ 3 ∷ 2 ∷ 0 ∷ []
unfolding new_fuses set_fuses burn_word burn_cell ones_in
newly = refl
