-- The rules at images, by computation: each broken image differs from a good one in the rule that it names; the edges on the good
-- side are good. Assumes nothing.
use Rattle.std.specs.Prelude.{ℕ, zero, suc, ◌+◌, ◌≡◌, refl, true, false, List, [], ◌∷◌, ◌++◌, map, replicate}
use Rattle.laws.specs.Tests.{every}
use Rattle.laws.specs.Below.{all_below}
use Rattle.endian.specs.Endian.{u16_at, bytes2}
use Rattle.map.specs.Image.{entry, image}
use Rattle.map.specs.Map.{header_good, filler_good, entry_good, place_good, map_good}

-- entries of four cells, one after the other
abbrev row : (count first : ℕ) → List ℕ
row zero first = []
row (suc k) first = entry first 4 0 0 ++ row k (first + 4)

-- the small drive's two entries, and images with them
abbrev pub two : List ℕ
two = entry 0 6 0 7 ++ entry 6 6 1 0

abbrev pub one : (entry : List ℕ) → List ℕ
one x = image 1 12 60 8 [] x

-- each breaks the one rule that stands beside it
broken : List (List ℕ)
broken =
    -- P 0 and 17
    image 0 12 60 8 [] [] ∷ image 17 2048 60 8 [] (row 17 0)
    -- C 3 (with an end past C, since n is at least 4) and 2,049
    ∷ image 1 3 60 8 [] (row 1 0) ∷ image 2 2049 60 8 [] two
    -- B 32 and 65
    ∷ image 2 12 32 8 [] two ∷ image 2 12 65 8 [] two
    -- E 7, with the entries from byte 7 on, and 129
    ∷ image 1 12 60 7 [] (0 ∷ 4 ∷ 0 ∷ 0 ∷ 0 ∷ 0 ∷ 0 ∷ []) ∷ image 2 12 60 129 (replicate 121 0) two
    -- a filler byte that is not zero: the first, the last
    ∷ image 2 12 60 10 (1 ∷ 0 ∷ []) two ∷ image 2 12 60 10 (0 ∷ 1 ∷ []) two
    -- a byte too many, one too few
    ∷ image 2 12 60 8 [] (two ++ (0 ∷ [])) ∷ image 1 12 60 8 [] (bytes2 0 ++ bytes2 4 ++ (0 ∷ 0 ∷ 0 ∷ []))
    -- first odd, n odd, n 2, n 4 zeroizable
    ∷ one (entry 1 4 0 0) ∷ one (entry 0 5 0 0) ∷ one (entry 0 2 0 0) ∷ one (entry 0 4 0 1)
    -- overlap by two, end past C, descending
    ∷ image 2 12 60 8 [] (entry 0 6 0 7 ++ entry 4 6 1 0) ∷ image 2 12 60 8 [] (entry 0 6 0 7 ++ entry 6 8 1 0)
    ∷ image 2 12 60 8 [] (entry 6 6 1 0 ++ entry 0 6 0 7)
    -- kind 3, flag 16
    ∷ one (entry 0 6 3 0) ∷ one (entry 0 6 0 16)
    -- life cycle zeroizable, secret in kind 1, slot without secret, slot without zeroizable
    ∷ one (entry 0 6 2 1) ∷ one (entry 0 6 1 2) ∷ one (entry 0 6 0 5) ∷ one (entry 0 6 0 6)
    -- request P7, flag 8 where nothing is zeroizable: alone in each kind, and with secret; with 1 in life cycle, which is never zeroizable
    ∷ one (entry 0 6 0 8) ∷ one (entry 0 6 1 8) ∷ one (entry 0 6 2 8) ∷ one (entry 0 6 0 10) ∷ one (entry 0 6 2 9)
    -- each of the two zero bytes
    ∷ one (bytes2 0 ++ bytes2 6 ++ (0 ∷ 7 ∷ 1 ∷ 0 ∷ [])) ∷ one (bytes2 0 ++ bytes2 6 ++ (0 ∷ 7 ∷ 0 ∷ 1 ∷ []))
    ∷ []

-- the edges on the good side
edges : List (List ℕ)
edges =
    -- the small drive; P 16; C 4 and 2,048; B 33 and 64
    image 2 12 60 8 [] two ∷ image 16 64 60 8 [] (row 16 0)
    ∷ image 1 4 60 8 [] (row 1 0) ∷ image 2 2048 60 8 [] two
    ∷ image 2 12 33 8 [] two ∷ image 2 12 64 8 [] two
    -- E 128 and an odd E
    ∷ image 2 12 60 128 (replicate 120 0) two ∷ image 2 12 60 9 (0 ∷ []) two
    -- a gap; n 4 not zeroizable; life cycle; a zeroizable software partition
    ∷ image 2 14 60 8 [] (entry 0 6 0 7 ++ entry 8 6 1 0) ∷ one (entry 0 4 0 0) ∷ one (entry 0 6 2 0) ∷ one (entry 0 6 1 1)
    -- request P7: flag 8 with 1, in kinds 0 and 1; with 1 and 2; with 7
    ∷ one (entry 0 6 0 9) ∷ one (entry 0 6 1 9) ∷ one (entry 0 6 0 11) ∷ one (entry 0 6 0 15)
    ∷ []

-- an image that is empty or cut is no map
cut : List (List ℕ)
cut = [] ∷ (2 ∷ []) ∷ (2 ∷ 0 ∷ 12 ∷ 0 ∷ 60 ∷ 0 ∷ 8 ∷ []) ∷ image 2 12 60 8 [] [] ∷ []

rules : (map map_good broken ≡ replicate 32 false) × (map map_good edges ≡ replicate 16 true) × (map map_good cut ≡ replicate 4 false)
unfolding broken edges cut map_good every header_good filler_good entry_good place_good all_below u16_at
rules = (refl, refl, refl)
