-- Erasures of a software partition that starts at cell 6, by computation: what is answered, what is left of the whole array and of the
-- cache, and each refusal where every later one that can applies too. Document 01's cases are in `history` SmallDrive. Assumes nothing.
use Rattle.std.specs.Prelude.{map, ℕ, ◌≡◌, refl, List, [], ◌∷◌, ◌++◌, replicate, Ok, Err}
use Rattle.std.specs.Int.Count.{ones_in}
use Rattle.laws.specs.Tests.{every}
use Rattle.laws.specs.Below.{all_below, count_below, first_from}
use Rattle.refusal.specs.declared.Refusal.TheVariants.{BadMap, BadLent, NotThere, NotAllowed, SlotInUse, NotMarked}
use Rattle.endian.specs.Endian.{u16_at}
use Rattle.map.specs.Map.{header_good, filler_good, entry_good, place_good, map_good}
use Rattle.map.specs.Image.{image, entry}
use Rattle.fuse.specs.Fuse.{burn_cell, burn_word, set_fuses, new_fuses}
use Rattle.partition.specs.Partition.{short_at, marked, lowest_short}
use Rattle.burns.specs.Run.{words_from, order, goes_on, stops_after, burns_of}
use Rattle.context.specs.State.{state, outcome}
use Rattle.cache.specs.Cache.{cache_of, is_at, emptied}
use Rattle.drive.specs.Drive.{whole_arrays}
use Rattle.erasure.specs.declared.Answer.{Answer}
use Rattle.erasure.specs.declared.Answer.TheVariants.{Ended, Cut}
use Rattle.erasure.specs.Erasure.{run_on, erase_of, erasure_of, cut_erasure_of, Told, unburned}

abbrev all : ℕ
all = 0xFFFF_FFFF

-- a slot of six cells, a software partition of six that is zeroizable, and one of four that is not
abbrev drive : List ℕ
drive = image 3 16 60 8 [] (entry 0 6 0 7 ++ entry 6 6 1 1 ++ entry 12 4 0 0)

abbrev cells : (c6 c7 c8 c9 c10 c11 : ℕ) → List ℕ
cells c6 c7 c8 c9 c10 c11 = 7 ∷ replicate 5 0 ++ (c6 ∷ c7 ∷ c8 ∷ c9 ∷ c10 ∷ c11 ∷ []) ++ replicate 4 9

abbrev start : List ℕ
start = cells 3 0 0 0 0 0

abbrev marks : (m7 m10 m11 : ℕ) → List ℕ
marks m7 m10 m11 = replicate 7 0 ++ (m7 ∷ 0 ∷ 0 ∷ m10 ∷ m11 ∷ replicate 4 0)

-- a context with one place that waits for the reply to its load, and one with every place empty and none awaited
abbrev waits : List ℕ
waits = 2 ∷ replicate 15 0 ++ (5 ∷ replicate 15 0) ++ (2 ∷ [])

abbrev none : List ℕ
none = replicate 33 0

-- whole: four burns, one short pair, named by its cell in the whole array; the indicator's alone, of which one fuse has burned; and 15,
-- which leaves every cell
erasures :
    erasure_of drive (marks 0x1F 0 0) 1 (state start waits)
    ∷ erasure_of drive (marks 0 0xFFFF_FFFE all) 1 (state start waits)
    ∷ erasure_of drive (marks 0 all all) 1 (state start waits)
    ∷ []
    ≡ outcome (Ok (Ended 1 6 4 185)) (state (cells all 0xFFFF_FFE0 all all all all) waits)
    ∷ outcome (Ok (Ended 1 10 4 127)) (state (cells all all all all 1 0) waits)
    ∷ outcome (Err (record { refusal = NotMarked; burns = 1 })) (state start waits)
    ∷ []
unfolding erase_of map_good whole_arrays every header_good filler_good entry_good place_good all_below u16_at run_on burns_of order words_from burn_word burn_cell new_fuses set_fuses stops_after
    goes_on marked short_at count_below lowest_short first_from ones_in cache_of is_at
erasures = refl

-- cut at the second data word, burn 2: the mask's low 32 bits go into it, three burns; a cut at burn 4, past the order, is none, and
-- leaves the cache
cuts : cut_erasure_of drive (marks 0 0 0) 1 2 0x3_0000_0005 (state start waits) ∷ cut_erasure_of drive (marks 0 0 0) 1 4 0 (state start waits) ∷ []
    ≡ outcome (Ok (Cut 3 96)) (state (cells all 5 0 0 all all) none) ∷ outcome (Ok (Ended 0 0xFFFF_FFFF 4 190)) (state (cells all all all all all all) waits) ∷ []
unfolding erase_of map_good whole_arrays every header_good filler_good entry_good place_good all_below u16_at run_on burns_of order words_from burn_word burn_cell new_fuses set_fuses stops_after
    goes_on marked short_at count_below lowest_short first_from ones_in cache_of is_at emptied
cuts = refl

-- 1, 2, 7, 8 and 10, with a key that waits, and every fuse of the slot's indicator stuck, so that 15 would follow 10
abbrev refusal_of : (image cells : List ℕ) (i : ℕ) → Told
refusal_of image cells i = (erasure_of image (replicate 4 0 ++ (all ∷ all ∷ replicate 10 0)) i (state cells waits)).told

refusals : refusal_of [] [] 9 ∷ refusal_of drive [] 9 ∷ refusal_of drive start 3 ∷ refusal_of drive start 2 ∷ refusal_of drive start 0 ∷ []
    ≡ map unburned (BadMap ∷ BadLent ∷ NotThere ∷ NotAllowed ∷ SlotInUse ∷ [])
unfolding erase_of map_good whole_arrays every header_good filler_good entry_good place_good all_below u16_at first_from cache_of is_at
refusals = refl
