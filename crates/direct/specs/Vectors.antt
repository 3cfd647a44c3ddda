-- Direct commands on the small drive, by computation: the customer's 60 and 59, words shown and done, and the refusals. Assumes
-- nothing.
use Rattle.std.specs.Prelude.{ℕ, ◌≡◌, refl, List, [], ◌∷◌, ◌++◌, map, replicate, Result, Ok, Err}
use Rattle.std.specs.Int.Count.{ones_in}
use Rattle.laws.specs.Tests.{every}
use Rattle.laws.specs.Below.{all_below, first_from}
use Rattle.refusal.specs.declared.Refusal.{Refusal}
use Rattle.refusal.specs.declared.Refusal.TheVariants.{BadMap, BadLent, NotThere, NotAllowed, ClearsFuse, SlotInUse}
use Rattle.endian.specs.Endian.{u16_at}
use Rattle.context.specs.State.{State, state, Outcome, outcome}
use Rattle.map.specs.Map.{header_good, filler_good, entry_good, place_good, map_good}
use Rattle.map.specs.Image.{image, entry}
use Rattle.map.specs.Vectors.{two}
use Rattle.fuse.specs.Fuse.{burn_cell, burn_word, set_fuses, new_fuses}
use Rattle.partition.specs.Partition.{marked}
use Rattle.word.specs.Word.{word_in, is_held_at, word_at}
use Rattle.drive.specs.Drive.{whole_arrays, marked_at}
use Rattle.cache.specs.Cache.{cache_of, is_at}
use Rattle.direct.specs.declared.Command.{Command}
use Rattle.direct.specs.declared.Command.TheVariants.{Read, Write, Zeroize}
use Rattle.direct.specs.declared.Answer.{Answer}
use Rattle.direct.specs.declared.Answer.TheVariants.{Word, Burned, Done, Withheld}
use Rattle.direct.specs.Direct.{forbidden, clears, changes_slot, cells_after, new_after, carried_out, direct_of}

-- a command, by computation: to unfold this is to unfold all that it computes with
runs : (image marks : List ℕ) → Command → State → Outcome (Result Answer Refusal) State
unfolding direct_of map_good whole_arrays every header_good filler_good entry_good place_good all_below u16_at word_at word_in is_held_at first_from
    forbidden marked_at marked ones_in clears changes_slot cache_of is_at carried_out cells_after new_after burn_word burn_cell new_fuses set_fuses
runs = direct_of

abbrev small : List ℕ
small = image 2 12 60 8 [] two

abbrev cells : List ℕ
cells = 1 ∷ replicate 11 0

-- contexts, the kinds of 16 places, their tags and the awaited reply: every place empty, and the first held; and a load's reply awaited
abbrev no_key : List ℕ
no_key = replicate 33 0

abbrev one_key : List ℕ
one_key = 1 ∷ replicate 32 0

abbrev awaiting : List ℕ
awaiting = replicate 32 0 ++ (2 ∷ [])

-- a command on the small drive, with these marks on cell 1
abbrev on_small : (stuck : ℕ) → Command → Outcome (Result Answer Refusal) State
on_small stuck command = runs small (0 ∷ stuck ∷ replicate 10 0) command (state cells no_key)

-- ZEROIZE of word 0 in the secret partition: four stuck fuses leave 60 ones, which are shown; five leave 59, which are withheld. The
-- fuses burn either way
zeroize_60 : on_small 0x0F (Zeroize 0) ≡ outcome (Ok (Word 0xFFFF_FFF0_FFFF_FFFF)) (state (0xFFFF_FFFF ∷ 0xFFFF_FFF0 ∷ replicate 10 0) no_key)
unfolding runs
zeroize_60 = refl

zeroize_59 : on_small 0x1F (Zeroize 0) ≡ outcome (Ok Withheld) (state (0xFFFF_FFFF ∷ 0xFFFF_FFE0 ∷ replicate 10 0) no_key)
unfolding runs
zeroize_59 = refl

-- on the older guide (request P7) the same fuses burn, 59 ones are withheld too, and 60 are told as all ones; a narrow word as 32 of them
abbrev on_older : (stuck : ℕ) → Command → Outcome (Result Answer Refusal) State
on_older stuck command =
    runs (image 2 12 60 8 [] (entry 0 6 0 15 ++ entry 6 6 1 9)) (0 ∷ stuck ∷ replicate 5 0 ++ (stuck ∷ replicate 4 0)) command (state cells no_key)

older_60 : on_older 0x0F (Zeroize 0) ≡ outcome (Ok (Word 0xFFFF_FFFF_FFFF_FFFF)) (state (0xFFFF_FFFF ∷ 0xFFFF_FFF0 ∷ replicate 10 0) no_key)
unfolding runs
older_60 = refl

older_59 : on_older 0x1F (Zeroize 0) ≡ outcome (Ok Withheld) (state (0xFFFF_FFFF ∷ 0xFFFF_FFE0 ∷ replicate 10 0) no_key)
unfolding runs
older_59 = refl

older_narrow : on_older 0x1F (Zeroize 7) ≡ outcome (Ok (Burned 0xFFFF_FFFF 27)) (state (1 ∷ replicate 6 0 ++ (0xFFFF_FFE0 ∷ replicate 4 0)) no_key)
unfolding runs
older_narrow = refl

-- WRITE into the secret word is done, into a software word of 32 bits shown; its neighbour stays, and a stuck fuse is not set
write_secret : on_small 0 (Write 0 0x0000_0003_0000_0001) ≡ outcome (Ok Done) (state (1 ∷ 3 ∷ replicate 10 0) no_key)
unfolding runs
write_secret = refl

-- while a reply is awaited too: a direct command is no mailbox command
write_awaiting : runs small (replicate 12 0) (Write 7 0x88) (state cells awaiting) ≡ outcome (Ok (Burned 0x88 2)) (state (1 ∷ replicate 6 0 ++ (0x88 ∷ replicate 4 0)) awaiting)
unfolding runs
write_awaiting = refl

write_open :
    runs small (replicate 7 0 ++ (1 ∷ replicate 4 0)) (Write 7 0x89) (state cells no_key)
    ≡ outcome (Ok (Burned 0x88 2)) (state (1 ∷ replicate 6 0 ++ (0x88 ∷ replicate 4 0)) no_key)
unfolding runs
write_open = refl

-- ---- refusals, with a key held: each call breaks its own rule and, where it can, every later one; the state stays

-- the small drive with a fuse of the slot's digest set
abbrev with_digest : List ℕ
with_digest = 1 ∷ 0 ∷ 5 ∷ replicate 9 0

-- and one with a fuse of its indicator set
abbrev one_fuse : List ℕ
one_fuse = 1 ∷ 0 ∷ 0 ∷ 0 ∷ 0 ∷ 0x10 ∷ replicate 6 0

-- the first with a key held
abbrev held : State
held = state with_digest one_key

abbrev does : Command → Outcome (Result Answer Refusal) State
does command = runs small (replicate 12 0) command held

abbrev refused : Refusal → Outcome (Result Answer Refusal) State
refused refusal = outcome (Err refusal) held

-- READ: 1 though the cells are not C long, 2 though no word starts there; 7 inside a pair and past the map; 8 for every word of the slot
reads :
    (runs [] [] (Read 1) held ∷ runs small [] (Read 1) held ∷ []) ++ map does (Read 1 ∷ Read 12 ∷ Read 0 ∷ Read 2 ∷ Read 4 ∷ Read 7 ∷ Read 10 ∷ [])
    ≡ map refused (BadMap ∷ BadLent ∷ NotThere ∷ NotThere ∷ NotAllowed ∷ NotAllowed ∷ NotAllowed ∷ []) ++ (outcome (Ok (Word 0)) held ∷ outcome (Ok (Word 0)) held ∷ [])
unfolding runs
reads = refl

-- WRITE in the slot: 8 for the digest, though 0 lacks its fuses, and for the indicator; 9 for a value that lacks the set fuse, 10 for
-- one that does not. In the software partition: 8 for a value over 32 bits and for the digest, and no 10
writes :
    map does (Write 2 0 ∷ Write 4 0 ∷ Write 0 2 ∷ Write 0 3 ∷ Write 6 0x1_0000_0000 ∷ Write 10 1 ∷ Write 6 3 ∷ [])
    ≡ map refused (NotAllowed ∷ NotAllowed ∷ ClearsFuse ∷ SlotInUse ∷ NotAllowed ∷ NotAllowed ∷ []) ++ (outcome (Ok (Burned 3 2)) (state (1 ∷ 0 ∷ 5 ∷ 0 ∷ 0 ∷ 0 ∷ 3 ∷ replicate 5 0) one_key) ∷ [])
unfolding runs
writes = refl

-- ZEROIZE: 7, 8 where nothing is zeroizable, 10 in the slot
zeroizes : map does (Zeroize 3 ∷ Zeroize 6 ∷ Zeroize 0 ∷ Zeroize 4 ∷ []) ≡ map refused (NotThere ∷ NotAllowed ∷ SlotInUse ∷ SlotInUse ∷ [])
unfolding runs
zeroizes = refl

-- a marked partition takes no WRITE (8), though the value lacks its fuses: one fuse of the indicator marks it (request P4), and none leaves
-- it open. Nor does life cycle take one
kept :
    runs (image 1 12 60 8 [] (entry 0 6 0 1)) (replicate 12 0) (Write 0 0) (state one_fuse no_key)
    ∷ runs (image 1 12 60 8 [] (entry 0 6 0 1)) (replicate 12 0) (Write 0 3) (state with_digest no_key)
    ∷ runs (image 1 12 60 8 [] (entry 0 6 2 0)) (replicate 12 0) (Write 0 0) (state with_digest no_key)
    ∷ []
    ≡ outcome (Err NotAllowed) (state one_fuse no_key)
    ∷ outcome (Ok (Burned 3 1)) (state (3 ∷ 0 ∷ 5 ∷ replicate 9 0) no_key)
    ∷ outcome (Err NotAllowed) (state with_digest no_key)
    ∷ []
unfolding runs
kept = refl
