-- A load, its unload, a clear, a list of handles and a rotation on the small drive, and each refusal where every later one applies too, by
-- computation. Document 01's cases are in `history` SmallDrive. Assumes nothing.
use Rattle.std.specs.Prelude.{true, ℕ, ◌-◌, ◌≡◌, refl, List, [], ◌∷◌, ◌++◌, map, replicate, Result, Ok, Err, is_ok}
use Rattle.std.specs.Int.Count.{ones_in}
use Rattle.laws.specs.Tests.{every}
use Rattle.laws.specs.Below.{all_below, count_below, first_from}
use Rattle.refusal.specs.declared.Refusal.{Refusal}
use Rattle.refusal.specs.declared.Refusal.TheVariants.{BadMap, BadLent, UnknownCode, WrongLength, WrongChksum, ReservedNotZero, NotThere, NotAllowed, SlotInUse, HekNotAvailable, TagHeld, NoEmptyPlace, TagNotHeld, NotMarked, EngineBusy, PlaceUnsure, NoSuchHandle, NumbersUsedUp}
use Rattle.endian.specs.Endian.{u16_at, u32_at, bytes4}
use Rattle.context.specs.State.{state, Outcome, outcome}
use Rattle.map.specs.Map.{header_good, filler_good, entry_good, place_good, map_good}
use Rattle.map.specs.Image.{image, entry}
use Rattle.map.specs.Vectors.{two}
use Rattle.partition.specs.Partition.{short_at, marked, zero_cell, state_of}
use Rattle.fuse.specs.Fuse.{burn_cell, burn_word}
use Rattle.burns.specs.Run.{words_from, order, goes_on, stops_after, burns_of}
use Rattle.erasure.specs.Erasure.{run_on}
use Rattle.drive.specs.Drive.{whole_arrays, survey_at, slot_at, open_slot, active_slot}
use Rattle.cache.specs.Cache.{cache_of, is_at, placed, turned_below}
use Rattle.handles.specs.Handles.{table_of, is_held_at, rotated}
use Rattle.engine.specs.Engine.{zeros}
use Rattle.engine.specs.declared.Order.TheVariants.{Nothing, Clear, Load, Unload}
use Rattle.codec.specs.Request.{request_tests}
use Rattle.mailbox.specs.declared.effects.Effect.{Effect}
use Rattle.mailbox.specs.declared.Reply.{Reply}
use Rattle.mailbox.specs.Mailbox.{done_of, Lent, lent, mailbox_of}

-- a call, by computation: to unfold this is to unfold all that it computes with
runs : (image marks : List ℕ) (code : ℕ) (request : List ℕ) → Lent → Outcome (Result Reply Refusal) Lent
unfolding done_of request_tests map_good whole_arrays every header_good filler_good entry_good place_good all_below u16_at u32_at active_slot open_slot
    slot_at survey_at state_of marked short_at zero_cell count_below first_from ones_in cache_of is_at placed turned_below table_of is_held_at rotated
runs = mailbox_of

abbrev small : List ℕ
small = image 2 12 60 8 [] two

abbrev cells : List ℕ
cells = 1 ∷ replicate 11 0

-- a table of one handle, 7, with algorithm 1: the count, three entries and the greatest number given
abbrev table : List ℕ
table = 1 ∷ 0x1_0000_0007 ∷ 0 ∷ 0 ∷ 7 ∷ []

-- contexts, the kinds of 16 places, their tags, the awaited reply and the table: every place empty, and the tag 0x100000002 in the first
abbrev no_key : (awaited : ℕ) → List ℕ
no_key awaited = zeros 32 ++ (awaited ∷ table)

abbrev one_key : (kind awaited : ℕ) → List ℕ
one_key kind awaited = kind ∷ zeros 15 ++ (0x1_0000_0002 ∷ zeros 15) ++ (awaited ∷ table)

-- a call on the small drive, with a block of sevens and a response buffer of 40 nines
abbrev call : (context : List ℕ) (code : ℕ) (request : List ℕ) → Outcome (Result Reply Refusal) Lent
call context code request = runs small (replicate 12 0) code request (lent (state cells context) (replicate 40 9) (replicate 128 7))

-- a load with timeout 5 of that tag with an MEK of threes, and its unload: the place waits, and the reply is awaited
load :
    call (no_key 0) 0x4B4C_4F44 (bytes4 0xFFFF_FE0E ++ bytes4 0 ++ bytes4 5 ++ bytes4 2 ++ bytes4 1 ++ replicate 64 3)
    ≡ outcome (Ok (record { length = 16; order = (Load 0 5) }))
    (lent (state cells (one_key 2 2)) (zeros 16 ++ replicate 24 9) (replicate 64 3 ++ (2 ∷ 0 ∷ 0 ∷ 0 ∷ 1 ∷ 0 ∷ 0 ∷ 0 ∷ zeros 56)))
unfolding runs
load = refl

unload :
    call (one_key 1 0) 0x4B55_4E4C (bytes4 0xFFFF_FEBE ++ bytes4 0 ++ bytes4 5 ++ bytes4 2 ++ bytes4 1)
    ≡ outcome (Ok (record { length = 12; order = (Unload 0 5) }))
    (lent (state cells (one_key 2 3)) (zeros 12 ++ replicate 28 9) (zeros 64 ++ (2 ∷ 0 ∷ 0 ∷ 0 ∷ 1 ∷ 0 ∷ 0 ∷ 0 ∷ zeros 56)))
unfolding runs
unload = refl

-- a clear with timeout 1,000: of a held place, of an unsure one and of an empty cache
abbrev clears : (context : List ℕ) → Outcome (Result Reply Refusal) Lent
clears context = call context 0x434C_4B43 (bytes4 0xFFFF_FDF8 ++ bytes4 0 ++ bytes4 1000)

abbrev cleared : (context : List ℕ) → Outcome (Result Reply Refusal) Lent
cleared context = outcome (Ok (record { length = 12; order = (Clear 1000) })) (lent (state cells context) (zeros 12 ++ replicate 28 9) (zeros 128))

clear : map clears (one_key 1 0 ∷ one_key 3 0 ∷ no_key 0 ∷ []) ≡ map cleared (one_key 2 1 ∷ one_key 2 1 ∷ no_key 1 ∷ [])
unfolding runs
clear = refl

-- ---- request P6: the list of handles, and a rotation

-- the greatest given is 100; the handle 5 stands twice, at the places 0 and 2; the algorithm of place 1 is all ones
abbrev three : (first greatest : ℕ) → List ℕ
three first greatest = zeros 33 ++ (3 ∷ first ∷ 0xFFFF_FFFF_0000_0007 ∷ 0x4_0000_0005 ∷ greatest ∷ [])

-- EHDL and RHPK of handle 5
abbrev lists : (context : List ℕ) → Outcome (Result Reply Refusal) Lent
lists context = call context 0x4548_444C (bytes4 0xFFFF_FEE3 ++ bytes4 0)

abbrev rotates : (context : List ℕ) → Outcome (Result Reply Refusal) Lent
rotates context = call context 0x5248_504B (bytes4 0xFFFF_FEC6 ++ bytes4 0 ++ bytes4 5)

-- what they leave: no order, the block of sevens, and behind the response the nines of the buffer
abbrev tells : (n : ℕ) (context response : List ℕ) → Outcome (Result Reply Refusal) Lent
tells n context response = outcome (Ok (record { length = n; order = Nothing })) (lent (state cells context) (response ++ replicate (40 - n) 9) (replicate 128 7))

-- "count, then handle and algorithm for each": 24 bytes for one, 40 for three
list_1 : lists (no_key 0) ≡ tells 24 (no_key 0) (bytes4 0xFFFF_FFF7 ++ bytes4 0 ++ bytes4 0 ++ bytes4 1 ++ bytes4 7 ++ bytes4 1)
unfolding runs
list_1 = refl

list_3 :
    lists (three 0x2_0000_0005 100)
    ≡ tells 40 (three 0x2_0000_0005 100)
    (bytes4 0xFFFF_FBEA ++ bytes4 0 ++ bytes4 0 ++ bytes4 3 ++ bytes4 5 ++ bytes4 2 ++ bytes4 7 ++ bytes4 0xFFFF_FFFF ++ bytes4 5 ++ bytes4 4)
unfolding runs
list_3 = refl

-- the lowest place with 5 gets 101 and keeps its algorithm; then the other has it
rotation_0 : rotates (three 0x2_0000_0005 100) ≡ tells 16 (three 0x2_0000_0065 101) (bytes4 0xFFFF_FF9B ++ bytes4 0 ++ bytes4 0 ++ bytes4 101)
unfolding runs
rotation_0 = refl

rotation_2 :
    rotates (three 0x2_0000_0065 101)
    ≡ tells 16 (zeros 33 ++ (3 ∷ 0x2_0000_0065 ∷ 0xFFFF_FFFF_0000_0007 ∷ 0x4_0000_0066 ∷ 102 ∷ [])) (bytes4 0xFFFF_FF9A ++ bytes4 0 ++ bytes4 0 ++ bytes4 102)
unfolding runs
rotation_2 = refl

-- ---- refusals: each call breaks its own rule and, where it can, every later one

-- a KLOD of tag 2 with reserved 1 and a wrong chksum, and then what is right of it, one after the other
abbrev klod : (chksum reserved : ℕ) → List ℕ
klod chksum reserved = bytes4 chksum ++ bytes4 reserved ++ bytes4 0 ++ bytes4 2 ++ bytes4 0 ++ replicate 64 0

-- a full cache that has tag 2, or is full of others, a place of it waiting and one unsure, and a reply awaited; one with an empty place
-- in front; and the small drive with its slot erased
abbrev full : (tag : ℕ) → List ℕ
full tag = 2 ∷ 3 ∷ replicate 14 1 ++ replicate 16 tag ++ (1 ∷ table)

abbrev room : (second third awaited : ℕ) → List ℕ
room second third awaited = 0 ∷ second ∷ third ∷ zeros 13 ++ replicate 16 3 ++ (awaited ∷ table)

abbrev erased : List ℕ
erased = replicate 6 0xFFFF_FFFF ++ replicate 6 0

abbrev does : (image cells context : List ℕ) (code : ℕ) (request : List ℕ) (room block : ℕ) → Result Effect Refusal
does image cells context code request room block = (done_of image (replicate 12 0) code request room block (state cells context)).told

-- a RHPK of handle 5, and a table of the handle 4 alone, with another past it, and no number left
abbrev rhpk_5 : List ℕ
rhpk_5 = bytes4 0xFFFF_FEC6 ++ bytes4 0 ++ bytes4 5

abbrev spent : (awaited past : ℕ) → List ℕ
spent awaited past = zeros 32 ++ (awaited ∷ 1 ∷ 4 ∷ past ∷ 0 ∷ 0xFFFF_FFFF ∷ [])

-- a KUNL of tag 3
abbrev kunl_3 : List ℕ
kunl_3 = bytes4 0xFFFF_FEC3 ++ bytes4 0 ++ bytes4 0 ++ bytes4 3 ++ bytes4 0

refusals :
    -- 1 and all the rest
    does [] cells (full 2) 0 [] 0 0
    -- 2 for the cells, the block, the buffer and the table, of no handle and of four
    ∷ does small [] (full 2) 0 [] 40 128 ∷ does small cells (full 2) 0 [] 40 127 ∷ does small cells (full 2) 0 [] 39 128
    ∷ does small cells (zeros 38) 0 [] 40 128 ∷ does small cells (zeros 33 ++ (4 ∷ zeros 4)) 0 [] 40 128
    -- 3 to 6
    ∷ does small erased (full 2) 0 (0 ∷ []) 40 128
    ∷ does small erased (full 2) 0x4B4C_4F44 (klod 0 1 ++ (0 ∷ [])) 40 128
    ∷ does small erased (full 2) 0x4B4C_4F44 (klod 0 1) 40 128
    ∷ does small erased (full 2) 0x4B4C_4F44 (klod 0xFFFF_FED3 1) 40 128
    -- 7, 8 and 10, of FERS
    ∷ does small cells (full 2) 0x4645_5253 (bytes4 0xFFFF_FECE ++ bytes4 0 ++ bytes4 2) 40 128
    ∷ does small cells (full 2) 0x4645_5253 (bytes4 0xFFFF_FECF ++ bytes4 0 ++ bytes4 1) 40 128
    ∷ does small cells (full 2) 0x4645_5253 (bytes4 0xFFFF_FED0 ++ bytes4 0 ++ bytes4 0) 40 128
    -- 11 to 13
    ∷ does small erased (full 2) 0x4B4C_4F44 (klod 0xFFFF_FED4 0) 40 128
    ∷ does small cells (full 2) 0x4B4C_4F44 (klod 0xFFFF_FED4 0) 40 128
    ∷ does small cells (full 3) 0x4B4C_4F44 (klod 0xFFFF_FED4 0) 40 128
    -- 14
    ∷ does small cells (full 3) 0x4B55_4E4C (bytes4 0xFFFF_FEC4 ++ bytes4 0 ++ bytes4 0 ++ bytes4 2 ++ bytes4 0) 40 128
    -- 17, where for KLOD and KUNL 18 applies too: a reply is awaited, a place waits, both
    ∷ does small cells (room 1 3 9) 0x4B4C_4F44 (klod 0xFFFF_FED4 0) 40 128
    ∷ does small cells (room 2 3 0) 0x4B4C_4F44 (klod 0xFFFF_FED4 0) 40 128
    ∷ does small cells (room 2 3 2) 0x4B55_4E4C kunl_3 40 128
    ∷ does small cells (room 2 3 1) 0x434C_4B43 (bytes4 0xFFFF_FDF8 ++ bytes4 0 ++ bytes4 1000) 40 128
    -- 18, of an unsure place and of a kind that we never write
    ∷ does small cells (room 1 3 0) 0x4B4C_4F44 (klod 0xFFFF_FED4 0) 40 128
    ∷ does small cells (room 9 1 0) 0x4B55_4E4C kunl_3 40 128
    -- 17 of EHDL and of RHPK, where 20 and 21 apply too
    ∷ does small cells (spent 1 8) 0x4548_444C (bytes4 0xFFFF_FEE3 ++ bytes4 0) 40 128
    ∷ does small cells (spent 1 8) 0x5248_504B rhpk_5 40 128
    -- 20 where 21 applies too, also of a handle past the count; 21, of the last number and of one that has not 32 bits
    ∷ does small cells (spent 0 8) 0x5248_504B rhpk_5 40 128
    ∷ does small cells (spent 0 5) 0x5248_504B rhpk_5 40 128
    ∷ does small cells (three 0x1_0000_0000 0xFFFF_FFFF) 0x5248_504B rhpk_5 40 128
    ∷ does small cells (three 0 0x1_0000_0000_0000) 0x5248_504B rhpk_5 40 128
    ∷ []
    ≡ map Err
    (BadMap ∷ BadLent ∷ BadLent ∷ BadLent ∷ BadLent ∷ BadLent ∷ UnknownCode ∷ WrongLength ∷ WrongChksum ∷ ReservedNotZero ∷ NotThere ∷ NotAllowed
    ∷ SlotInUse ∷ HekNotAvailable ∷ TagHeld ∷ NoEmptyPlace ∷ TagNotHeld ∷ EngineBusy ∷ EngineBusy ∷ EngineBusy ∷ EngineBusy ∷ PlaceUnsure
    ∷ PlaceUnsure ∷ EngineBusy ∷ EngineBusy ∷ NoSuchHandle ∷ NoSuchHandle ∷ NumbersUsedUp ∷ NumbersUsedUp ∷ [])
unfolding runs
refusals = refl

-- FERS of a partition that is no slot, every fuse of its indicator stuck: 17 while a reply is awaited, before any burn, else 15
abbrev fers_1 : (awaited : ℕ) → Outcome (Result Effect Refusal) (List ℕ)
fers_1 awaited =
    done_of (image 2 12 60 8 [] (entry 0 6 0 7 ++ entry 6 6 0 1)) (replicate 10 0 ++ replicate 2 0xFFFF_FFFF) 0x4645_5253 (bytes4 0xFFFF_FECF ++ bytes4 0 ++ bytes4 1) 40 128
    (state cells (no_key awaited))

fers : map fers_1 (3 ∷ 0 ∷ []) ≡ outcome (Err EngineBusy) cells ∷ outcome (Err NotMarked) cells ∷ []
unfolding runs run_on burns_of order words_from stops_after goes_on burn_word burn_cell
fers = refl

-- FSTA alone is carried out while a reply is awaited, a place waits and another is unsure
waits : is_ok (does small cells (full 3) 0x4653_5441 (bytes4 0xFFFF_FED2 ++ bytes4 0) 40 128) ≡ true
unfolding runs
waits = refl
