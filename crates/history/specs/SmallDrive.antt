-- Document 01, "The small drive": cases 1 to 9 in a single table, and case 10, by computation from the definitions that the entry points'
-- contracts equal. Assumes nothing.
use Rattle.std.specs.Prelude.{ℕ, zero, suc, ◌-◌, ◌^◌, ◌≡◌, refl, Bool, true, false, List, [], ◌∷◌, ◌++◌, map, get_or, replicate, set, Ok, Err}
use Rattle.std.specs.Int.Count.{ones_in}
use Rattle.laws.specs.Tests.{every}
use Rattle.laws.specs.Below.{all_below, count_below, first_from}
use Rattle.refusal.specs.declared.Refusal.TheVariants.{NotThere, NotAllowed, TagHeld, NoEmptyPlace, NotMarked}
use Rattle.endian.specs.Endian.{u16_at, u32_at, bytes4}
use Rattle.map.specs.Map.{header_good, filler_good, entry_good, place_good, map_good}
use Rattle.map.specs.Image.{image}
use Rattle.map.specs.Vectors.{two}
use Rattle.fuse.specs.Fuse.{pair_of, ones_of, burn_cell, burn_word, set_fuses, new_fuses}
use Rattle.partition.specs.declared.State.{State as PartitionState}
use Rattle.partition.specs.declared.State.TheVariants.{Erased, Torn, Programmed}
use Rattle.partition.specs.Partition.{short_at, marked, zero_cell, state_of, lowest_short}
use Rattle.burns.specs.Run.{words_from, order, goes_on, stops_after, burns_of}
use Rattle.context.specs.State.{State, state}
use Rattle.cache.specs.Cache.{cache_of, is_at, placed, turned_below, emptied}
use Rattle.handles.specs.Handles.{table_of}
use Rattle.drive.specs.Drive.{whole_arrays, survey_at, slot_at, open_slot, active_slot, available}
use Rattle.engine.specs.declared.Order.TheVariants.{Nothing, Clear, Load}
use Rattle.engine.specs.declared.EngineReply.TheVariants.{Done}
use Rattle.engine.specs.Engine.{zeros}
use Rattle.erasure.specs.declared.Answer.TheVariants.{Ended, Cut}
use Rattle.erasure.specs.Erasure.{run_on, erase_of}
use Rattle.codec.specs.declared.Command.TheVariants.{Clkc, Klod, Kunl, Fers, Fsta}
use Rattle.codec.specs.Fields.{code_of}
use Rattle.codec.specs.Request.{request_tests}
use Rattle.mailbox.specs.Mailbox.{done_of}
use Rattle.reply.specs.Reply.{taking_of}
use Rattle.history.specs.Demand3.{compared}
use Rattle.history.specs.Calls.{Call, Erase, EraseCut, Mailbox, TakeReply, Told, Erasing, Replying, told, after, after_all}

-- "P = 2, C = 12, B = 60, E = 8 .. Cell 0 is 1, all others 0, no stuck marks, cache empty", no reply awaited, and by request P6 with a table,
-- of one handle: 7, with algorithm 1
abbrev small : List ℕ
small = image 2 12 60 8 [] two

abbrev start : State
start = state (1 ∷ replicate 11 0) (replicate 33 0 ++ (1 ∷ 0x1_0000_0007 ∷ 0 ∷ 0 ∷ 7 ∷ []))

abbrev no_marks : List ℕ
no_marks = replicate 12 0

-- the fuses of a mark stuck, at a cell
abbrev stuck : (at mark : ℕ) → List ℕ
stuck at mark = set no_marks at mark

-- the requests, with the chksum that the document gives or that follows; a buffer of 40 nines and a block of sevens
abbrev mailbox : (code : ℕ) (request : List ℕ) → Call
mailbox code request = Mailbox code request (replicate 40 9) (replicate 128 7)

abbrev fsta : Call
fsta = mailbox (code_of Fsta) (bytes4 0xFFFF_FED2 ++ bytes4 0)

abbrev fers : (chksum partition : ℕ) → Call
fers chksum partition = mailbox (code_of Fers) (bytes4 chksum ++ bytes4 0 ++ bytes4 partition)

abbrev clkc : Call
clkc = mailbox (code_of Clkc) (bytes4 0xFFFF_FDF8 ++ bytes4 0 ++ bytes4 1000)

-- the low bits of a mask
abbrev low : (bits : ℕ) → ℕ
low bits = 2 ^ bits - 1

-- what a case shows: what the call tells, the cells it leaves, the ones of word 0, partition 0's state and short pairs, the HEK
record Seen : Type 0 where
  tells : Told
  cells : List ℕ
  ones : ℕ
  state : PartitionState
  short : ℕ
  hek : Bool

-- a call after others
abbrev seen : (marks : List ℕ) (before : List Call) (call : Call) → Seen
seen marks before call =
    let s : State = after_all small marks before start in
    let c : List ℕ = (after small marks call s).cells in
    record {
      tells = told small marks call s;
      cells = c;
      ones = ones_of (pair_of (get_or c 0 0) (get_or c 1 0));
      state = (survey_at small c 0).state;
      short = (survey_at small c 0).short;
      hek = available (active_slot small c);
    }

-- the first six cells, and the second partition's, which no case changes
abbrev slot_cells : (c0 c1 c2 c3 c4 c5 : ℕ) → List ℕ
slot_cells c0 c1 c2 c3 c4 c5 = c0 ∷ c1 ∷ c2 ∷ c3 ∷ c4 ∷ c5 ∷ replicate 6 0

abbrev all : ℕ
all = 0xFFFF_FFFF

-- a response of 20 bytes: chksum, fips_status, reserved, and two fields; FERS has a third, the fuses newly set (request P8): 24 bytes
abbrev response : (chksum one two : ℕ) → List ℕ
response chksum one two = bytes4 chksum ++ bytes4 0 ++ bytes4 0 ++ bytes4 one ++ bytes4 two

abbrev erased : (chksum short first new : ℕ) → Told
erased chksum short first new = Replying (Ok (record { length = 24; order = Nothing })) (response chksum short first ++ bytes4 new)

abbrev row : Told → (cells : List ℕ) (ones : ℕ) → PartitionState → (short : ℕ) → Bool → Seen
row tells cells ones state short hek = record { tells = tells; cells = cells; ones = ones; state = state; short = short; hek = hek }

-- the cases: a call, and what it shows
cases : List (Seen × Seen)
cases =
    -- 1: active 0, available 1
    (seen no_marks [] fsta, row (Replying (Ok (record { length = 20; order = Nothing })) (response 0xFFFF_FFFF 0 1)) (slot_cells 1 0 0 0 0 0) 1 Programmed 3 true)
    -- 2, by request P8 "Case 2's response gains 191"; and the same erasure by a library call, which tells its burns
    ∷ (seen no_marks [] (fers 0xFFFF_FED0 0), row (erased 0xFFFF_FB45 0 all 191) (slot_cells all all all all all all) 64 Erased 0 false)
    ∷ (seen no_marks [] (Erase 0), row (Erasing (Ok (Ended 0 all 3 191))) (slot_cells all all all all all all) 64 Erased 0 false)
    -- 3: 60 ones of word 0
    ∷ (seen (stuck 1 0x0F) [] (fers 0xFFFF_FED0 0), row (erased 0xFFFF_FB49 0 all 187) (slot_cells all 0xFFFF_FFF0 all all all all) 60 Erased 0 false)
    -- 4: 59 ones
    ∷ (seen (stuck 1 0x1F) [] (fers 0xFFFF_FED0 0), row (erased 0xFFFF_FF45 1 0 186) (slot_cells all 0xFFFF_FFE0 all all all all) 59 Torn 1 false)
    -- 5, by request P4: erased, 1 short, the indicator; and the same by a library call
    ∷ (seen (stuck 5 0x1F) [] (fers 0xFFFF_FED0 0), row (erased 0xFFFF_FF41 1 4 186) (slot_cells all all all all all 0xFFFF_FFE0) 64 Erased 1 false)
    ∷ (seen (stuck 5 0x1F) [] (Erase 0), row (Erasing (Ok (Ended 1 4 3 186))) (slot_cells all all all all all 0xFFFF_FFE0) 64 Erased 1 false)
    -- 6, by request P4: cut at the indicator, 59 bits of it, and 60
    ∷ (seen no_marks [] (EraseCut 0 0 (low 59)), row (Erasing (Ok (Cut 1 59))) (slot_cells 1 0 0 0 all 0x07FF_FFFF) 1 Torn 3 false)
    ∷ (seen no_marks [] (EraseCut 0 0 (low 60)), row (Erasing (Ok (Cut 1 60))) (slot_cells 1 0 0 0 all 0x0FFF_FFFF) 1 Torn 2 false)
    -- 7: cut at the first data word, and FERS again, as case 2, but "Case 7's last gains 96"
    ∷ (seen no_marks [] (EraseCut 0 1 0xFFFF_FFFF), row (Erasing (Ok (Cut 2 95))) (slot_cells all 0 0 0 all all) 32 Torn 2 false)
    ∷ (
      seen no_marks (EraseCut 0 1 0xFFFF_FFFF ∷ []) (fers 0xFFFF_FED0 0),
      row (erased 0xFFFF_FBA4 0 all 96)
          (slot_cells all all all all all all) 64 Erased 0 false,
    )
    -- 8: partition 1, and 2
    ∷ (seen no_marks [] (fers 0xFFFF_FECF 1), row (Replying (Err NotAllowed) []) (slot_cells 1 0 0 0 0 0) 1 Programmed 3 true)
    ∷ (seen no_marks [] (fers 0xFFFF_FECE 2), row (Replying (Err NotThere) []) (slot_cells 1 0 0 0 0 0) 1 Programmed 3 true)
    -- 9
    ∷ (seen no_marks [] clkc, row (Replying (Ok (record { length = 12; order = (Clear 1000) })) (zeros 12)) (slot_cells 1 0 0 0 0 0) 1 Programmed 3 true)
    ∷ []

-- every call shows what the document says
table : map (λ (c : Seen × Seen). c.0) cases ≡ map (λ (c : Seen × Seen). c.1) cases
unfolding cases done_of request_tests map_good whole_arrays every header_good filler_good entry_good place_good all_below u16_at u32_at active_slot open_slot slot_at survey_at
    state_of marked short_at zero_cell count_below first_from ones_in cache_of table_of is_at emptied run_on erase_of burns_of order words_from stops_after goes_on burn_word burn_cell
    new_fuses set_fuses lowest_short
table = refl

-- request P8, what demand 3 compares: of an erasure that ended or was cut all but the last number, of a response of 24 bytes all but the first
-- four and the last four; and every reply
compares :
    map compared
    (Erasing (Ok (Ended 1 2 3 4)) ∷ Erasing (Ok (Cut 1 2)) ∷ Erasing (Err (record { refusal = NotMarked; burns = 1 }))
    ∷ Replying (Ok (record { length = 24; order = (Clear 7) })) (0 ∷ 1 ∷ 2 ∷ 3 ∷ 4 ∷ 5 ∷ 6 ∷ 7 ∷ 8 ∷ 9 ∷ 10 ∷ 11 ∷ 12 ∷ 13 ∷ 14 ∷ 15 ∷ 16 ∷ 17 ∷ 18 ∷ 19 ∷ 20 ∷ 21 ∷ 22 ∷ 23 ∷ [])
    ∷ Replying (Err NotAllowed) [] ∷ [])
    ≡ Erasing (Ok (Ended 1 2 3 0)) ∷ Erasing (Ok (Cut 1 0)) ∷ Erasing (Err (record { refusal = NotMarked; burns = 1 }))
    ∷ Replying (Ok (record { length = 24; order = (Clear 7) })) (4 ∷ 5 ∷ 6 ∷ 7 ∷ 8 ∷ 9 ∷ 10 ∷ 11 ∷ 12 ∷ 13 ∷ 14 ∷ 15 ∷ 16 ∷ 17 ∷ 18 ∷ 19 ∷ []) ∷ Replying (Err NotAllowed) [] ∷ []
compares = refl

-- ---- case 10, where by request P5 each order is answered done

-- a load and an unload of a tag below 256, with the chksum that follows
abbrev load : (tag : ℕ) → Call
load tag = mailbox (code_of Klod) (bytes4 (0xFFFF_FED6 - tag) ++ bytes4 0 ++ bytes4 0 ++ bytes4 tag ++ bytes4 0 ++ zeros 64)

abbrev unload : (tag : ℕ) → Call
unload tag = mailbox (code_of Kunl) (bytes4 (0xFFFF_FEC6 - tag) ++ bytes4 0 ++ bytes4 0 ++ bytes4 tag ++ bytes4 0)

-- loads of the tags 1 to n
abbrev loads : (n : ℕ) → List Call
loads zero = []
loads (suc n) = loads n ++ (load (suc n) ∷ TakeReply Done ∷ [])

-- what a load of a tag tells after others, and that it took a place
abbrev tells : (before : List Call) (tag : ℕ) → Told
tells before tag = told small no_marks (load tag) (after_all small no_marks before start)

abbrev took : (chksum place : ℕ) → Told
took chksum place = Replying (Ok (record { length = 16; order = (Load place 0) })) (bytes4 chksum ++ bytes4 0 ++ bytes4 0 ++ bytes4 place)

-- "Sixteen loads fill places 0 to 15, the seventeenth new tag is 13, a held tag 12; unload place 3's tag, and the next load gets place 3"
case_10 :
    tells [] 1 ∷ tells (loads 15) 16 ∷ tells (loads 16) 17 ∷ tells (loads 16) 4 ∷ tells (loads 16 ++ (unload 4 ∷ TakeReply Done ∷ [])) 17 ∷ []
    ≡ took 0 0 ∷ took 0xFFFF_FFF1 15 ∷ Replying (Err NoEmptyPlace) [] ∷ Replying (Err TagHeld) [] ∷ took 0xFFFF_FFFD 3 ∷ []
unfolding done_of request_tests map_good whole_arrays every header_good filler_good entry_good place_good all_below u16_at u32_at active_slot open_slot slot_at survey_at
    state_of marked short_at zero_cell count_below first_from ones_in cache_of table_of is_at placed turned_below taking_of
case_10 = refl
