-- Document 01, "Erasing a partition", with request P8: the refusals of an erasure, the run over a partition of a drive, and what is answered and left.
-- Assumes nothing.
use Rattle.std.specs.Prelude.{ℕ, ◌+◌, ◌-◌, ◌^◌, ◌<◌, ◌≡◌, Bool, true, false, cond, not, List, [], ◌∷◌, ◌++◌, leb, length, take, drop, Result, Ok, Err, Option, Some, None}
use Rattle.refusal.specs.Refusals.{first_of}
use Rattle.refusal.specs.declared.Refusal.{Refusal}
use Rattle.refusal.specs.declared.Refusal.TheVariants.{NotThere, NotAllowed, SlotInUse, NotMarked}
use Rattle.context.specs.State.{State, with_context, Outcome, outcome, refusing, on_cells}
use Rattle.map.specs.Map.{header_of, entry_of, software, zeroizable}
use Rattle.partition.specs.Partition.{short_pairs, lowest_short}
use Rattle.burns.specs.declared.End.{End}
use Rattle.burns.specs.declared.End.TheVariants.{Whole, Stopped, Cut as CutEnd}
use Rattle.burns.specs.Run.{Tally, tally_of, Ran, ran, run}
use Rattle.drive.specs.Drive.{Whole as WholeDrive, drive_tests, cells_of, slot_in_use}
use Rattle.cache.specs.Cache.{emptied}
use Rattle.erasure.specs.declared.Answer.{Answer}
use Rattle.erasure.specs.declared.Refused.{Refused}
use Rattle.erasure.specs.declared.Answer.TheVariants.{Ended, Cut}

-- ---- refusals

-- of an erasure of partition i: 7 "no such partition", 8 "not zeroizable", 10 "slot change while keys are held"
abbrev pub partition_tests : (image : List ℕ) (i : ℕ) (context : List ℕ) → List (Bool × Refusal)
partition_tests image i context =
    (leb (header_of image).partitions i, NotThere)
    ∷ (not (zeroizable (entry_of image i)), NotAllowed)
    ∷ (slot_in_use image i context, SlotInUse)
    ∷ []

-- all that are checked before a burn: 1 and 2 for the drive, 7, 8 and 10 for the partition; 15 is the run's, below
abbrev pub erase_tests : (image marks : List ℕ) (i : ℕ) → State → List (Bool × Refusal)
erase_tests image marks i s = drive_tests image s.cells marks ++ partition_tests image i s.context

-- a drive and a partition that 1, 2, 7 and 8 do not concern: what the functions below the entry points ask for. 10 is the caller's,
-- since they are not lent the context
pub record Erasable (image cells marks : List ℕ) (i : ℕ) : Type 0 where
  pub whole : WholeDrive image cells
  pub marks_long : length marks ≡ length cells
  pub partition : i < (header_of image).partitions
  pub may : zeroizable (entry_of image i) ≡ true

-- ---- the run over a partition of a drive

-- the whole array with other cells in the place of partition i's
abbrev pub put_part : (image cells : List ℕ) (i : ℕ) (part : List ℕ) → List ℕ
put_part image cells i part = take (entry_of image i).first cells ++ (part ++ drop (entry_of image i).n (drop (entry_of image i).first cells))

-- a run over partition i's cells, with the cells of the whole array
abbrev pub in_whole : (image cells : List ℕ) (i : ℕ) → Ran → Ran
in_whole image cells i r = ran r.end (tally_of (put_part image cells i r.tally.cells) r.tally.burns r.tally.new)

-- "Uncut and cut erasures, FERS among them, are one run": the run over partition i, cut at burn k
unfoldable pub run_on : (image cells marks : List ℕ) (i k mask : ℕ) → Ran
run_on image cells marks i k mask = in_whole image cells i (run (cells_of image marks i) (software (entry_of image i)) k mask (cells_of image cells i))

-- the burn that an erasure which is not cut would be cut at: no order reaches it
abbrev pub never : ℕ
never = 2 ^ 32 - 1

-- ---- the answer

-- what an erasure is answered: how it ended or was cut, or its refusal with the burns carried out
abbrev pub Told : Type 0
Told = Result Answer Refused

-- a refusal before any burn
abbrev pub none_burned : Refusal → Refused
none_burned refusal = record { refusal = refusal; burns = 0 }

-- "the first cell of the lowest one, 0xFFFFFFFF if none"
abbrev pub first_short : (first : ℕ) → Option ℕ → ℕ
first_short first (Some k) = first + k
first_short first None = 0xFFFF_FFFF

-- "the number of short pairs of the partition and the first cell of the lowest one .. and the number of burns carried out"; refusal 15;
-- a cut one "answers only that it was cut and the burns carried out". Request P8, of the fuses that the burns newly set: "erasures add it up,
-- cut ones included"; "15 reports 0, as its burn sets nothing" (`told_new`)
abbrev pub answer_by : End → (image : List ℕ) (i : ℕ) → Tally → Told
answer_by Whole image i t =
    let part : List ℕ = cells_of image t.cells i in
    Ok (Ended (short_pairs (header_of image).bound part) (first_short (entry_of image i).first (lowest_short (header_of image).bound part)) t.burns t.new)
answer_by Stopped image i t = Err (record { refusal = NotMarked; burns = t.burns })
answer_by CutEnd image i t = Ok (Cut t.burns t.new)

-- the fuses newly set that an answer reports; a refusal reports 0
abbrev pub told_new : Told → ℕ
told_new (Ok (Ended short first burns new)) = new
told_new (Ok (Cut burns new)) = new
told_new (Err refused) = 0

-- what a run answers, and the cells that it leaves
abbrev pub ran_of : (image : List ℕ) (i : ℕ) → Ran → Outcome Told (List ℕ)
ran_of image i r = outcome (answer_by r.end image i r.tally) r.tally.cells

-- the erasure of a drive that was judged, as FERS makes it: it is not cut
abbrev pub uncut_of : (image cells marks : List ℕ) (i : ℕ) → Outcome Told (List ℕ)
uncut_of image cells marks i = ran_of image i (run_on image cells marks i never 0)

-- ---- the erasures

-- a refusal before any burn, as it is told
abbrev pub unburned : Refusal → Told
unburned refusal = Err (none_burned refusal)

-- what an erasure does that no test refuses: its run on the state's cells
abbrev pub burning : (image marks : List ℕ) (i k mask : ℕ) → State → Outcome Told State
burning image marks i k mask s = on_cells s (ran_of image i (run_on image s.cells marks i k mask))

-- an erasure of partition i, cut at burn k if its order reaches it
unfoldable pub erase_of : (image marks : List ℕ) (i k mask : ℕ) → State → Outcome Told State
erase_of image marks i k mask s = first_of (refusing unburned s) (erase_tests image marks i s) (burning image marks i k mask s)

-- the erasure
abbrev pub erasure_of : (image marks : List ℕ) (i : ℕ) → State → Outcome Told State
erasure_of image marks i s = erase_of image marks i never 0 s

-- the power failed
abbrev pub is_cut : Told → Bool
is_cut (Ok (Ended short first burns new)) = false
is_cut (Ok (Cut burns new)) = true
is_cut (Err refused) = false

-- of a cut erasure: "nothing follows and the key cache is empty", and by request P5 no reply is awaited; where it ends before burn k, or
-- is refused, it is not cut
abbrev pub after_cut : Outcome Told State → Outcome Told State
after_cut o =
    let s : State = o.after in
    outcome o.told (with_context (cond (is_cut o.told) (emptied s.context) s.context) s)

-- the cut erasure
abbrev pub cut_erasure_of : (image marks : List ℕ) (i k mask : ℕ) → State → Outcome Told State
cut_erasure_of image marks i k mask s = after_cut (erase_of image marks i k mask s)

-- ---- the restart

-- "A restart empties the cache and changes nothing else"; by request P5 it drops an awaited reply
abbrev pub restarted : State → State
restarted s = with_context (emptied s.context) s
