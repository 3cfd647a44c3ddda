-- The laws of an erasure on a drive: its refusal's number, the run over the partition that was read, and what is answered. Assumes nothing.
use Rattle.std.specs.Prelude.{ℕ, ◌+◌, ◌-◌, ◌%◌, ◌^◌, ◌≤◌, ◌<◌, ◌≡◌, Bool, true, false, cond, length, take, drop, Ok, Err, Result, ⊤, Option, Some, None}
use Rattle.std.proofs.Math.Path.{refl, sym, ap}
use Rattle.std.proofs.Common.{◌∙◌, length-drop, length-take, leb-false}
use mathlib.Core.List.{List, [], ◌++◌}
use native.Mathlib.Omega.{arith}
use Rattle.std.proofs.lemmas.Bool.{not-false}
use Rattle.refusal.specs.Refusals.{test_at, refusal_at, Past, refused_at, past_all, first_of, judged, judged_refuses, judged_passes}
use Rattle.refusal.specs.declared.Refusal.{Refusal}
use Rattle.context.specs.State.{State, with_cells, with_context, Outcome, outcome, refusing, on_cells}
use Rattle.map.specs.declared.Header.{Header}
use Rattle.map.specs.declared.Entry.{Entry}
use Rattle.map.specs.Map.{header_of, entry_of, software}
use Rattle.map.proofs.Laws.{map_header, map_entry}
use Rattle.partition.specs.declared.Shorts.{Shorts}
use Rattle.partition.specs.Partition.{lowest_short, shorts_of}
use Rattle.partition.proofs.Laws.{lowest_tells}
use Rattle.burns.specs.declared.End.{End}
use Rattle.burns.specs.declared.End.TheVariants.{Whole}
use Rattle.burns.specs.declared.Report.{Report}
use Rattle.burns.specs.Run.{Tally, tally_of, Ran, ran_as, run}
use Rattle.drive.specs.Drive.{Whole as WholeDrive, check_of, cells_of}
use Rattle.drive.specs.Laws.{check_refused, check_passed, judged as judged_drive, part_is, shorts_most}
use Rattle.cache.specs.Cache.{emptied}
use Rattle.erasure.specs.declared.Answer.{Answer}
use Rattle.erasure.specs.declared.Answer.TheVariants.{Ended}
use Rattle.erasure.specs.Erasure.{Told, partition_tests, Erasable, in_whole, run_on, first_short, answer_by, ran_of, unburned, burning}
use Rattle.erasure.specs.Erasure.{erase_of, is_cut, after_cut}

-- ---- which of the partition's tests gives the refusal, by the test's place; none where none does

module _ (image : List ℕ) (i : ℕ) (context : List ℕ) where
  pub partition_at : (k : ℕ) → Past k (partition_tests image i context) → test_at (partition_tests image i context) k ≡ true
      → Err (refusal_at (partition_tests image i context) k) ≡ judged (partition_tests image i context)
  partition_at k = refused_at Err (Ok tt) k (partition_tests image i context)

  pub partition_past : Past 3 (partition_tests image i context) → Ok tt ≡ judged (partition_tests image i context)
  partition_past = past_all Err (Ok tt) (partition_tests image i context)

-- ---- the partition's part of the arrays, at the entry x that was read

-- it has the cells that the map says, and they lie in the array
module _ (image cells : List ℕ) (i : ℕ) (whole : WholeDrive image cells) (l : i < (header_of image).partitions) where
  pub part_end : (entry_of image i).first + (entry_of image i).n ≤ length cells
  part_end = rw whole.long (map_entry image whole.good i l).within

  pub part_long : length (cells_of image cells i) ≡ (entry_of image i).n
  part_long = simp (length-take, length-drop) (omega (arith, part_end))

  pub part_small : length (cells_of image cells i) ≤ 2048
  part_small = omega (arith, part_long, part_end, whole.long, (map_header image whole.good).cells_most)

  -- so its numbers fit in 32 bits
  first_fits : (bound : ℕ) (lowest : Option ℕ) → lowest ≡ lowest_short bound (cells_of image cells i) → first_short (entry_of image i).first lowest < 2 ^ 32
  first_fits bound (Some k) e =
      let at = lowest_tells bound (cells_of image cells i) k e in
      omega (arith, at.cell, at.within, part_long, part_end, whole.long, (map_header image whole.good).cells_most)
  first_fits bound None e = omega arith

  module _ (bound : ℕ) {part : List ℕ} {shorts : Shorts} (p : part ≡ cells_of image cells i) (q : shorts ≡ shorts_of bound part) where
    pub count_fits : shorts.count < 2 ^ 32
    count_fits = rw (q, p) (omega (arith, shorts_most image cells whole.good i l bound))

    pub first_short_fits : {x : Entry} → x ≡ entry_of image i → first_short x.first shorts.lowest < 2 ^ 32
    first_short_fits e = rw e (first_fits bound shorts.lowest (ap (λ (s : Shorts). s.lowest) q ∙ ap (lowest_short bound) p))

module _ (image cells marks : List ℕ) (i : ℕ) (ok : Erasable image cells marks i) {x : Entry} (e : x ≡ entry_of image i) where
  pub cells_end : x.first + x.n ≤ length cells
  cells_end = rw e (part_end image cells i ok.whole ok.partition)

  pub marks_end : x.first + x.n ≤ length marks
  marks_end = rw ok.marks_long cells_end

  -- the code's part of an array is the partition's
  abbrev part_by : (array : List ℕ) → List ℕ
  part_by array = take (x.first + x.n - x.first) (drop x.first array)

  pub fits_run : (4 ≤ length (part_by cells)) × (length (part_by cells) % 2 ≡ 0) × (length (part_by cells) ≤ 2048) × (length (part_by marks) ≡ length (part_by cells))
  fits_run =
      let rules = map_entry image ok.whole.good i ok.partition in
      let marks_whole : WholeDrive image marks = record { good = ok.whole.good; long = ok.marks_long ∙ ok.whole.long } in
      let long = part_long image cells i ok.whole ok.partition in
      let same = part_long image marks i marks_whole ok.partition in
      let most : (entry_of image i).n ≤ 2048 = omega (arith, long, part_small image cells i ok.whole ok.partition) in
      rw (part_is image cells i x e, part_is image marks i x e, long, same) (rules.n_least, rules.n_even, most, refl)

  pub burns_fit : {burns : ℕ} → burns ≤ length (part_by cells) → burns ≤ 2048
  burns_fit l = omega (arith, rw (part_is image cells i x e) at l, part_small image cells i ok.whole ok.partition)

  -- a run over the part, as one over the partition
  pub ran_on : {cells_alone : Bool} → cells_alone ≡ software x → (k mask : ℕ) {r : Report} {part : List ℕ}
      → ran_as r part ≡ run (part_by marks) cells_alone k mask (part_by cells)
      → ran_as r (take x.first cells ++ (part ++ drop (x.first + x.n - x.first) (drop x.first cells))) ≡ run_on image cells marks i k mask
  unfolding run_on
  ran_on {cells_alone} w k mask {r} {part} q =
      let width : x.first + x.n - x.first ≡ x.n = omega arith in
      let same : ran_as r part ≡ run (cells_of image marks i) (software (entry_of image i)) k mask (cells_of image cells i) = rw (w, width, e) at q in
      rw (width, e) (ap (in_whole image cells i) same)

-- ---- the answer, at the values that were read

pub ended_is : (image cells : List ℕ) (i burns new : ℕ) {header : Header} {x : Entry} {part : List ℕ} {shorts : Shorts} {first : ℕ} → header ≡ header_of image
    → x ≡ entry_of image i → part ≡ cells_of image cells i
    → shorts ≡ shorts_of header.bound part → first ≡ first_short x.first shorts.lowest
    → Ok (Ended shorts.count first burns new) ≡ answer_by Whole image i (tally_of cells burns new)
ended_is image cells i burns new h e p q f = rw (f, q, p, h, e)

-- how a run ended, as the code tells it
pub ended : (image : List ℕ) (i : ℕ) (t : Tally) {end told : End} {answer : Told} → end ≡ told → answer ≡ answer_by told image i t → answer ≡ answer_by end image i t
ended image i t e q = q ∙ ap (λ (x : End). answer_by x image i t) (sym e)

-- what a run leaves, by what is reported of it
pub run_left : (image : List ℕ) (i : ℕ) {r : Ran} {report : Report} {cells : List ℕ} {answer : Told} → ran_as report cells ≡ r
    → answer ≡ answer_by report.end image i (tally_of cells report.burns report.new) → outcome answer cells ≡ ran_of image i r
run_left image i {cells = cells} e q = ap (λ (answer : Told). outcome answer cells) q ∙ ap (ran_of image i) e

-- ---- an erasure, by what its two checks give

module _ (image marks : List ℕ) (i : ℕ) (s : State) where
  abbrev rest : List (Bool × Refusal)
  rest = partition_tests image i s.context

  module _ (k mask : ℕ) where
    abbrev runs : Outcome Told State
    runs = burning image marks i k mask s

    -- the drive's refuses
    pub erase_unchecked : (r : Refusal) → Err r ≡ check_of image s.cells marks → outcome (unburned r) s ≡ erase_of image marks i k mask s
    unfolding erase_of
    erase_unchecked r c = sym (check_refused (refusing unburned s) rest runs image s.cells marks r c)

    module _ {header : Header} (c : Ok header ≡ check_of image s.cells marks) where
      checked : first_of (refusing unburned s) (rest ++ []) runs ≡ erase_of image marks i k mask s
      unfolding erase_of
      checked = sym (check_passed (refusing unburned s) rest runs image s.cells marks header c)

      -- the partition's refuses
      pub erase_refused : (r : Refusal) → Err r ≡ judged rest → outcome (unburned r) s ≡ erase_of image marks i k mask s
      erase_refused r e = sym (judged_refuses (refusing unburned s) [] runs rest r e) ∙ checked

      -- neither does
      pub erase_runs : Ok tt ≡ judged rest → {answer : Told} {cells : List ℕ} → outcome answer cells ≡ ran_of image i (run_on image s.cells marks i k mask)
          → outcome answer (with_cells cells s) ≡ erase_of image marks i k mask s
      erase_runs z e = ap (on_cells s) e ∙ (sym (judged_passes (refusing unburned s) [] runs rest z).is ∙ checked)

  pub erasable : {header : Header} → Ok header ≡ check_of image s.cells marks → Ok tt ≡ judged rest → Erasable image s.cells marks i
  erasable c z =
      let passed = judged_passes {A = Result ⊤ Refusal} Err [] (Ok (tt {0})) rest z in
      let drive = judged_drive image s.cells marks _ c in
      record {
        whole = drive.whole;
        marks_long = drive.marks_long ∙ sym drive.whole.long;
        partition = leb-false _ _ (passed.none 0);
        may = not-false _ (passed.none 1);
      }

-- ---- a cut erasure, with its context

module _ {answer : Told} {s : State} {o : Outcome Told State} (e : outcome answer s ≡ o) where
  left_by : {cut : Bool} → is_cut answer ≡ cut → outcome answer (with_context (cond cut (emptied s.context) s.context) s) ≡ after_cut o
  left_by c = rw (← c) (ap after_cut e)

  pub cut_left : {context : List ℕ} → is_cut answer ≡ true → context ≡ emptied s.context → outcome answer (with_context context s) ≡ after_cut o
  cut_left c q = rw q (left_by c)

  pub uncut_left : is_cut answer ≡ false → outcome answer s ≡ after_cut o
  uncut_left c = left_by c
