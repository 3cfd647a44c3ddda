-- A partition's part of the array, put back after a run: inside it stands what the run left, outside nothing has changed. Assumes
-- nothing.
-- The definitions stand in specs/Parts.antt.
use Rattle.std.specs.Prelude.{ℕ, ◌+◌, ◌-◌, ◌≤◌, ◌<◌, ◌≡◌, List, ◌++◌, length, get_or, take, drop}
use Rattle.std.proofs.Common.{sym, ap, ◌∙◌, inl, inr, ⊎_elim, arith, length-append, length-take, length-drop, get_or-take, get_or-drop, get_or-append-add, length-take-le, take_at, drop_at, ext_get_or}
use Rattle.std.proofs.Math.ListN.{get_or-append}
use Rattle.laws.specs.Tests.{lt_or_le}
use Rattle.context.specs.Laws.{part_at}
use Rattle.map.specs.Map.{header_of, entry_of, end_of, software}
use Rattle.burns.specs.Run.{run}
use Rattle.burns.proofs.Safe.{length_run}
use Rattle.drive.specs.Drive.{Whole, cells_of}
use Rattle.erasure.specs.Erasure.{put_part, run_on}
use Rattle.erasure.proofs.Laws.{part_long, part_end}
use Rattle.erasure.specs.Parts.{Outside, Apart}

-- a cell of the array that lies in the partition is one of the part
pub array_at : (image cells : List ℕ) (i j : ℕ) → (entry_of image i).first ≤ j → j < end_of (entry_of image i) → get_or (cells_of image cells i) (j - (entry_of image i).first) 0 ≡ get_or cells j 0
array_at image cells i j low high =
    let at = j - (entry_of image i).first in
    let same : (entry_of image i).first + at ≡ j = omega arith in
    part_at (entry_of image i).first (entry_of image i).n cells at (omega arith) ∙ ap (λ (k : ℕ). get_or cells k 0) same

-- other cells in the place of the partition's
module _ (image cells : List ℕ) (i : ℕ) (part : List ℕ) (within : end_of (entry_of image i) ≤ length cells) (long : length part ≡ (entry_of image i).n) where
  abbrev first : ℕ
  first = (entry_of image i).first

  abbrev rest : List ℕ
  rest = drop (entry_of image i).n (drop first cells)

  front : length (take first cells) ≡ first
  front = length-take-le first cells (omega arith)

  put_before : (j : ℕ) → j < first → get_or (put_part image cells i part) j 0 ≡ get_or cells j 0
  put_before j l = get_or-append (take first cells) (part ++ rest) 0 j (omega (arith, front)) ∙ get_or-take first cells j 0 l

  put_behind : (j : ℕ) → end_of (entry_of image i) ≤ j → get_or (put_part image cells i part) j 0 ≡ get_or cells j 0
  put_behind j l =
      let k = j - end_of (entry_of image i) in
      let at : j ≡ length (take first cells) + (length part + k) = omega (arith, front, long) in
      let same : first + ((entry_of image i).n + k) ≡ j = omega arith in
      ap (λ (x : ℕ). get_or (put_part image cells i part) x 0) at
      ∙ get_or-append-add (take first cells) (part ++ rest) (length part + k) 0
      ∙ get_or-append-add part rest k 0
      ∙ get_or-drop (entry_of image i).n (drop first cells) k 0
      ∙ get_or-drop first cells ((entry_of image i).n + k) 0
      ∙ ap (λ (x : ℕ). get_or cells x 0) same

  put_outside : (j : ℕ) → Outside image i j → get_or (put_part image cells i part) j 0 ≡ get_or cells j 0
  put_outside j (inl l) = put_before j l
  put_outside j (inr l) = put_behind j l

  put_part_lem : cells_of image (put_part image cells i part) i ≡ part
  put_part_lem = ap (take (entry_of image i).n) (drop_at (take first cells) (part ++ rest) first front) ∙ take_at part rest (entry_of image i).n long

  length_put : length (put_part image cells i part) ≡ length cells
  length_put = simp (length-append, length-take, length-drop) (omega (arith, long))

-- a run over a partition
module _ (image cells marks : List ℕ) (i k mask : ℕ) (whole : Whole image cells) (l : i < (header_of image).partitions) where
  abbrev after : List ℕ
  after = (run (cells_of image marks i) (software (entry_of image i)) k mask (cells_of image cells i)).tally.cells

  kept_long : length after ≡ (entry_of image i).n
  kept_long = length_run (cells_of image marks i) (software (entry_of image i)) k mask (cells_of image cells i) ∙ part_long image cells i whole l

  pub run_part_lem : cells_of image (run_on image cells marks i k mask).tally.cells i ≡ after
  unfolding run_on
  run_part_lem = put_part_lem image cells i after (part_end image cells i whole l) kept_long

  pub run_outside : (j : ℕ) → Outside image i j → get_or (run_on image cells marks i k mask).tally.cells j 0 ≡ get_or cells j 0
  unfolding run_on
  run_outside j o = put_outside image cells i after (part_end image cells i whole l) kept_long j o

  pub run_length : length (run_on image cells marks i k mask).tally.cells ≡ length cells
  unfolding run_on
  run_length = length_put image cells i after (part_end image cells i whole l) kept_long

-- two arrays that agree outside a partition and in it agree
pub same_array : (image : List ℕ) (i : ℕ) (c d : List ℕ) → length c ≡ length d → ((j : ℕ) → Outside image i j → get_or c j 0 ≡ get_or d j 0)
    → cells_of image c i ≡ cells_of image d i → c ≡ d
same_array image i c d long out part =
    let x = entry_of image i in
    ext_get_or 0 c d long
    (λ j l.
    ⊎_elim
    (λ (a : j < x.first). out j (inl a))
    (λ (a : x.first ≤ j).
    ⊎_elim
    (λ (b : j < end_of x). sym (array_at image c i j a b) ∙ ap (λ (p : List ℕ). get_or p (j - x.first) 0) part ∙ array_at image d i j a b)
    (λ (b : end_of x ≤ j). out j (inr b))
    (lt_or_le j (end_of x)))
    (lt_or_le j x.first))

pub run_apart : (image cells marks : List ℕ) (i k mask : ℕ) → Whole image cells → i < (header_of image).partitions → (j : ℕ) → Apart image i j
    → cells_of image (run_on image cells marks i k mask).tally.cells j ≡ cells_of image cells j
run_apart image cells marks i k mask whole l j apart =
    let after = (run_on image cells marks i k mask).tally.cells in
    let n = (entry_of image j).n in
    let long = run_length image cells marks i k mask whole l in
    ext_get_or 0 (cells_of image after j) (cells_of image cells j) (simp (length-take, length-drop) (rw long))
    (λ m b.
    let in_part : m < n = omega (arith, simp length-take at b) in
    let out : Outside image i ((entry_of image j).first + m) =
    ⊎_elim
    (λ (a : end_of (entry_of image i) ≤ (entry_of image j).first). inr (omega arith))
    (λ (a : end_of (entry_of image j) ≤ (entry_of image i).first). inl (omega arith))
    apart in
    let cell = (entry_of image j).first in
    part_at cell n after m in_part ∙ run_outside image cells marks i k mask whole l (cell + m) out ∙ sym (part_at cell n cells m in_part))
