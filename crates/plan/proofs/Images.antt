-- The image of a plan, as the code writes it piece after piece. Assumes nothing.
-- The definitions stand in specs/Images.antt.
use Rattle.std.specs.Prelude.{ℕ, zero, suc, ◌+◌, ◌*◌, ◌/◌, ◌%◌, ◌≤◌, ◌<◌, ◌≡◌, true, false, length, get_or, take, drop, Ok, Err}
use Rattle.std.proofs.Math.Path.{refl}
use Rattle.std.proofs.Common.{sym, ap, ◌∙◌, ⊎_elim, lt-ltb, le-ltb, arith, add-one, not-suc-le-zero, le_of_suc-le-suc, length-append, length-drop, take-suc, get_or-drop, drop_at, drop-drop}
use Rattle.std.proofs.lemmas.List.{get_or_append_left}
use mathlib.Core.List.{List, [], ◌++◌, flat_map}
use Rattle.std.proofs.Math.Seq.{take-length}
use Rattle.laws.specs.Tests.{lt_or_le}
use Rattle.laws.specs.Put.{Put, retext}
use Rattle.laws.specs.Below.{all_below}
use Rattle.laws.proofs.Below.{all_fails}
use Rattle.refusal.specs.declared.Refusal.TheVariants.{BadMap}
use Rattle.endian.specs.Endian.{bytes2, bytes4}
use Rattle.map.specs.Image.{entry}
use Rattle.map.specs.declared.Entry.{Entry}
use Rattle.plan.specs.Form.{Plan, entry_in}
use Rattle.plan.specs.Reading.{entries_by, plan_by}
use Rattle.plan.proofs.Laws.{flat_snoc}
use Rattle.plan.specs.Writing.{entry_bytes, image_of}
use Rattle.plan.specs.Images.{fits_at, Imaged, four}

-- ---- the image, piece after piece

-- two u16 are a u32
pub two_u16 : (low high : ℕ) → low < 65536 → high < 65536 → bytes4 (low + 65536 * high) ≡ bytes2 low ++ bytes2 high
two_u16 low high l h =
    let a : (low + 65536 * high) % 256 ≡ low % 256 = omega arith in
    let more : (low + 65536 * high) / 256 ≡ low / 256 + 256 * high = omega arith in
    let upper : (low + 65536 * high) / 65536 ≡ high = omega arith in
    let b : (low / 256 + 256 * high) % 256 ≡ low / 256 = omega arith in
    let d : (low + 65536 * high) / 16777216 ≡ high / 256 = omega arith in
    rw (a, more, upper, b, d)

-- kind and flags are a u16, and the two zero bytes another
pub entry_is : (first n kind flags : ℕ) → kind ≤ 255 → flags ≤ 255
    → bytes2 first ++ bytes2 n ++ (bytes2 (kind + 256 * flags) ++ bytes2 0) ≡ entry first n kind flags
entry_is first n kind flags k f =
    let a : (kind + 256 * flags) % 256 ≡ kind = omega arith in
    let b : (kind + 256 * flags) / 256 ≡ flags = omega arith in
    rw (a, b)

-- ---- the entries, one after the other

module _ (p : Plan) where
  -- the bytes of the first i entries
  abbrev pub entries_below : (i : ℕ) → List ℕ
  entries_below i = flat_map entry_bytes (take i p.entries)

  pub entries_start : [] ≡ entries_below 0
  unfolding flat_map
  entries_start = refl

  pub entries_more : (i : ℕ) → i < length p.entries → entries_below i ++ entry_bytes (entry_in p i) ≡ entries_below (i + 1)
  entries_more i l = rw (add-one, take-suc p.entries i (record { first = 0; n = 0; kind = 0; flags = 0 }) l, flat_snoc)

  -- the header and all of them
  pub image_is : {partitions cells bound : ℕ} → partitions ≡ length p.entries → cells ≡ p.cells → bound ≡ p.bound
      → bytes2 partitions ++ bytes2 cells ++ bytes2 bound ++ bytes2 8 ++ entries_below partitions ≡ image_of p
  unfolding image_of
  image_is e f g = rw (e, f, g, take-length)

-- ---- the numbers that the code has kept, as a plan

pub entries_count : (count : ℕ) (numbers : List ℕ) → length (entries_by count numbers) ≡ count
entries_count zero numbers = refl
entries_count (suc count) numbers = rw (entries_count count (drop 4 numbers))

four_drop : (k : ℕ) (numbers : List ℕ) (at : ℕ) → four (drop k numbers) at ≡ four numbers (k + at)
four_drop k numbers at =
    let a : k + (at + 1) ≡ k + at + 1 = omega arith in
    let b : k + (at + 2) ≡ k + at + 2 = omega arith in
    let c : k + (at + 3) ≡ k + at + 3 = omega arith in
    rw (get_or-drop, get_or-drop, get_or-drop, get_or-drop, a, b, c)

entries_at : (count : ℕ) (numbers : List ℕ) (i : ℕ) (none : Entry) → i < count → get_or (entries_by count numbers) i none ≡ four numbers (4 * i)
entries_at zero numbers i none l = absurd (not-suc-le-zero l)
entries_at (suc count) numbers zero none l = refl
entries_at (suc count) numbers (suc i) none l =
    let e : 4 + 4 * i ≡ 4 * suc i = omega arith in
    entries_at count (drop 4 numbers) i none (le_of_suc-le-suc l) ∙ four_drop 4 numbers (4 * i) ∙ ap (four numbers) e

module _ (numbers : List ℕ) (whole : length numbers % 4 ≡ 2) where
  abbrev plan : Plan
  plan = plan_by numbers

  lines_are : length plan.entries ≡ length numbers / 4
  lines_are = entries_count (length numbers / 4) (drop 2 numbers)

  -- line i: its four numbers, and those behind it
  module _ (i : ℕ) (line rest : List ℕ) (is : drop (2 + 4 * i) numbers ≡ line ++ rest) (long : length line ≡ 4) where
    pub here : 2 + 4 * (i + 1) ≤ length numbers
    here = omega (arith, ap length is, long, length-drop (2 + 4 * i) numbers, length-append line rest)

    pub behind : rest ≡ drop (2 + 4 * (i + 1)) numbers
    behind =
        let next : 2 + 4 * i + 4 ≡ 2 + 4 * (i + 1) = omega arith in
        sym (drop_at line rest 4 long) ∙ ap (drop 4) (sym is) ∙ drop-drop 4 (2 + 4 * i) numbers ∙ rw next

    line_is : entry_in plan i ≡ four line 0
    line_is =
        let start : 2 + 4 * i ≡ 2 + 4 * i + 0 = omega arith in
        let read : (k : ℕ) → k < 4 → get_or (line ++ rest) k 0 ≡ get_or line k 0 = λ k l. get_or_append_left line rest 0 k (omega (arith, long, l)) in
        entries_at (length numbers / 4) (drop 2 numbers) i _ (omega (arith, here)) ∙ four_drop 2 numbers (4 * i)
        ∙ ap (four numbers) start ∙ sym (four_drop (2 + 4 * i) numbers 0) ∙ ap (λ (l : List ℕ). four l 0) is
        ∙ rw (read 0 (omega arith), read 1 (omega arith), read 2 (omega arith), read 3 (omega arith))

    -- it fits, or does not, and its bytes stand behind those before it
    pub line_fits : get_or line 2 0 ≤ 255 → get_or line 3 0 ≤ 255 → fits_at plan i ≡ true
    unfolding fits_at
    line_fits k f = rw (line_is, le-ltb 255 (get_or line 2 0) k, le-ltb 255 (get_or line 3 0) f)

    large : (get_or line 2 0 ≤ 255 → 255 < get_or line 3 0) → fits_at plan i ≡ false
    unfolding fits_at
    large h =
        ⊎_elim
        (λ (l : 255 < get_or line 2 0). rw (line_is, lt-ltb 255 (get_or line 2 0) l))
        (λ (m : get_or line 2 0 ≤ 255). rw (line_is, le-ltb 255 (get_or line 2 0) m, lt-ltb 255 (get_or line 3 0) (h m)))
        (lt_or_le 255 (get_or line 2 0))

    pub line_more : entries_below plan i ++ entry_bytes (four line 0) ≡ entries_below plan (i + 1)
    line_more = ap (λ (x : Entry). entries_below plan i ++ entry_bytes x) (sym line_is) ∙ entries_more plan i (omega (arith, here, lines_are))

    -- one that does not fit: no image is written
    pub not_imaged : (before after : List ℕ) → (get_or line 2 0 ≤ 255 → 255 < get_or line 3 0) → Imaged plan before after (Err BadMap)
    not_imaged before after h = (all_fails (fits_at plan) (length plan.entries) i (omega (arith, here, lines_are)) (large h), refl)

  -- all of them fit, and are written behind the header
  pub imaged : (before after : List ℕ) (i next : ℕ) → 2 + 4 * i ≤ length numbers → length (drop (2 + 4 * i) numbers) < 4 → all_below (fits_at plan) i ≡ true
      → Put 0 (bytes2 (length numbers / 4) ++ bytes2 (get_or numbers 0 0) ++ bytes2 (get_or numbers 1 0) ++ bytes2 8 ++ entries_below plan i) before after next
      → next ≡ 8 + 8 * i → Imaged plan before after (Ok tt)
  imaged before after i next l m e p n =
      let all : i ≡ length numbers / 4 = omega (arith, l, m, length-drop (2 + 4 * i) numbers, whole) in
      (rw lines_are (rw all at e), retext (image_is plan (sym lines_are) refl refl) (rw (lines_are, ← rw all at n) (rw all at p)))
