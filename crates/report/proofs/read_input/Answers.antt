-- `report::read_input` meets its contract: each refusal by the place of its test. Assumes nothing.
use Rattle.std.specs.Prelude.{ℕ, suc, ◌+◌, ◌-◌, ◌≤◌, ◌<◌, ◌≡◌, true, ltb, List, take, drop, not, length, Some, None}
use Rattle.std.proofs.Common.{sym, ap, ◌∙◌, arith, length-drop, length-take, take_all, lt-ltb, le-ltb}
use Rattle.std.proofs.Math.Seq.{drop-drop}
use Rattle.std.proofs.lemmas.Result.{err_from_is_err_and}
use borrow.Author.Tests.{eq-eqb, ne_eqb}
use Rattle.std.specs.List.{IsSplitAt}
use Rattle.refusal.specs.declared.Refusal.TheVariants.{BadLent}
use Rattle.refusal.specs.Refusals.{Past}
use Rattle.map.specs.declared.Header.{Header}
use Rattle.map.specs.Map.{header_of, map_good}
use Rattle.report.specs.Status.{map_length, image_of, cell_count, input_tests}
use Rattle.report.proofs.Laws.{input_at, input_past}
use Rattle.report.proofs.read_input.Goals as goal

-- what stands behind the length is taken apart into the map and the arrays
apart : (input image arrays : List ℕ) {len : ℕ} → 2 ≤ length input → len ≡ map_length input
    → IsSplitAt (take (length input - 2) (drop 2 input)) len image arrays
    → (2 + map_length input ≤ length input) × (image ≡ image_of input) × (arrays ≡ drop (2 + map_length input) input)
    × (length arrays + (2 + map_length input) ≡ length input)
apart input image arrays {len} two e s =
    let all : take (length input - 2) (drop 2 input) ≡ drop 2 input = take_all _ _ (omega (arith, length-drop 2 input)) in
    let r = rw all at s in (
      omega (arith, length-drop 2 input, r.0),
      r.1 ∙ ap (λ (n : ℕ). take n (drop 2 input)) e,
      r.2 ∙ drop-drop len 2 input ∙ ap (λ (n : ℕ). drop (2 + n) input) e,
      omega (arith, length-drop 2 input, r.4),
    )

-- or the map is cut short
cut : (input : List ℕ) {len : ℕ} → len ≡ map_length input → length (take (length input - 2) (drop 2 input)) < len
    → ltb (length input) (2 + map_length input) ≡ true
cut input e short = let r = simp (length-take, length-drop) at short in lt-ltb _ _ (omega (arith, r))

-- the tests of the lengths do not apply, nor k tests behind them
lengths_past : (input : List ℕ) {len : ℕ} → 2 ≤ length input → len ≡ map_length input → len ≤ 256 → 2 + map_length input ≤ length input
    → (k : ℕ) → Past k (drop 3 (input_tests input)) → Past (suc (suc (suc k))) (input_tests input)
lengths_past input two e most whole k p = (le-ltb _ _ two, (le-ltb _ _ (rw e at most), (le-ltb _ _ whole, p)))

-- the number of cells that was read is the map's
count_is : (input image : List ℕ) {header : Header} → image ≡ image_of input → header ≡ header_of image → header.cells ≡ cell_count input
count_is input image i h = ap (λ (x : Header). x.cells) h ∙ ap (λ (m : List ℕ). (header_of m).cells) i

pub returns-then-input-lt2 : goal.returns-then-input-lt2
returns-then-input-lt2 c = input_at _ 0 tt (lt-ltb _ _ c.if-input-lt2.true)

pub returns-then-len-gt256 : goal.returns-then-len-gt256
returns-then-len-gt256 c = input_at _ 1 (le-ltb _ _ c.if-input-lt2.false, tt) (lt-ltb _ _ (rw c.u16_at-len.ensures at c.if-len-gt256.true))

pub returns-in_err-image : goal.returns-in_err-image
returns-in_err-image c =
    let p = err_from_is_err_and c.from_residual.result c.from_residual.ensures.1 in
    let none : c.split_at_checked.result ≡ None = grind arith in
    let is : c.in_err-image.field-0.0 ≡ BadLent = grind arith in
    let short = rw none at c.split_at_checked.ensures.cases in
    rw (p.1, p.2, is)
    (input_at _ 2 (le-ltb _ _ c.if-input-lt2.false, (le-ltb _ _ (rw c.u16_at-len.ensures at c.if-len-gt256.false), tt))
    (cut _ c.u16_at-len.ensures short))

pub returns-then-not-is_good : goal.returns-then-not-is_good
returns-then-not-is_good c =
    let some : c.split_at_checked.result ≡ Some (c.in_ok-image.image, c.in_ok-image.arrays) = grind arith in
    let split = rw some at c.split_at_checked.ensures.cases in
    let parts = apart _ _ _ c.if-input-lt2.false c.u16_at-len.ensures split in
    input_at _ 3 (lengths_past _ c.if-input-lt2.false c.u16_at-len.ensures c.if-len-gt256.false parts.0 0 tt)
    (ap not (ap map_good (sym parts.1) ∙ sym c.is_good.ensures ∙ c.if-not-is_good.true))

pub returns-then-arrays-read_header : goal.returns-then-arrays-read_header
returns-then-arrays-read_header c =
    let some : c.split_at_checked.result ≡ Some (c.in_ok-image.image, c.in_ok-image.arrays) = grind arith in
    let split = rw some at c.split_at_checked.ensures.cases in
    let parts = apart _ _ _ c.if-input-lt2.false c.u16_at-len.ensures split in
    let good = ap not (ap map_good (sym parts.1) ∙ sym c.is_good.ensures ∙ c.if-not-is_good.false) in
    let count = count_is _ _ parts.1 c.read_header.ensures in
    let told = input_past _ (lengths_past _ c.if-input-lt2.false c.u16_at-len.ensures c.if-len-gt256.false parts.0 2
    (good, (ap not (eq-eqb _ _ (omega (arith, parts.3, count, c.if-arrays-read_header.true))), tt))) in
    rw (← told, parts.1, parts.2)

pub returns : goal.returns
returns c =
    let some : c.split_at_checked.result ≡ Some (c.in_ok-image.image, c.in_ok-image.arrays) = grind arith in
    let split = rw some at c.split_at_checked.ensures.cases in
    let parts = apart _ _ _ c.if-input-lt2.false c.u16_at-len.ensures split in
    let good = ap not (ap map_good (sym parts.1) ∙ sym c.is_good.ensures ∙ c.if-not-is_good.false) in
    let count = count_is _ _ parts.1 c.read_header.ensures in
    input_at _ 4 (lengths_past _ c.if-input-lt2.false c.u16_at-len.ensures c.if-len-gt256.false parts.0 1 (good, tt))
    (ap not (ne_eqb _ _ (λ q. c.if-arrays-read_header.false (omega (arith, parts.3, count, q)))))
