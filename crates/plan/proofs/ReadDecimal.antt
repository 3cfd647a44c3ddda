-- A text is read to its end exactly when it has the form, and then it says what was read. Assumes nothing.
-- The definitions stand in specs/Laws.antt.
use Rattle.std.specs.Prelude.{ℕ, zero, suc, ◌+◌, ◌-◌, ◌*◌, ◌/◌, ◌%◌, ◌≤◌, ◌<◌, ◌≡◌, true}
use Rattle.std.proofs.Common.{⊎_elim, lt-ltb, le-leb}
use mathlib.Core.List.{List, [], ◌∷◌, foldl, foldl-append}
use native.Mathlib.Omega.{arith}
use Rattle.laws.specs.Tests.{lt_or_le}
use Rattle.text.specs.Text.{digit, decimal}
use Rattle.text.specs.Laws.{decimal_one, decimal_more}
use Rattle.plan.specs.Reading.{is_digit, between, within, step}

-- ---- what has the form is read to its end

-- a number's last digit is one, and has its value
digit_is : (v : ℕ) → (is_digit (digit v) ≡ true) × (digit v - 48 ≡ v % 10)
digit_is v = (rw (le-leb 48 (digit v) (omega arith), le-leb (digit v) 57 (omega arith)), omega arith)

pub read_decimal : (numbers : List ℕ) (most v : ℕ) → v ≤ most → v ≤ 65535 → foldl step (between numbers) (decimal v) ≡ within numbers v
read_decimal numbers zero v h l =
    let d = digit_is v in
    let e : v % 10 ≡ v = omega arith in
    rw (decimal_one v (omega arith), d.0, d.1, e)
read_decimal numbers (suc most) v h l =
    let d = digit_is v in
    ⊎_elim
    (λ (a : v < 10). let e : v % 10 ≡ v = omega arith in rw (decimal_one v a, d.0, d.1, e))
    (λ (a : 10 ≤ v).
    let e : v / 10 * 10 + v % 10 ≡ v = omega arith in
    rw (
      decimal_more v a,
      foldl-append step (between numbers) (decimal (v / 10)) (digit v ∷ []),
      read_decimal numbers most (v / 10) (omega arith) (omega arith),
      d.0,
      d.1,
      e,
      lt-ltb 0 (v / 10) (omega arith),
      le-leb v 65535 l,
    ))
    (lt_or_le v 10)
