-- Numbers by their digits, over any width: or, and, xor and the complement at a digit, and the order "each digit set in x is set
-- in y". A law of these operations is one of min and max at a digit, which omega proves. Assumes nothing.
-- The definitions stand in specs/Bits.antt.
use Rattle.std.specs.Prelude.{ℕ, zero, suc, ◌+◌, ◌-◌, ◌/◌, ◌%◌, ◌^◌, ◌≤◌, ◌<◌, min, max, ◌≡◌}
use Rattle.std.proofs.Common.{sym, ap, ◌∙◌, subst, arith, mod-eq_of_lt, one-add, shr-shr}
use Rattle.std.proofs.Math.Arith.{half_le}
use Rattle.std.specs.Int.Bits.{bit_and, bit_or, bit_xor, differ, and_step, or_step, xor_step, or_zero_r, or_add_and, xor_add_and}
use Rattle.std.proofs.lemmas.Nat.{or_shr, and_shr, xor_shr, and_comm, and_mask, and_le_r}
use Rattle.laws.specs.Bits.{bit, ◌⊆◌}

-- ---- a number by its digits: what digit i of n is, and two numbers with the same digits are equal

bit_half : (i n : ℕ) → bit i (n / 2) ≡ bit (suc i) n
bit_half i n = ap (λ (x : ℕ). x % 2) (shr-shr n 1 i ∙ ap (λ (k : ℕ). n / 2 ^ k) (one-add i))

pub ext : (a b : ℕ) → ((i : ℕ) → bit i a ≡ bit i b) → a ≡ b
ext a b = go (a + b) a b (omega arith) (omega arith)
  where
    go : (f a b : ℕ) → a ≤ f → b ≤ f → ((i : ℕ) → bit i a ≡ bit i b) → a ≡ b
    go zero a b ha hb h = omega arith
    go (suc f) a b ha hb h =
        let e : a / 2 ≡ b / 2 = go f (a / 2) (b / 2) (half_le ha) (half_le hb) (λ i. bit_half i a ∙ h (suc i) ∙ sym (bit_half i b)) in
        omega (arith, h 0)

-- digit i of the three operations
differ_is : (x y : ℕ) → differ x y ≡ max x y - min x y
differ_is zero y = omega arith
differ_is (suc x) zero = omega arith
differ_is (suc x) (suc y) = omega (arith, differ_is x y)

pub or_odd : (a b : ℕ) → bit_or a b % 2 ≡ max (a % 2) (b % 2)
or_odd a b = rw or_step (omega arith)

pub and_odd : (a b : ℕ) → bit_and a b % 2 ≡ min (a % 2) (b % 2)
and_odd a b = rw and_step (omega arith)

pub xor_odd : (a b : ℕ) → bit_xor a b % 2 ≡ max (a % 2) (b % 2) - min (a % 2) (b % 2)
xor_odd a b = rw (xor_step, differ_is) (omega arith)

pub bit_or_lem : (i a b : ℕ) → bit i (bit_or a b) ≡ max (bit i a) (bit i b)
bit_or_lem i a b = rw or_shr (or_odd _ _)

pub bit_and_lem : (i a b : ℕ) → bit i (bit_and a b) ≡ min (bit i a) (bit i b)
bit_and_lem i a b = rw and_shr (and_odd _ _)

pub bit_xor_lem : (i a b : ℕ) → bit i (bit_xor a b) ≡ max (bit i a) (bit i b) - min (bit i a) (bit i b)
bit_xor_lem i a b = rw xor_shr (xor_odd _ _)

-- ---- the order: every digit set in x is set in y. A record, so that x and y can be implicit

pub digitwise : {x y : ℕ} → ((i : ℕ) → bit i x ≤ bit i y) → x ⊆ y
digitwise h = record { within = ext _ _ (λ i. simp bit_or_lem (omega (arith, h i))) }

pub at_digit : {x y : ℕ} → x ⊆ y → (i : ℕ) → bit i x ≤ bit i y
at_digit {x} {y} p i = omega (arith, simp bit_or_lem at (ap (bit i) p.within))

pub sub_refl : (x : ℕ) → x ⊆ x
sub_refl x = digitwise (λ i. omega arith)

pub sub_trans : {x y z : ℕ} → x ⊆ y → y ⊆ z → x ⊆ z
sub_trans p q = digitwise (λ i. omega (arith, at_digit p i, at_digit q i))

pub sub_antisym : {x y : ℕ} → x ⊆ y → y ⊆ x → x ≡ y
sub_antisym p q = ext _ _ (λ i. omega (arith, at_digit p i, at_digit q i))

-- nothing but 0 lies within 0
pub sub_none : {x : ℕ} → x ⊆ 0 → x ≡ 0
sub_none {x} p = sym (or_zero_r x) ∙ p.within

pub sub_or_l : (x y : ℕ) → x ⊆ bit_or x y
sub_or_l x y = digitwise (λ i. simp bit_or_lem (omega arith))

pub sub_or_r : (x y : ℕ) → y ⊆ bit_or x y
sub_or_r x y = digitwise (λ i. simp bit_or_lem (omega arith))

-- and so x is at most both
pub or_most : (x y : ℕ) → x ≤ bit_or x y
or_most x y = omega (arith, or_add_and x y, and_le_r x y)

pub or_lub : {x y z : ℕ} → x ⊆ z → y ⊆ z → bit_or x y ⊆ z
or_lub p q = digitwise (λ i. simp bit_or_lem (omega (arith, at_digit p i, at_digit q i)))

pub or_mono : {x x' y y' : ℕ} → x ⊆ x' → y ⊆ y' → bit_or x y ⊆ bit_or x' y'
or_mono p q = digitwise (λ i. simp bit_or_lem (omega (arith, at_digit p i, at_digit q i)))

pub and_mono : {x x' y y' : ℕ} → x ⊆ x' → y ⊆ y' → bit_and x y ⊆ bit_and x' y'
and_mono p q = digitwise (λ i. simp bit_and_lem (omega (arith, at_digit p i, at_digit q i)))

pub sub_and_l : (x y : ℕ) → bit_and x y ⊆ x
sub_and_l x y = digitwise (λ i. simp bit_and_lem (omega arith))

pub sub_and_r : (x y : ℕ) → bit_and x y ⊆ y
sub_and_r x y = digitwise (λ i. simp bit_and_lem (omega arith))

-- ---- all ones of a width, and the complement in them

pub sub_full : (k : ℕ) {n : ℕ} → n < 2 ^ k → n ⊆ 2 ^ k - 1
sub_full k {n} h = subst (λ (x : ℕ). x ⊆ 2 ^ k - 1) (and_mask n k ∙ mod-eq_of_lt h) (sub_and_r n (2 ^ k - 1))

-- all ones passes a mask of the width through
pub full_and : (k : ℕ) {n : ℕ} → n < 2 ^ k → bit_and (2 ^ k - 1) n ≡ n
full_and k {n} h = and_comm (2 ^ k - 1) n ∙ and_mask n k ∙ mod-eq_of_lt h

pub not_is : (k : ℕ) {n : ℕ} → n < 2 ^ k → (2 ^ k - 1) - n ≡ bit_xor (2 ^ k - 1) n
not_is k {n} h = omega (arith, xor_add_and (2 ^ k - 1) n, full_and k h)

-- digit by digit: the complement has the ones that n lacks
pub bit_not : (k : ℕ) {n : ℕ} → n < 2 ^ k → (i : ℕ) → bit i ((2 ^ k - 1) - n) ≡ bit i (2 ^ k - 1) - bit i n
bit_not k {n} h i = ap (bit i) (not_is k h) ∙ bit_xor_lem i (2 ^ k - 1) n ∙ omega (arith, at_digit (sub_full k h) i)
