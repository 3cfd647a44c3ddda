-- The number of ones among the k low digits, `ones_in k` of the language's library: it computes at 64-bit numerals, and `counted`
-- says that it is the language's own count. Assumes nothing.
use Rattle.std.specs.Prelude.{ℕ, zero, suc, ◌+◌, ◌-◌, ◌*◌, ◌/◌, ◌%◌, ◌^◌, ◌≤◌, ◌<◌, ◌≡◌}
use Rattle.std.proofs.Common.{sym, ap, ap₂, ◌∙◌, arith, pow-suc, zero-add, suc-add, mul_assoc}
use Rattle.std.proofs.Math.Arith.{lt-one}
use Rattle.std.specs.Int.Bits.{bit_or}
use Rattle.std.proofs.lemmas.Nat.{or_shr, or_block}
use Rattle.std.specs.Int.Count.{ones, ones_in, ones_step}
use Rattle.laws.specs.Bits.{◌⊆◌}
use Rattle.laws.proofs.Bits.{or_odd, or_most}

-- the language counts the same
pub counted : (k n : ℕ) → n < 2 ^ k → ones_in k n ≡ ones n
unfolding ones_in ones
counted zero n h = sym (ap ones (lt-one h))
counted (suc k) n h = ap (λ (x : ℕ). n % 2 + x) (counted k (n / 2) (omega (arith, pow-suc 2 k))) ∙ sym (ones_step n)

pub count_le : (k n : ℕ) → ones_in k n ≤ k
unfolding ones_in
count_le zero n = omega arith
count_le (suc k) n = omega (arith, count_le k (n / 2))

-- 0 alone has none
pub count_zero : (k n : ℕ) → n < 2 ^ k → ones_in k n ≡ 0 → n ≡ 0
unfolding ones_in
count_zero zero n h e = lt-one h
count_zero (suc k) n h e = omega (arith, count_zero k (n / 2) (omega (arith, pow-suc 2 k)) (omega arith))

-- more ones never count less
count_or : (k x y : ℕ) → ones_in k x ≤ ones_in k (bit_or x y)
unfolding ones_in
count_or zero x y = omega arith
count_or (suc k) x y = simp (or_odd, or_shr x y 1) (omega (arith, count_or k (x / 2) (y / 2)))

pub count_mono : (k : ℕ) {x y : ℕ} → x ⊆ y → ones_in k x ≤ ones_in k y
count_mono k {x} {y} p = rw p.within at (count_or k x y)

-- the ones of both are those of x and those that y adds to it
pub count_added : (k x y : ℕ) → ones_in k (bit_or x y) ≡ ones_in k x + ones_in k (bit_or x y - x)
unfolding ones_in
count_added zero x y = omega arith
count_added (suc k) x y =
    let half : bit_or x y / 2 ≡ bit_or (x / 2) (y / 2) = or_shr x y 1 in
    let rest : (bit_or x y - x) / 2 ≡ bit_or (x / 2) (y / 2) - x / 2 = omega (arith, half, or_odd x y, or_most (x / 2) (y / 2)) in
    let low : (bit_or x y - x) % 2 ≡ bit_or x y % 2 - x % 2 = omega (arith, half, or_odd x y, or_most (x / 2) (y / 2)) in
    rw (half, rest, low) (omega (arith, or_odd x y, count_added k (x / 2) (y / 2)))

-- two numbers as one number, lo of k digits below hi: the ones of the whole are those of the halves
pub count_cat : (k m lo hi : ℕ) → lo < 2 ^ k → ones_in (k + m) (hi * 2 ^ k + lo) ≡ ones_in k lo + ones_in m hi
unfolding ones_in
count_cat zero m lo hi h = let e : hi * 2 ^ 0 + lo ≡ hi = omega arith in rw (e, zero-add m, zero-add (ones_in m hi))
count_cat (suc k) m lo hi h =
    let high : hi * 2 ^ suc k ≡ 2 * (hi * 2 ^ k) = rw (pow-suc 2 k) (omega (arith, mul_assoc hi (2 ^ k) 2)) in
    let low : (hi * 2 ^ suc k + lo) % 2 ≡ lo % 2 = omega (arith, high) in
    let rest : (hi * 2 ^ suc k + lo) / 2 ≡ hi * 2 ^ k + lo / 2 = omega (arith, high) in
    rw (suc-add k m, low, rest) (omega (arith, count_cat k m (lo / 2) hi (omega (arith, pow-suc 2 k))))

-- two numbers of k digits as one number: the order of the halves is the order of the whole
pub cat_sub : (k : ℕ) {lo hi lo' hi' : ℕ} → lo < 2 ^ k → lo' < 2 ^ k → lo ⊆ lo' → hi ⊆ hi' → hi * 2 ^ k + lo ⊆ hi' * 2 ^ k + lo'
cat_sub k {lo} {hi} {lo'} {hi'} hl hl' p q =
    record { within = or_block k hi hi' lo lo' hl hl' ∙ ap₂ (λ (x y : ℕ). x * 2 ^ k + y) q.within p.within }
