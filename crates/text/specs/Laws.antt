-- What a caller of `put_decimal` knows of the number's text: its digits as the code lends them, its length, and that it reads back.
-- Assumes nothing.
use Rattle.std.specs.Prelude.{ℕ, zero, suc, ◌+◌, ◌-◌, ◌*◌, ◌/◌, ◌^◌, ◌≤◌, ◌<◌, ◌≡◌, refl, true, false, List, [], ◌∷◌, ◌++◌, length, take, drop, ltb}
use Rattle.std.proofs.Common.{ap, ◌∙◌, ⊎_elim, arith, not-suc-le-zero, pow-suc, length-append, length-drop, take_all, ltb-true, ltb-false, lt-ltb, le-ltb}
use Rattle.std.proofs.Math.Nat.{div-div-eq-div-mul}
use Rattle.laws.specs.Tests.{decided, lt_or_le}
use Rattle.text.specs.Text.{digit, digits_of, decimal, four, zeros}
use Rattle.laws.specs.Put.{Put, retext}

-- the next place after a piece of at most k bytes
pub next_most : {at next : ℕ} {t before after : List ℕ} (k : ℕ) → length t ≤ k → Put at t before after next → next ≤ at + k
next_most k h p = omega arith

-- ---- a number's text by its last digit: more digits than a number has change nothing

enough : (most most' v : ℕ) → v ≤ most → v ≤ most' → digits_of (suc most) v ≡ digits_of (suc most') v
enough zero most' v h h' = rw (lt-ltb v 10 (omega arith))
enough (suc most) zero v h h' = rw (lt-ltb v 10 (omega arith))
enough (suc most) (suc most') v h h' =
    ⊎_elim
    (λ (a : ltb v 10 ≡ true). rw a)
    (λ (a : ltb v 10 ≡ false). let n = ltb-false v 10 a in rw (a, enough most most' (v / 10) (omega arith) (omega arith)))
    (decided (ltb v 10))

pub decimal_one : (v : ℕ) → v < 10 → decimal v ≡ digit v ∷ []
unfolding decimal
decimal_one v l = rw (lt-ltb v 10 l)

pub decimal_more : (v : ℕ) → 10 ≤ v → decimal v ≡ decimal (v / 10) ++ (digit v ∷ [])
unfolding decimal
decimal_more v l =
    let n : v ≡ suc (v - 1) = omega arith in
    let rest : digits_of v (v / 10) ≡ digits_of (suc (v / 10)) (v / 10) =
    ap (λ (k : ℕ). digits_of k (v / 10)) n ∙ enough (v - 1) (v / 10) (v / 10) (omega arith) (omega arith) in
    rw (le-ltb v 10 l, rest)

-- a number below a power of ten has no more digits than that has zeros
pub decimal_length : (d v : ℕ) → v < 10 ^ suc d → length (decimal v) ≤ suc d
decimal_length zero v l = rw (decimal_one v l) (omega arith)
decimal_length (suc d) v l =
    ⊎_elim
    (λ (a : v < 10). rw (decimal_one v a) (omega arith))
    (λ (a : 10 ≤ v).
    let front = decimal_length d (v / 10) (let m : v < 10 ^ suc d * 10 = rw (← pow-suc 10 (suc d)) l in omega arith) in
    rw (decimal_more v a) (simp length-append (omega arith)))
    (lt_or_le v 10)

-- ---- below 10,000 it is four digits without the leading zeros

four_is : (v : ℕ) → v < 10000 → drop (zeros v) (four v) ≡ decimal v
four_is v l =
    let hundreds : v / 10 / 10 ≡ v / 100 = div-div-eq-div-mul v 10 10 in
    let thousands : v / 100 / 10 ≡ v / 1000 = div-div-eq-div-mul v 100 10 in
    ⊎_elim
    (λ (a : ltb v 10 ≡ true). rw (a, decimal_one v (ltb-true v 10 a)))
    (λ (a : ltb v 10 ≡ false).
    let ten = ltb-false v 10 a in
    ⊎_elim
    (λ (b : ltb v 100 ≡ true). let n = ltb-true v 100 b in rw (a, b, decimal_more v ten, decimal_one (v / 10) (omega arith)))
    (λ (b : ltb v 100 ≡ false).
    let hundred = ltb-false v 100 b in
    let two = decimal_more (v / 10) (omega arith) in
    ⊎_elim
    (λ (d : ltb v 1000 ≡ true). let n = ltb-true v 1000 d in rw (a, b, d, decimal_more v ten, two, hundreds, decimal_one (v / 100) (omega arith)))
    (λ (d : ltb v 1000 ≡ false).
    let thousand = ltb-false v 1000 d in
    rw (a, b, d, decimal_more v ten, two, hundreds, decimal_more (v / 100) (omega arith), thousands, decimal_one (v / 1000) (omega arith)))
    (decided (ltb v 1000)))
    (decided (ltb v 100)))
    (decided (ltb v 10))

-- the digits from the first that is no leading zero on, as the code lends them
pub put_digits : {at next : ℕ} {before after : List ℕ} (v z a b c d : ℕ) → v < 10000 → z ≡ zeros v
    → a ≡ digit (v / 1000) → b ≡ digit (v / 100) → c ≡ digit (v / 10) → d ≡ digit v
    → Put at (take (4 - z) (drop z (a ∷ b ∷ c ∷ d ∷ []))) before after next
    → Put at (decimal v) before after next × (next ≤ at + 4)
put_digits {at} {next} {before} {after} v z a b c d l ez ea eb ec ed p =
    let all : take (4 - z) (drop z (a ∷ b ∷ c ∷ d ∷ [])) ≡ drop z (a ∷ b ∷ c ∷ d ∷ []) =
    take_all (4 - z) (drop z (a ∷ b ∷ c ∷ d ∷ [])) (simp length-drop (omega arith)) in
    let is : drop z (a ∷ b ∷ c ∷ d ∷ []) ≡ drop (zeros v) (four v) = rw (ez, ea, eb, ec, ed) in
    let q = retext (all ∙ is) p in
    (retext (four_is v l) q, next_most 4 (simp length-drop (omega arith)) q)

-- ---- the text is the number's: reading its digits gives it back

-- the number that digits add behind a value
abbrev pub value_from : (value : ℕ) (digits : List ℕ) → ℕ
value_from value [] = value
value_from value (d ∷ ds) = value_from (value * 10 + (d - 48)) ds

-- one digit more
value_more : (value d : ℕ) (digits : List ℕ) → value_from value (digits ++ (d ∷ [])) ≡ value_from value digits * 10 + (d - 48)
value_more value d [] = refl
value_more value d (e ∷ digits) = value_more (value * 10 + (e - 48)) d digits

reads : (most v : ℕ) → v < most → value_from 0 (digits_of most v) ≡ v
reads zero v l = absurd (not-suc-le-zero l)
reads (suc most) v l =
    ⊎_elim
    (λ (a : ltb v 10 ≡ true). let n = ltb-true v 10 a in rw a (omega arith))
    (λ (a : ltb v 10 ≡ false).
    let n = ltb-false v 10 a in
    rw (a, value_more 0 (digit v) (digits_of most (v / 10)), reads most (v / 10) (omega arith)) (omega arith))
    (decided (ltb v 10))

pub decimal_reads : (v : ℕ) → value_from 0 (decimal v) ≡ v
unfolding decimal
decimal_reads v = reads (suc v) v (omega arith)
