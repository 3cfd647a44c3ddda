-- Numbers by their digits, over any width: or, and, xor and the complement at a digit, and the order "each digit set in x is set
-- in y". A law of these operations is one of min and max at a digit, which omega proves. Assumes nothing.
-- The theorems stand in proofs/Bits.antt.
use Rattle.std.specs.Prelude.{ℕ, ◌/◌, ◌%◌, ◌^◌, ◌≡◌}
use Rattle.std.specs.Int.Bits.{bit_or}

-- ---- a number by its digits: what digit i of n is, and two numbers with the same digits are equal

-- digit i of n
abbrev pub bit : ℕ → ℕ → ℕ
bit i n = n / 2 ^ i % 2

-- ---- the order: every digit set in x is set in y. A record, so that x and y can be implicit

infix 45 ◌⊆◌
pub record ◌⊆◌ (x y : ℕ) : Type 0 where
  pub within : bit_or x y ≡ y
