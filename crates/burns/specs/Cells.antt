-- What burns and runs do to each cell: they keep every fuse, add only fuses that are not stuck, and a run that goes through its order
-- adds all of those. Assumes nothing.
-- The theorems stand in proofs/Cells.antt.
use Prim.Native.Nat.{ℕ}
use Rattle.std.specs.Prelude.{◌≡◌, List, length, get_or}
use Rattle.std.specs.Int.Bits.{bit_or}
use Rattle.laws.specs.Bits.{◌⊆◌}
use Rattle.fuse.specs.Fuse.{free}

-- ---- one cell

-- the fuses set and those not stuck
abbrev pub full : (stuck cell : ℕ) → ℕ
full stuck cell = bit_or cell (free stuck)

-- c has every fuse of s, and beyond them only fuses that are not stuck
pub record Between (stuck s c : ℕ) : Type 0 where
  pub kept : s ⊆ c
  pub most : c ⊆ full stuck s

-- ---- all cells

-- d is what burns have made of c
pub record Grown (marks c d : List ℕ) : Type 0 where
  pub len : length d ≡ length c
  pub each : (j : ℕ) → Between (get_or marks j 0) (get_or c j 0) (get_or d j 0)
