-- What any number of runs on one partition leaves, wherever they were cut: cells that each run keeps safe, and from which each run
-- goes as it would have gone at the start. Assumes nothing.
-- The theorems stand in proofs/Safe.antt.
use Prim.Native.Nat.{ℕ, ◌-◌, ◌<◌}
use Rattle.std.specs.Prelude.{true, ◌≡◌, ◌⊎◌, length, get_or}
use mathlib.Core.List.{List}
use Rattle.burns.specs.Run.{goes_on, Ran}
use Rattle.burns.specs.Cells.{Between}

-- ---- past the first burn a run does not hang on the cells

-- two runs end alike, after as many burns
pub record Alike (r q : Ran) : Type 0 where
  pub end : r.end ≡ q.end
  pub burns : r.tally.burns ≡ q.tally.burns

-- ---- the invariant

-- nothing but the indicator has changed
abbrev pub Untouched : (s c : List ℕ) → Type 0
Untouched s c = (j : ℕ) → j < length s - 2 → get_or c j 0 ≡ get_or s j 0

-- the cells c, where runs began at s
pub record Safe (marks : List ℕ) (s c : List ℕ) : Type 0 where
  pub len : length c ≡ length s
  pub between : (j : ℕ) → Between (get_or marks j 0) (get_or s j 0) (get_or c j 0)
  pub gate : (goes_on c ≡ true) ⊎ Untouched s c
