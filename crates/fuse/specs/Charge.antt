-- The laws of the fuses that burns newly set (request P8): a burn adds what it reports to the set fuses of the whole array, whatever numbers
-- stand in cells and marks; of a cell that is one these are the fuses of v that are not stuck and were not set. Then what the code counts.
-- Assumes nothing.
-- The theorems stand in proofs/Charge.antt.
use Prim.Native.Nat.{ℕ, ◌+◌, ◌-◌, ◌/◌, ◌%◌, ◌^◌, ◌≤◌, ◌<◌}
use Rattle.std.specs.Prelude.{◌≡◌, true, List, set}
use Rattle.std.specs.Int.Count.{ones}
use Rattle.fuse.specs.Fuse.{held_at, burn_word, new_fuses}

-- ---- a burn as the code makes it: the ones of what it adds to its word are counted

-- `after`, stored in its two cells, is what the burn of v leaves, and the ones of what it adds are the fuses newly set
pub record PairBurned (marks : List ℕ) (k v : ℕ) (cells : List ℕ) (after : ℕ) : Type 0 where
  pub stored : set (set cells k (after % 2 ^ 32)) (k + 1) (after / 2 ^ 32) ≡ burn_word marks k true v cells
  pub high : after / 2 ^ 32 < 2 ^ 32
  pub grows : held_at cells k ≤ after
  pub new : ones (after - held_at cells k) ≡ new_fuses marks k true v cells
