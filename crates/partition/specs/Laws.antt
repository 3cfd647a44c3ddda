-- The laws of a partition's pairs and states: first what the proofs cite, then what callers cite in place of the definitions' text.
-- Assumes nothing.
-- The theorems stand in proofs/Laws.antt and proofs/StateIs.antt.
use Rattle.std.specs.Prelude.{ℕ, ◌*◌, ◌<◌, true, false, List}
use Rattle.std.proofs.Math.Path.{◌≡◌}
use Rattle.partition.specs.Partition.{pairs, short_at}

-- ---- the lowest short pair

-- the answer Some k is pair j, which is short, and none before it is
pub record LowestAt (bound : ℕ) (part : List ℕ) (k : ℕ) : Type 0 where
  pub pair : ℕ
  pub cell : k ≡ 2 * pair
  pub within : pair < pairs part
  pub short_there : short_at bound part pair ≡ true
  pub none_before : (i : ℕ) → i < pair → short_at bound part i ≡ false
