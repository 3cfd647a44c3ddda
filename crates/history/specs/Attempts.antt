-- Demand 3: every attempt has its form, FERS too, and each leaves all places empty, no reply awaited and the table. Assumes nothing.
-- The theorems stand in proofs/Attempts.antt.
use Rattle.std.specs.Prelude.{ℕ, ◌≡◌, List}
use Rattle.cache.specs.Cache.{cache_of, AtRest}
use Rattle.handles.specs.Handles.{table_of}

-- ---- every attempt

-- each leaves all places empty, no reply awaited, and the table
pub record Rested (before context : List ℕ) : Type 0 where
  pub rest : AtRest (cache_of context)
  pub table : table_of context ≡ table_of before
