-- How a run ends, by where it is cut, and how many burns it carries out. Assumes nothing.
-- The theorems stand in proofs/Ends.antt.
use Prim.Native.Nat.{ℕ}
use Rattle.std.specs.Prelude.{◌≡◌}
use Rattle.burns.specs.declared.End.TheVariants.{Whole, Stopped, Cut}
use Rattle.burns.specs.Run.{Ran}

-- ---- how many burns a run carries out

-- all of them, or up to the cut, or one
pub record BurnCount (all upto : ℕ) (r : Ran) : Type 0 where
  pub whole : r.end ≡ Whole → r.tally.burns ≡ all
  pub cut : r.end ≡ Cut → r.tally.burns ≡ upto
  pub stopped : r.end ≡ Stopped → r.tally.burns ≡ 1
