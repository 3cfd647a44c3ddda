-- The laws of a partition's pairs and states: first what the proofs cite, then what callers cite in place of the definitions' text.
-- Assumes nothing.
-- The definitions stand in specs/Laws.antt.
use Rattle.std.specs.Prelude.{ℕ, Bool, true, List}
use Rattle.std.proofs.Math.Path.{◌≡◌}
use borrow.Author.Tests.{eq-eqb}
use Rattle.partition.specs.Partition.{short_besides, marked}
use Rattle.partition.specs.Partition.{state_of}
use Rattle.partition.specs.declared.State.TheVariants.{Erased}

-- ---- the four states

module _ (zeroizable : Bool) (bound : ℕ) (part : List ℕ) where
  pub erased_is : marked zeroizable part ≡ true → short_besides bound part ≡ 0 → state_of zeroizable bound part ≡ Erased
  unfolding state_of
  erased_is m s = simp (m, eq-eqb _ _ s)
