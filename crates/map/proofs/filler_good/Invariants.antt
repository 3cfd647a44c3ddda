-- `map::filler_good` meets its contract: the loop's invariant: `good` tells whether the filler is good below `k`. Assumes nothing.
use mathlib.Core.Path.{◌≡◌}
use Rattle.laws.specs.Below.{all_below}
use Rattle.map.specs.Map.{filler_good}
use Rattle.map.proofs.filler_good.Given as goal

abbrev pub invariant-loop-k : goal.invariant-loop-k
invariant-loop-k l = l.good ≡ all_below (filler_good l.image) l.k
