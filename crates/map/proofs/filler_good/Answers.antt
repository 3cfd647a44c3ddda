-- `map::filler_good` meets its contract: a byte more is good if it is zero. Assumes nothing.
use mathlib.Core.Path.{refl}
use Rattle.laws.specs.Below.{all_below}
use Rattle.laws.proofs.Below.{all_next}
use Rattle.map.specs.Map.{filler_good}
use Rattle.map.proofs.Laws.{filler_is}
use Rattle.map.proofs.filler_good.Goals as goal

pub loop-k-init : goal.loop-k-init
unfolding all_below filler_good
loop-k-init c = refl

pub loop-k-preserved : goal.loop-k-preserved
loop-k-preserved c = rw (all_next, ← c.loop-k.invariant, filler_is _ _ c.loop-k.auto.k)
