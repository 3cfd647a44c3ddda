-- `cache::turn_places` meets its contract: the loop's invariant: the places below `k` are turned. Assumes nothing.
use mathlib.Core.Path.{refl}
use Rattle.cache.specs.Cache.{turned_below}
use Rattle.cache.proofs.Laws.{turn_next}
use Rattle.cache.proofs.turn_places.Goals as goal

pub loop-k-init : goal.loop-k-init
unfolding turned_below
loop-k-init c = refl

pub loop-k-preserved : goal.loop-k-preserved
loop-k-preserved c = turn_next _ _ _ _ c.loop-k.invariant c.turn_place.ensures
