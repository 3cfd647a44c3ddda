-- `cache::turn_places` meets its contract: the loop's invariant: the places below `k` are turned. Assumes nothing.
use mathlib.Core.Path.{◌≡◌}
use Rattle.cache.specs.Cache.{turned_below}
use Rattle.cache.proofs.turn_places.Given as goal

abbrev pub invariant-loop-k : goal.invariant-loop-k
invariant-loop-k l = l.context ≡ turned_below l.sought l.kind l.k l.initial.context
