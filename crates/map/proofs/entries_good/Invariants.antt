-- `map::entries_good` meets its contract: the loop's invariant: the entries below `i` are good, and the last of them ends at `end`. Assumes nothing.
use mathlib.Core.Path.{◌≡◌}
use mathlib.Core.Bool.{true}
use Rattle.laws.specs.Below.{all_below}
use Rattle.map.specs.Map.{end_before, place_good}
use Rattle.map.proofs.entries_good.Given as goal

abbrev pub invariant-loop-i : goal.invariant-loop-i
invariant-loop-i l = (l.end ≡ end_before l.image l.i) × (all_below (place_good l.image) l.i ≡ true)
