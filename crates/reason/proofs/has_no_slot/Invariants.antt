-- `reason::has_no_slot` meets its contract: the loop's invariant: the partitions below `i` are no slots. Assumes nothing.
use mathlib.Core.Path.{◌≡◌}
use mathlib.Core.Bool.{true}
use Rattle.laws.specs.Below.{all_below}
use Rattle.reason.specs.Reason.{not_slot}
use Rattle.reason.proofs.has_no_slot.Given as goal

abbrev pub invariant-loop-i : goal.invariant-loop-i
invariant-loop-i l = all_below (not_slot l.image) l.i ≡ true
