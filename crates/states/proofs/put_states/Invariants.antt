-- `states::put_states` meets its contract: the loop's invariant: the front of each array lists the partitions below `i`, the rest is as it was. Assumes nothing.
use mathlib.Core.Path.{◌≡◌}
use mathlib.Core.List.{◌++◌}
use lib.ListN.{drop}
use Rattle.laws.specs.Below.{join_below}
use Rattle.states.specs.States.{state_in, short_in}
use Rattle.states.proofs.put_states.Given as goal

abbrev pub invariant-loop-i : goal.invariant-loop-i
invariant-loop-i l =
    (l.states ≡ join_below (state_in l.drive.image.now l.drive.cells.now) l.i ++ drop l.i l.initial.states)
    × (l.shorts ≡ join_below (short_in l.drive.image.now l.drive.cells.now) l.i ++ drop l.i l.initial.shorts)
