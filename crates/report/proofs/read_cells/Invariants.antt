-- `report::read_cells` meets its contract: the loop's invariant: the front of `cells` holds the first `k` numbers, the rest is as it was. Assumes nothing.
use mathlib.Core.Path.{◌≡◌}
use mathlib.Core.List.{◌++◌}
use lib.ListN.{drop}
use Rattle.laws.specs.Below.{join_below}
use Rattle.report.specs.Status.{number_at}
use Rattle.report.proofs.read_cells.Given as goal

abbrev pub invariant-loop-k : goal.invariant-loop-k
invariant-loop-k l = l.cells ≡ join_below (number_at l.arrays 0) l.k ++ drop l.k l.initial.cells
