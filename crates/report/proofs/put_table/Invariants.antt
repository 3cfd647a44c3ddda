-- `report::put_table` meets its contract: the loop's invariant: the lines of the partitions below `i` stand behind the header. Assumes nothing.
use Prim.Native.Nat.{◌+◌, ◌*◌, ◌≤◌}
use Rattle.laws.specs.Below.{join_below}
use Rattle.laws.specs.Put.{Put}
use Rattle.report.specs.Status.{line_at}
use Rattle.report.proofs.put_table.Given as goal

abbrev pub invariant-loop-i : goal.invariant-loop-i
invariant-loop-i l = (l.at ≤ l.initial.at + 26 * l.i) × Put l.initial.at (join_below (line_at l.drive.image.now l.drive.cells.now) l.i) l.initial.out l.out l.at
