-- `partition::short_pairs` meets its contract: the loop's invariant: `short` pairs below `j` are short. Assumes nothing.
use mathlib.Core.Path.{◌≡◌}
use Rattle.laws.specs.Below.{count_below}
use Rattle.partition.specs.Partition.{short_at}
use Rattle.partition.proofs.short_pairs.Given as goal

abbrev pub invariant-loop-j : goal.invariant-loop-j
invariant-loop-j l = l.short ≡ count_below (short_at l.bound l.part) l.j
