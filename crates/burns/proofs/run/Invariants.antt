-- `burns::run` meets its contract: the indicator's burn, then each turn a word of the data, and the last burn; what is left of the run is the
-- loop's invariant. Assumes nothing.
use Prim.Native.Nat.{ℕ}
use mathlib.Core.List.{List}
use Rattle.burns.specs.Run.{tally_of}
use Rattle.burns.specs.Turns.{Running}
use Rattle.burns.proofs.run.Given as goal

-- whatever run stood before the loop, with the indicator burned, stands still
abbrev pub invariant-loop-j : goal.invariant-loop-j
invariant-loop-j l = (s : List ℕ) → Running l.marks l.software l.k l.mask s (tally_of l.initial.cells 1 l.initial.new) → Running l.marks l.software l.k l.mask s (tally_of l.cells l.j l.new)
