-- `codec::put_numbers` meets its contract: the loop's invariant: the numbers so far are written. Assumes nothing.
use Rattle.std.proofs.Common.{take, min}
use Rattle.laws.specs.Put.{Put}
use Rattle.codec.specs.Fields.{written}
use Rattle.codec.proofs.put_numbers.Given as goal

abbrev pub invariant-loop-k : goal.invariant-loop-k
invariant-loop-k l = Put l.at (written (take (min l.k l.count) l.number-items)) l.initial.out l.out l.end
