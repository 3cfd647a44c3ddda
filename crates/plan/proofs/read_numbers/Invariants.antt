-- `plan::read_numbers` meets its contract: the loop's invariant: so many numbers have ended and are kept, and the rest is to be read. Assumes nothing.
use Rattle.std.proofs.Common.{◌+◌, ◌≤◌, ◌≡◌, length}
use Rattle.plan.specs.Steps.{Stands}
use Rattle.plan.proofs.read_numbers.Given as goal

abbrev pub invariant-loop-first : goal.invariant-loop-first
invariant-loop-first l = (l.count + length l.rest ≤ length l.text) × (length l.numbers ≡ 66) × Stands l.text l.count l.rest l.numbers

abbrev pub decreases-loop-first : goal.decreases-loop-first
decreases-loop-first l = length l.rest
