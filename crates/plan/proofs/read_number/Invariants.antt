-- `plan::read_number` meets its contract: the loop's invariant: the digits so far have this value, and the rest is to be read. Assumes nothing.
use Rattle.std.proofs.Common.{ℕ, List, ◌∷◌, ◌≤◌, ◌≡◌, length}
use mathlib.Core.List.{foldl}
use Rattle.plan.specs.Reading.{between, within, step}
use Rattle.plan.proofs.read_number.Given as goal

abbrev pub invariant-loop-c : goal.invariant-loop-c
invariant-loop-c l =
    (length l.rest ≤ length l.fn.text) × ((ended : List ℕ) → foldl step (between ended) (l.fn.first ∷ l.fn.text) ≡ foldl step (within ended l.value) l.rest)

abbrev pub decreases-loop-c : goal.decreases-loop-c
decreases-loop-c l = length l.rest
