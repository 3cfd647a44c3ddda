-- Demand 1: "a refusal changes nothing", of every entry point and every number. Document 01 had one exception, 15, which left its indicator
-- burned; since request P4 it has nothing to leave, and `Fifteen` says when it is given. Assumes nothing.
-- The theorems stand in proofs/Refused.antt.
use Rattle.std.specs.Prelude.{ℕ, ◌≤◌, ◌≡◌, List}
use Rattle.context.specs.State.{State}
use Rattle.history.specs.Calls.{Call}
use Rattle.history.specs.Calls.{told, refusal, after}

-- of a call that is refused: the state stays
abbrev pub Unchanged : (image marks : List ℕ) → Call → State → Type 0
Unchanged image marks call s = 1 ≤ refusal (told image marks call s) → after image marks call s ≡ s
