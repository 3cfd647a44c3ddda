-- The order of burns, word by word, and a run, burn by burn: what the loop of `burns::run` cites. Assumes nothing.
-- The theorems stand in proofs/Turns.antt.
use Prim.Native.Nat.{ℕ, ◌-◌, ◌*◌, ◌≤◌}
use Rattle.std.specs.Prelude.{Bool, ◌≡◌, List, length, drop}
use Rattle.burns.specs.Run.{order, Tally, burns_of, run}

-- ---- the loop

-- before the next burn: the whole run is what is left of it, from this tally on
pub record Running (marks : List ℕ) (software : Bool) (k mask : ℕ) (cells : List ℕ) (t : Tally) : Type 0 where
  pub within : t.burns ≤ length (order software (length cells))
  pub uncut : t.burns ≤ k
  pub len : length t.cells ≡ length cells
  pub new_most : t.new ≤ 64 * t.burns
  pub same : run marks software k mask cells ≡ burns_of marks mask (k - t.burns) (drop t.burns (order software (length cells))) t
