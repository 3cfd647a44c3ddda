-- "after each of them": every front part of a history is a history, so that demand 3 holds after each call of it, and each of its calls
-- was an attempt, or a restart, where it was made. Assumes nothing.
use Rattle.std.specs.Prelude.{ℕ, ◌≡◌, ◌⊎◌, List, [], ◌∷◌, ◌++◌}
use Rattle.context.specs.State.{State}
use Rattle.cache.specs.Cache.{cache_of, AtRest}
use Rattle.history.specs.Calls.{Call, Restart, after, after_all}
use Rattle.history.specs.Demand3.{Attempt, History, Claim}
use Rattle.history.proofs.Demand3Proof.{demand_3}

module _ (image marks : List ℕ) (i : ℕ) where
  pub front : (calls rest : List Call) (s : State) → History image marks i (calls ++ rest) s → History image marks i calls s
  front [] rest s h = tt
  front (call ∷ calls) rest s h = (h.0, front calls rest (after image marks call s) h.1)

  -- the call that follows a front part, from the state that the front part left
  pub next : (calls : List Call) (call : Call) (rest : List Call) (s : State) → History image marks i (calls ++ (call ∷ rest)) s
      → Attempt image marks i call (after_all image marks calls s) ⊎ (call ≡ Restart)
  next [] call rest s h = h.0
  next (first ∷ calls) call rest s h = next calls call rest (after image marks first s) h.1

  pub after_each : (start : State) → AtRest (cache_of start.context) → (calls rest : List Call) → History image marks i (calls ++ rest) start
      → Claim image marks i start calls (after_all image marks calls start)
  after_each start rested calls rest h = demand_3 image marks i start rested calls (front calls rest start h)
