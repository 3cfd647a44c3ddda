-- Request P5: "After each order the drive hands us the engine's reply: done, timed out, or failed with a vendor number (u32, not kept)".
-- Assumes nothing.
use Rattle.std.specs.Prelude.{ℕ, Bool, cond, not, List, [], ◌∷◌, eqb, Result, Ok, Err, ⊤}
use Rattle.refusal.specs.Refusals.{first_of}
use Rattle.refusal.specs.declared.Refusal.{Refusal}
use Rattle.refusal.specs.declared.Refusal.TheVariants.{NoReplyAwaited}
use Rattle.context.specs.State.{Outcome, outcome, refusing}
use Rattle.cache.specs.Cache.{cache_of, awaits, empty, held, unsure, clear_reply, load_reply, unload_reply, settled}
use Rattle.engine.specs.declared.EngineReply.{EngineReply}
use Rattle.engine.specs.declared.EngineReply.TheVariants.{Done, TimedOut, Failed}

-- what done makes of a waiting place: of a load, it "is held only after done"; of an unload or a clear, "done empties it"; ours: an awaited
-- number that we never write tells nothing of its order, and the place is unsure. It is said of every waiting place: our calls leave more
-- than one only under a clear (`history` `Waits`)
abbrev pub kind_done : (awaited : ℕ) → ℕ
kind_done awaited =
    cond (eqb awaited load_reply) held
    (cond (eqb awaited unload_reply) empty
    (cond (eqb awaited clear_reply) empty unsure))

-- what a reply makes of it: "any other reply makes it unsure", whatever the order was
abbrev pub kind_after : EngineReply → (awaited : ℕ) → ℕ
kind_after Done awaited = kind_done awaited
kind_after TimedOut awaited = unsure
kind_after (Failed vendor) awaited = unsure

-- the context after a reply that is taken: every waiting place is of that kind, and none is awaited
abbrev pub replied : EngineReply → (context : List ℕ) → List ℕ
replied reply context = settled (kind_after reply (cache_of context).awaited) context

-- 19 "a reply when none is awaited"
abbrev pub taking_tests : (context : List ℕ) → List (Bool × Refusal)
taking_tests context =
    (not (awaits (cache_of context)), NoReplyAwaited)
    ∷ []

-- the engine's reply
unfoldable pub taking_of : EngineReply → (context : List ℕ) → Outcome (Result ⊤ Refusal) (List ℕ)
taking_of reply context = first_of (refusing Err context) (taking_tests context) (outcome (Ok tt) (replied reply context))
