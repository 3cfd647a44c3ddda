-- Replies to a load, an unload and a clear, and where none is awaited, by computation. Assumes nothing.
use Rattle.std.specs.Prelude.{ℕ, ◌≡◌, refl, List, [], ◌∷◌, ◌++◌, map, replicate, Result, Ok, Err, ⊤}
use Rattle.refusal.specs.declared.Refusal.{Refusal}
use Rattle.refusal.specs.declared.Refusal.TheVariants.{NoReplyAwaited}
use Rattle.context.specs.State.{Outcome, outcome}
use Rattle.cache.specs.Cache.{cache_of, is_at, placed, turned_below}
use Rattle.engine.specs.declared.EngineReply.{EngineReply}
use Rattle.engine.specs.declared.EngineReply.TheVariants.{Done, TimedOut, Failed}
use Rattle.reply.specs.Reply.{taking_of}

-- place 0 held, place 1 of this kind, their tags 7 and 8 or none, and the awaited reply
abbrev with : (kind tag awaited : ℕ) → List ℕ
with kind tag awaited = (1 ∷ kind ∷ replicate 14 0) ++ (7 ∷ tag ∷ replicate 14 0) ++ (awaited ∷ [])

-- done, timed out and failed, where place 1 waits for this reply
abbrev each : (awaited : ℕ) → List (Outcome (Result ⊤ Refusal) (List ℕ))
each awaited = map (λ (reply : EngineReply). taking_of reply (with 2 8 awaited)) (Done ∷ TimedOut ∷ Failed 5 ∷ [])

abbrev then : (kind tag : ℕ) → Outcome (Result ⊤ Refusal) (List ℕ)
then kind tag = outcome (Ok tt) (with kind tag 0)

abbrev unsure_now : Outcome (Result ⊤ Refusal) (List ℕ)
unsure_now = then 3 8

load : each 2 ≡ then 1 8 ∷ unsure_now ∷ unsure_now ∷ []
unfolding taking_of placed turned_below cache_of is_at
load = refl

unload : each 3 ≡ then 0 0 ∷ unsure_now ∷ unsure_now ∷ []
unfolding taking_of placed turned_below cache_of is_at
unload = refl

clear : each 1 ≡ then 0 0 ∷ unsure_now ∷ unsure_now ∷ []
unfolding taking_of placed turned_below cache_of is_at
clear = refl

-- a number that we never write
unknown : each 9 ≡ unsure_now ∷ unsure_now ∷ unsure_now ∷ []
unfolding taking_of placed turned_below cache_of is_at
unknown = refl

-- none is awaited, though a place waits
refused : each 0 ≡ map (λ (reply : EngineReply). outcome (Err NoReplyAwaited) (with 2 8 0)) (Done ∷ TimedOut ∷ Failed 5 ∷ [])
unfolding taking_of cache_of
refused = refl
