-- The reply's laws: what it answers and leaves, by whether one is awaited. Assumes nothing.
use Rattle.std.specs.Prelude.{ℕ, ◌≡◌, true, false, not, List, Result, Ok, Err, ⊤}
use Rattle.std.proofs.Common.{sym, ap, subst, ◌∙◌, ⊎_elim, eq-eqb, ne_eqb}
use Rattle.laws.specs.Tests.{decided}
use Rattle.refusal.specs.declared.Refusal.{Refusal}
use Rattle.refusal.specs.declared.Refusal.TheVariants.{NoReplyAwaited}
use Rattle.context.specs.State.{Outcome, outcome}
use Rattle.cache.specs.Cache.{cache_of, awaits, no_reply}
use Rattle.engine.specs.declared.EngineReply.{EngineReply}
use Rattle.reply.specs.Reply.{replied, taking_of}

module _ (reply : EngineReply) (context : List ℕ) where
  pub reply_refused : awaits (cache_of context) ≡ false → taking_of reply context ≡ outcome (Err NoReplyAwaited) context
  unfolding taking_of
  reply_refused o = rw o

  pub reply_taken : awaits (cache_of context) ≡ true → taking_of reply context ≡ outcome (Ok tt) (replied reply context)
  unfolding taking_of
  reply_taken y = rw y

-- what holds of its refusal, where none is awaited, and of what it leaves, where one is, holds of it
pub reply_elim : (reply : EngineReply) (context : List ℕ) (P : Outcome (Result ⊤ Refusal) (List ℕ) → Type 0)
    → (awaits (cache_of context) ≡ false → P (outcome (Err NoReplyAwaited) context))
    → (awaits (cache_of context) ≡ true → P (outcome (Ok tt) (replied reply context))) → P (taking_of reply context)
reply_elim reply context P refused taken =
    ⊎_elim
    (λ (y : awaits (cache_of context) ≡ true). subst P (sym (reply_taken reply context y)) (taken y))
    (λ (o : awaits (cache_of context) ≡ false). subst P (sym (reply_refused reply context o)) (refused o))
    (decided (awaits (cache_of context)))

-- whether one is awaited, at the number that was read
module _ (context : List ℕ) {awaited : ℕ} (e : awaited ≡ (cache_of context).awaited) where
  pub none_read : awaited ≡ no_reply → awaits (cache_of context) ≡ false
  none_read z = ap not (eq-eqb _ _ (sym e ∙ z))

  pub some_read : (awaited ≡ no_reply → ⊥) → awaits (cache_of context) ≡ true
  some_read o = ap not (ne_eqb _ _ (λ z. o (e ∙ z)))
