-- Request P5: a reply that is taken keeps what `Standing` says, and done to a clear empties every place. Assumes nothing.
use Rattle.std.specs.Prelude.{ℕ, ◌<◌, ◌≡◌, refl, true, false, not, List, [], ◌∷◌, eqb}
use Rattle.std.proofs.Common.{sym, ap, ◌∙◌, ⊎_elim, arith, eqb-true, eq-eqb, ne_eqb}
use Rattle.std.proofs.lemmas.Bool.{false≢true}
use Rattle.laws.specs.Tests.{decided, cond_keeps, not_yes}
use Rattle.cache.specs.Cache.{cache_of, places, empty, held, waiting, unsure, no_reply, clear_reply, load_reply, unload_reply, kind_in, tag_in, is_at}
use Rattle.cache.specs.Cache.{has_place, awaits, kept_tag, AtRest}
use Rattle.cache.specs.declared.Sought.TheVariants.{Occupied, Waiting}
use Rattle.cache.proofs.Laws.{has_tells}
use Rattle.cache.specs.After.{Long, Is}
use Rattle.cache.proofs.After.{is_occupied, not_occupied, is_waiting, not_waiting, turned_sought, turned_other, turned_awaited, turned_long}
use Rattle.engine.specs.declared.Order.{Order}
use Rattle.engine.specs.declared.Order.TheVariants.{Nothing, Clear, Load, Unload}
use Rattle.engine.specs.declared.EngineReply.{EngineReply}
use Rattle.engine.specs.declared.EngineReply.TheVariants.{Done, TimedOut, Failed}
use Rattle.reply.specs.Reply.{kind_after, replied}
use Rattle.history.specs.Orders.{Open, Answered, Given, given, closed, is_done, open_in, last_load_done}
use Rattle.history.proofs.Standing.{closed_same, closed_none, past_open, apart_kept}
use Rattle.history.specs.Standing.{reply_to, Waits, NoneWaits, Standing, idle, awaited, Apart, Sound}

-- no reply makes a place wait; only done to a load makes it held
kind_waits : (reply : EngineReply) (answered : ℕ) → kind_after reply answered ≡ waiting → ⊥
kind_waits Done answered = cond_keeps (λ (k : ℕ). k ≡ waiting → ⊥) (eqb answered load_reply) held _ (λ _ e. omega arith)
    (λ _. cond_keeps (λ (k : ℕ). k ≡ waiting → ⊥) (eqb answered unload_reply) empty _ (λ _ e. omega arith)
    (λ _. cond_keeps (λ (k : ℕ). k ≡ waiting → ⊥) (eqb answered clear_reply) empty unsure (λ _ e. omega arith) (λ _ e. omega arith)))
kind_waits TimedOut answered = λ e. omega arith
kind_waits (Failed vendor) answered = λ e. omega arith

held_done : (reply : EngineReply) (answered : ℕ) → kind_after reply answered ≡ held → (is_done (Answered reply) ≡ true) × (answered ≡ load_reply)
held_done Done answered =
    cond_keeps (λ (k : ℕ). k ≡ held → (true ≡ true) × (answered ≡ load_reply)) (eqb answered load_reply) held _ (λ y _. (refl, eqb-true _ _ y))
    (λ _. cond_keeps (λ (k : ℕ). k ≡ held → (true ≡ true) × (answered ≡ load_reply)) (eqb answered unload_reply) empty _ (λ _ e. absurd (omega arith))
    (λ _. cond_keeps (λ (k : ℕ). k ≡ held → (true ≡ true) × (answered ≡ load_reply)) (eqb answered clear_reply) empty unsure
    (λ _ e. absurd (omega arith)) (λ _ e. absurd (omega arith))))
held_done TimedOut answered = λ e. absurd (omega arith)
held_done (Failed vendor) answered = λ e. absurd (omega arith)

module _ (reply : EngineReply) (context : List ℕ) (long : Long context) where
  abbrev kind_now : ℕ
  kind_now = kind_after reply (cache_of context).awaited

  abbrev settled_now : List ℕ
  settled_now = replied reply context

  -- a place that waited is of the reply's kind, any other as it was
  waited : (k : ℕ) → k < places → is_at (cache_of context) Waiting k ≡ true → Is settled_now k kind_now (kept_tag kind_now (tag_in (cache_of context) k))
  waited = turned_sought Waiting kind_now no_reply context long

  others : (k : ℕ) → k < places → is_at (cache_of context) Waiting k ≡ false → Is settled_now k (kind_in (cache_of context) k) (tag_in (cache_of context) k)
  others = turned_other Waiting kind_now no_reply context long

  settled_apart : Apart context → Apart settled_now
  settled_apart = apart_kept context settled_now
      (λ k m o. ⊎_elim
      (λ (y : is_at (cache_of context) Waiting k ≡ true).
      let i = waited k m y in
      ((λ z. omega (arith, sym (is_waiting (cache_of context) k y) ∙ z)), i.tag_is ∙ rw (ne_eqb kind_now empty (λ z. o (i.kind_is_lem ∙ z)))))
      (λ (n : is_at (cache_of context) Waiting k ≡ false). let i = others k m n in ((λ z. o (i.kind_is_lem ∙ z)), i.tag_is))
      (decided (is_at (cache_of context) Waiting k)))

  none_waits : NoneWaits settled_now
  none_waits k m e =
      ⊎_elim
      (λ (y : is_at (cache_of context) Waiting k ≡ true). kind_waits reply (cache_of context).awaited (sym (waited k m y).kind_is_lem ∙ e))
      (λ (n : is_at (cache_of context) Waiting k ≡ false). not_waiting (cache_of context) k n (sym (others k m n).kind_is_lem ∙ e))
      (decided (is_at (cache_of context) Waiting k))

  pub none_awaited : (cache_of settled_now).awaited ≡ no_reply
  none_awaited = turned_awaited Waiting kind_now no_reply context long

-- a held place was held before, or its load is done
held_now : (reply : EngineReply) (context : List ℕ) (order : Order) (before : List Given) → Sound (given order Open ∷ before) context
    → (cache_of context).awaited ≡ reply_to order → Waits order context → open_in before ≡ 0 → (k : ℕ) → k < places → kind_in (cache_of (replied reply context)) k ≡ held
    → last_load_done (closed (Answered reply) (given order Open ∷ before)) k ≡ true
held_now reply context order before sound e waits z k m h =
    ⊎_elim
    (λ (y : is_at (cache_of context) Waiting k ≡ true).
    let done = held_done reply (cache_of context).awaited (sym (waited reply context sound.long k m y).kind_is_lem ∙ h) in
    by order waits (sym e ∙ done.1) (is_waiting (cache_of context) k y) done.0)
    (λ (n : is_at (cache_of context) Waiting k ≡ false).
    let was = past_open order before k (sound.held_by k m (sym (others reply context sound.long k m n).kind_is_lem ∙ h)) in
    rw (was.0, closed_same (Answered reply) before z) was.1)
    (decided (is_at (cache_of context) Waiting k))
  where
    by : (order : Order) → Waits order context → reply_to order ≡ load_reply → kind_in (cache_of context) k ≡ waiting → is_done (Answered reply) ≡ true
        → last_load_done (closed (Answered reply) (given order Open ∷ before)) k ≡ true
    by Nothing w q y d = absurd w
    by (Clear timeout) w q y d = absurd (omega arith)
    by (Load place timeout) w q y d = rw (eq-eqb place k (sym (w k m y))) d
    by (Unload place timeout) w q y d = absurd (omega arith)

pub sound_reply : (reply : EngineReply) (orders : List Given) (context : List ℕ) → Sound orders context → awaits (cache_of context) ≡ true
    → Sound (closed (Answered reply) orders) (replied reply context)
sound_reply reply orders context sound some = record {
  long = turned_long Waiting (kind_after reply (cache_of context).awaited) no_reply context sound.long;
  apart = settled_apart reply context sound.long sound.apart;
  held_by = by sound.standing sound;
  standing = idle (none_awaited reply context sound.long) (none_waits reply context sound.long) (closed_none (Answered reply) refl orders);
}
  where
    by : {orders : List Given} → Standing context orders → Sound orders context → (k : ℕ) → k < places → kind_in (cache_of (replied reply context)) k ≡ held
        → last_load_done (closed (Answered reply) orders) k ≡ true
    by (idle e none z) sound = absurd (false≢true (sym (ap not (eq-eqb _ _ e)) ∙ some))
    by (awaited order before e waits z) sound = held_now reply context order before sound e waits z

-- ---- done to a clear

-- every place that waits is emptied, and every other is empty
emptied_place : (context : List ℕ) → Long context → (cache_of context).awaited ≡ clear_reply → (timeout : ℕ) → Waits (Clear timeout) context → (k : ℕ) → k < places
    → kind_in (cache_of (replied Done context)) k ≡ empty
emptied_place context long e timeout waits k m =
    ⊎_elim
    (λ (y : is_at (cache_of context) Waiting k ≡ true). (waited Done context long k m y).kind_is_lem ∙ ap (kind_after Done) e)
    (λ (n : is_at (cache_of context) Waiting k ≡ false).
    (others Done context long k m n).kind_is_lem
    ∙ ⊎_elim
    (λ (y : is_at (cache_of context) Occupied k ≡ true). absurd (not_waiting (cache_of context) k n (waits k m (is_occupied (cache_of context) k y))))
    (λ (o : is_at (cache_of context) Occupied k ≡ false). not_occupied (cache_of context) k o)
    (decided (is_at (cache_of context) Occupied k)))
    (decided (is_at (cache_of context) Waiting k))

clear_rests : (context : List ℕ) → Long context → (cache_of context).awaited ≡ clear_reply → (timeout : ℕ) → Waits (Clear timeout) context
    → AtRest (cache_of (replied Done context))
clear_rests context long e timeout waits = record {
  all_empty = not_yes (has_place (cache_of (replied Done context)) Occupied) (λ y.
      let t = has_tells (cache_of (replied Done context)) Occupied y in
      is_occupied (cache_of (replied Done context)) _ t.1 (emptied_place context long e timeout waits _ t.0));
  none_awaited = ap not (eq-eqb _ _ (none_awaited Done context long));
}

-- the reply that the last order awaits
abbrev last_reply : List Given → ℕ
last_reply [] = no_reply
last_reply (g ∷ orders) = reply_to g.order

pub clear_done : (context : List ℕ) {orders : List Given} → Sound orders context → (timeout : ℕ) (before : List Given) → orders ≡ given (Clear timeout) Open ∷ before
    → (awaits (cache_of context) ≡ true) × AtRest (cache_of (replied Done context))
clear_done context sound timeout before e = by sound.standing e
  where
    by : {orders : List Given} → Standing context orders → orders ≡ given (Clear timeout) Open ∷ before
        → (awaits (cache_of context) ≡ true) × AtRest (cache_of (replied Done context))
    by (idle _ _ z) q = absurd (omega (arith, sym (ap open_in q) ∙ z))
    by (awaited (Clear t) _ e waits z) q = (ap not (ne_eqb _ _ (λ n. omega (arith, sym e ∙ n))), clear_rests context sound.long e t waits)
    by (awaited Nothing _ e waits z) q = absurd waits
    by (awaited (Load place t) _ e waits z) q = absurd (omega (arith, ap last_reply q))
    by (awaited (Unload place t) _ e waits z) q = absurd (omega (arith, ap last_reply q))
