-- Request P5, what the proof of `Orders` keeps from call to call (`Sound`), and that each order, a cut and a restart keep it; a reply is in
-- `Settled`. Assumes nothing.
-- The definitions stand in specs/Standing.antt.
use Rattle.std.specs.Prelude.{ℕ, ◌+◌, ◌<◌, ◌≡◌, refl, ◌⊎◌, Bool, true, false, List, [], ◌∷◌, eqb}
use Rattle.std.proofs.Common.{sym, ap, ap₂, ◌∙◌, inl, inr, ⊎_elim, arith, eqb-true}
use Rattle.std.proofs.lemmas.Bool.{false≢true, eqb-false, not-false}
use Rattle.laws.specs.Tests.{decided, and, neither}
use Rattle.laws.specs.Below.{tally}
use Rattle.cache.specs.Cache.{cache_of, places, empty, waiting, no_reply, clear_reply, load_reply, unload_reply, kind_in, tag_in, is_at, has_place}
use Rattle.cache.specs.Cache.{awaits, busy, placed, awaiting, waiting_at, clearing, emptied}
use Rattle.cache.specs.declared.Sought.TheVariants.{Occupied, Waiting, Tag}
use Rattle.cache.proofs.Laws.{has_none, emptied_rest}
use Rattle.cache.specs.After.{Long, Is}
use Rattle.cache.proofs.After.{is_occupied, not_occupied, has_tag, tag_at, turned_sought, turned_other, turned_awaited, turned_long}
use Rattle.cache.proofs.After.{set_here, set_there, set_awaited, set_long, emptied_long, emptied_kind}
use Rattle.engine.specs.declared.Order.{Order}
use Rattle.engine.specs.declared.Order.TheVariants.{Nothing, Clear, Load, Unload}
use Rattle.mailbox.specs.Mailbox.{loads}
use Rattle.history.specs.Orders.{Fate, Open, Answered, Dropped, Given, given, fate_by, closed, is_open, open_in, names, last_load_done, EmptyContext}
use Rattle.history.specs.Standing.{reply_to, Waits, NoneWaits, Standing, idle, awaited, Apart, Sound}

-- ---- orders that are closed

fate_same : (now fate : Fate) → is_open fate ≡ false → fate_by now fate ≡ fate
fate_same now Open o = absurd (false≢true (sym o))
fate_same now (Answered reply) o = refl
fate_same now Dropped o = refl

fate_closed : (now fate : Fate) → is_open now ≡ false → is_open (fate_by now fate) ≡ false
fate_closed now Open o = o
fate_closed now (Answered reply) o = refl
fate_closed now Dropped o = refl

not_open : (b : Bool) (n : ℕ) → tally b + n ≡ 0 → (b ≡ false) × (n ≡ 0)
not_open true n e = absurd (omega arith)
not_open false n e = (refl, omega arith)

-- where none is open, none is left to close
pub closed_same : (now : Fate) (orders : List Given) → open_in orders ≡ 0 → closed now orders ≡ orders
closed_same now [] z = refl
closed_same now (g ∷ orders) z =
    let none = not_open (is_open g.fate) (open_in orders) z in
    ap₂ (λ (g : Given) (orders : List Given). g ∷ orders) (ap (given g.order) (fate_same now g.fate none.0)) (closed_same now orders none.1)

pub closed_none : (now : Fate) → is_open now ≡ false → (orders : List Given) → open_in (closed now orders) ≡ 0
closed_none now o [] = refl
closed_none now o (g ∷ orders) = rw (fate_closed now g.fate o) (omega (arith, closed_none now o orders))

-- the last order that named a place was not the open one
pub past_open : (order : Order) (before : List Given) (k : ℕ) → last_load_done (given order Open ∷ before) k ≡ true
    → (names order k ≡ false) × (last_load_done before k ≡ true)
past_open order before k h =
    ⊎_elim
    (λ (y : names order k ≡ true). absurd (false≢true (and (loads order) false (rw y at h)).1))
    (λ (o : names order k ≡ false). (o, rw o at h))
    (decided (names order k))

-- ---- what is kept

-- an order that places wait for has a reply of its own
pub replied_to : (order : Order) (context : List ℕ) → Waits order context → reply_to order ≡ no_reply → ⊥
replied_to Nothing context w q = w
replied_to (Clear timeout) context w q = omega arith
replied_to (Load place timeout) context w q = omega arith
replied_to (Unload place timeout) context w q = omega arith

-- a context with every place empty and no reply awaited, whatever the orders were, if none is open
rested : (context : List ℕ) → Long context → ((k : ℕ) → k < places → kind_in (cache_of context) k ≡ empty) → (cache_of context).awaited ≡ no_reply
    → (orders : List Given) → open_in orders ≡ 0 → Sound orders context
rested context long all none orders z = record {
  long = long;
  apart = λ j k l m o p e. absurd (o (all j l));
  held_by = λ k l e. absurd (omega (arith, all k l, e));
  standing = idle none (λ k l e. omega (arith, all k l, e)) z;
}

none_by : (context : List ℕ) → awaits (cache_of context) ≡ false → (cache_of context).awaited ≡ no_reply
none_by context o = eqb-true _ _ (not-false _ o)

pub sound_start : (context : List ℕ) → EmptyContext context → Sound [] context
sound_start context e =
    rested context e.long (λ k l. not_occupied (cache_of context) k (has_none (cache_of context) Occupied e.at_rest.all_empty k l))
    (none_by context e.at_rest.none_awaited) [] refl

-- what leaves the cache keeps it
waits_same : (order : Order) (context after : List ℕ) → cache_of after ≡ cache_of context → Waits order context → Waits order after
waits_same Nothing context after e w = w
waits_same (Clear timeout) context after e w = rw e w
waits_same (Load place timeout) context after e w = rw e w
waits_same (Unload place timeout) context after e w = rw e w

standing_same : {orders : List Given} (context after : List ℕ) → cache_of after ≡ cache_of context → Standing context orders → Standing after orders
standing_same context after e (idle a none z) = idle (rw e a) (rw e none) z
standing_same context after e (awaited order before a waits z) = awaited order before (rw e a) (waits_same order context after e waits) z

pub sound_cache : (orders : List Given) (context after : List ℕ) → cache_of after ≡ cache_of context → Long after → Sound orders context → Sound orders after
sound_cache orders context after e long sound =
    record { long = long; apart = rw e sound.apart; held_by = rw e sound.held_by; standing = standing_same context after e sound.standing }

-- what a cut or a restart leaves is such a context
pub restart_empty : (context : List ℕ) → EmptyContext (emptied context)
restart_empty context = record { at_rest = emptied_rest context; long = emptied_long context }

-- a cut and a restart: all is emptied, and what was open is dropped
pub sound_emptied : (orders : List Given) (context : List ℕ) → Sound (closed Dropped orders) (emptied context)
sound_emptied orders context =
    rested (emptied context) (emptied_long context) (λ k l. emptied_kind context k l) (none_by (emptied context) (emptied_rest context).none_awaited)
    (closed Dropped orders) (closed_none Dropped refl orders)

-- what is occupied afterwards was so before, with the same tag: the tags stay apart
pub apart_kept : (context after : List ℕ)
    → ((k : ℕ) → k < places → (kind_in (cache_of after) k ≡ empty → ⊥) → (kind_in (cache_of context) k ≡ empty → ⊥) × (tag_in (cache_of after) k ≡ tag_in (cache_of context) k))
    → Apart context → Apart after
apart_kept context after kept apart j k l m o p e =
    let a = kept j l o in
    let b = kept k m p in
    apart j k l m a.0 b.0 (sym a.1 ∙ e ∙ b.1)

-- ---- orders: where nothing is awaited and no place waits

record Free (orders : List Given) (context : List ℕ) : Type 0 where
  none : NoneWaits context
  closed_all : open_in orders ≡ 0

free_by : (orders : List Given) (context : List ℕ) → Standing context orders → busy (cache_of context) ≡ false → Free orders context
free_by orders context (idle e none z) o = record { none = none; closed_all = z }
free_by _ context (awaited order before e waits z) o =
    let none = none_by context (neither (awaits (cache_of context)) (has_place (cache_of context) Waiting) o).0 in
    absurd (replied_to order context waits (sym e ∙ none))

module _ (orders : List Given) (context : List ℕ) (sound : Sound orders context) (not_busy : busy (cache_of context) ≡ false) where
  free : Free orders context
  free = free_by orders context sound.standing not_busy

  -- ---- an order that names one place, which then waits for its reply

  module _ (reply place tag : ℕ) (l : place < places) where
    abbrev waits_now : List ℕ
    waits_now = awaiting reply (placed place waiting tag context)

    here : Is waits_now place waiting tag
    here = set_here place waiting tag reply context sound.long l

    there : (j : ℕ) → j < places → (j ≡ place → ⊥) → Is waits_now j (kind_in (cache_of context) j) (tag_in (cache_of context) j)
    there = set_there place waiting tag reply context sound.long l

    place_sound : (order : Order) → ((k : ℕ) → names order k ≡ eqb place k) → reply ≡ reply_to order
        → (((k : ℕ) → k < places → kind_in (cache_of waits_now) k ≡ waiting → k ≡ place) → Waits order waits_now)
        → Apart waits_now → Sound (given order Open ∷ orders) waits_now
    place_sound order named answers waits tags = record {
      long = set_long place waiting tag reply context sound.long l;
      apart = tags;
      held_by = λ k m e. rw (named k)
          (⊎_elim
          (λ (y : eqb place k ≡ true). absurd (let w = here.kind_is_lem in omega (arith, rw (sym (eqb-true place k y)) at e)))
          (λ (o : eqb place k ≡ false). rw o (sound.held_by k m (sym (there k m (λ q. eqb-false place k o (sym q))).kind_is_lem ∙ e)))
          (decided (eqb place k)));
      standing = awaited order orders (set_awaited place waiting tag reply context sound.long l ∙ answers)
          (waits (λ k m e. ⊎_elim (λ (y : eqb k place ≡ true). eqb-true k place y)
          (λ (o : eqb k place ≡ false). absurd (free.none k m (sym (there k m (eqb-false k place o)).kind_is_lem ∙ e))) (decided (eqb k place))))
          free.closed_all;
    }

    -- where no place had the tag, it stands in no other
    module _ (new : has_place (cache_of context) (Tag tag) ≡ false) where
      fresh : (k : ℕ) → k < places → (k ≡ place → ⊥) → (kind_in (cache_of waits_now) k ≡ empty → ⊥) → tag_in (cache_of waits_now) k ≡ tag → ⊥
      fresh k m q o e =
          false≢true (sym (has_none (cache_of context) (Tag tag) new k m)
          ∙ tag_at (cache_of context) k tag (λ z. o ((there k m q).kind_is_lem ∙ z)) (sym (there k m q).tag_is ∙ e))

      fresh_apart : Apart waits_now
      fresh_apart j k m n o p e = by (decided (eqb j place)) (decided (eqb k place))
        where
          by : (eqb j place ≡ true) ⊎ (eqb j place ≡ false) → (eqb k place ≡ true) ⊎ (eqb k place ≡ false) → j ≡ k
          by (inl a) (inl b) = eqb-true j place a ∙ sym (eqb-true k place b)
          by (inl a) (inr b) = absurd (fresh k n (eqb-false k place b) p (sym e ∙ rw (eqb-true j place a) here.tag_is))
          by (inr a) (inl b) = absurd (fresh j m (eqb-false j place a) o (e ∙ rw (eqb-true k place b) here.tag_is))
          by (inr a) (inr b) =
              let x = there j m (eqb-false j place a) in
              let y = there k n (eqb-false k place b) in
              sound.apart j k m n (λ z. o (x.kind_is_lem ∙ z)) (λ z. p (y.kind_is_lem ∙ z)) (sym x.tag_is ∙ e ∙ y.tag_is)

    -- where the place had it, no place has another than before
    had_apart : is_at (cache_of context) (Tag tag) place ≡ true → Apart waits_now
    had_apart has = apart_kept context waits_now kept sound.apart
      where
        kept : (k : ℕ) → k < places → (kind_in (cache_of waits_now) k ≡ empty → ⊥)
            → (kind_in (cache_of context) k ≡ empty → ⊥) × (tag_in (cache_of waits_now) k ≡ tag_in (cache_of context) k)
        kept k m o =
            ⊎_elim
            (λ (y : eqb k place ≡ true).
            let was = has_tag (cache_of context) place tag has in
            rw (eqb-true k place y) (was.0, here.tag_is ∙ sym was.1))
            (λ (q : eqb k place ≡ false). let i = there k m (eqb-false k place q) in ((λ z. o (i.kind_is_lem ∙ z)), i.tag_is))
            (decided (eqb k place))

  -- a load, of a tag that no place has
  pub sound_load : (place timeout tag : ℕ) → place < places → has_place (cache_of context) (Tag tag) ≡ false
      → Sound (given (Load place timeout) Open ∷ orders) (waiting_at place tag load_reply context)
  sound_load place timeout tag l new = place_sound load_reply place tag l (Load place timeout) (λ k. refl) refl (λ w. w) (fresh_apart load_reply place tag l new)

  -- an unload, of the place that has the tag
  pub sound_unload : (place timeout tag : ℕ) → place < places → is_at (cache_of context) (Tag tag) place ≡ true
      → Sound (given (Unload place timeout) Open ∷ orders) (waiting_at place tag unload_reply context)
  sound_unload place timeout tag l has = place_sound unload_reply place tag l (Unload place timeout) (λ k. refl) refl (λ w. w) (had_apart unload_reply place tag l has)

  -- ---- a clear: every place that is not empty waits

  pub sound_clear : (timeout : ℕ) → Sound (given (Clear timeout) Open ∷ orders) (clearing context)
  sound_clear timeout = record {
    long = turned_long Occupied waiting clear_reply context sound.long;
    apart = apart_kept context (clearing context) kept sound.apart;
    held_by = λ k m e. absurd (let w = waits k m (λ z. omega (arith, sym e ∙ z)) in omega (arith, sym w ∙ e));
    standing = awaited (Clear timeout) orders (turned_awaited Occupied waiting clear_reply context sound.long) waits free.closed_all;
  }
    where
      waits : (k : ℕ) → k < places → (kind_in (cache_of (clearing context)) k ≡ empty → ⊥) → kind_in (cache_of (clearing context)) k ≡ waiting
      waits k m o =
          ⊎_elim
          (λ (y : is_at (cache_of context) Occupied k ≡ true). (turned_sought Occupied waiting clear_reply context sound.long k m y).kind_is_lem)
          (λ (n : is_at (cache_of context) Occupied k ≡ false).
          absurd (o ((turned_other Occupied waiting clear_reply context sound.long k m n).kind_is_lem ∙ not_occupied (cache_of context) k n)))
          (decided (is_at (cache_of context) Occupied k))

      kept : (k : ℕ) → k < places → (kind_in (cache_of (clearing context)) k ≡ empty → ⊥)
          → (kind_in (cache_of context) k ≡ empty → ⊥) × (tag_in (cache_of (clearing context)) k ≡ tag_in (cache_of context) k)
      kept k m o =
          ⊎_elim
          (λ (y : is_at (cache_of context) Occupied k ≡ true).
          (is_occupied (cache_of context) k y, (turned_sought Occupied waiting clear_reply context sound.long k m y).tag_is))
          (λ (n : is_at (cache_of context) Occupied k ≡ false).
          let i = turned_other Occupied waiting clear_reply context sound.long k m n in ((λ z. o (i.kind_is_lem ∙ z)), i.tag_is))
          (decided (is_at (cache_of context) Occupied k))
