-- What each place and the awaited reply are after an order or a reply, in a context that has the words of the cache, as an array of them
-- has. Assumes nothing.
-- The definitions stand in specs/After.antt.
use Rattle.std.specs.Prelude.{ℕ, zero, suc, ◌+◌, ◌≤◌, ◌<◌, ◌≡◌, refl, Bool, true, false, cond, not, List, eqb, ltb, get_or, set, drop, replicate}
use Rattle.std.proofs.Common.{sym, ap, ap₂, ◌∙◌, ⊎_elim, arith, eq-or-lt_of_le, le_of_suc-le-suc, length-set, length-append, get_or-set_same, get_or-set_other}
use Rattle.std.proofs.lemmas.List.{length-replicate}
use borrow.Author.Tests.{lt-ltb, ltb-true, ltb-false, eqb-true, eqb-false, eq-eqb, ne_eqb, not-true, not-false}
use Rattle.laws.specs.Tests.{and, cond_keeps}
use Rattle.context.specs.Context.{kinds_at, tags_at, awaited_at}
use Rattle.cache.specs.declared.Sought.{Sought}
use Rattle.cache.specs.declared.Sought.TheVariants.{Occupied, Waiting, Unsure, Tag}
use Rattle.cache.specs.declared.Place.{Place}
use Rattle.cache.specs.declared.Place.TheVariants.{Empty as EmptyPlace, Waiting as WaitingPlace, Held as HeldPlace, Unsure as UnsurePlace}
use Rattle.cache.specs.Cache.{Cache, cache_of, places, empty, held, waiting, unsure, kind_in, tag_in, kind_is, is_at, place_at}
use Rattle.cache.specs.Cache.{cache_words, placed, kept_tag, turned_at, turned_below, awaiting, emptied}
use Rattle.cache.proofs.Laws.{kind_read, tag_read, awaited_read, placed_in, has_none, emptied_rest}
use Rattle.cache.specs.After.{Long, Is}

pub store_long : (context : List ℕ) (i v : ℕ) → cache_words ≤ i → Long context → Long (set context i v)
store_long context i v _ long = rw (length-set context i v) long

-- at the words
is_at_lem : (context : List ℕ) (j kind tag : ℕ) → j < places → get_or context (kinds_at + j) 0 ≡ kind → get_or context (tags_at + j) 0 ≡ tag → Is context j kind tag
is_at_lem context j kind tag l e f = record { kind_is_lem = sym (kind_read context j l) ∙ e; tag_is = sym (tag_read context j l) ∙ f }

-- a place that is as it was in another context, where it has this kind and this tag
as_there : {context after : List ℕ} {j kind tag : ℕ} → Is after j (kind_in (cache_of context) j) (tag_in (cache_of context) j) → Is context j kind tag → Is after j kind tag
as_there now was = record { kind_is_lem = now.kind_is_lem ∙ was.kind_is_lem; tag_is = now.tag_is ∙ was.tag_is }

-- ---- what a search says of the kind and the tag of a place

module _ (c : Cache) (k : ℕ) where
  pub is_occupied : is_at c Occupied k ≡ true → kind_in c k ≡ empty → ⊥
  unfolding is_at
  is_occupied y = eqb-false _ _ (not-true _ y)

  pub not_occupied : is_at c Occupied k ≡ false → kind_in c k ≡ empty
  unfolding is_at
  not_occupied o = eqb-true _ _ (not-false _ o)

  pub is_waiting : is_at c Waiting k ≡ true → kind_in c k ≡ waiting
  unfolding is_at
  is_waiting y = eqb-true _ _ y

  pub not_waiting : is_at c Waiting k ≡ false → kind_in c k ≡ waiting → ⊥
  unfolding is_at
  not_waiting o = eqb-false _ _ o

  pub has_tag : (tag : ℕ) → is_at c (Tag tag) k ≡ true → (kind_in c k ≡ empty → ⊥) × (tag_in c k ≡ tag)
  unfolding is_at
  has_tag tag y = let both = and (not (eqb (kind_in c k) empty)) (eqb (tag_in c k) tag) y in (eqb-false _ _ (not-true _ both.0), eqb-true _ _ both.1)

  pub tag_at : (tag : ℕ) → (kind_in c k ≡ empty → ⊥) → tag_in c k ≡ tag → is_at c (Tag tag) k ≡ true
  unfolding is_at
  tag_at tag o e = rw (ne_eqb _ _ o, eq-eqb _ _ e)

-- ---- a place that is set

module _ (context : List ℕ) (long : Long context) (k kind tag : ℕ) (l : k < places) where
  placed_here : Is (placed k kind tag context) k kind tag
  placed_here =
      rw (← placed_in context k kind tag l)
      (is_at_lem (set (set context (kinds_at + k) kind) (tags_at + k) tag) k kind tag l
      (get_or-set_other (set context (kinds_at + k) kind) (tags_at + k) (kinds_at + k) tag 0 (λ e. omega arith)
      ∙ get_or-set_same context (kinds_at + k) kind 0 (omega arith))
      (get_or-set_same (set context (kinds_at + k) kind) (tags_at + k) tag 0 (rw (length-set context (kinds_at + k) kind) (omega arith))))

  placed_there : (j : ℕ) → j < places → (j ≡ k → ⊥) → Is (placed k kind tag context) j (kind_in (cache_of context) j) (tag_in (cache_of context) j)
  placed_there j m o =
      rw (← placed_in context k kind tag l)
      (is_at_lem (set (set context (kinds_at + k) kind) (tags_at + k) tag) j (kind_in (cache_of context) j) (tag_in (cache_of context) j) m
      (get_or-set_other (set context (kinds_at + k) kind) (tags_at + k) (kinds_at + j) tag 0 (λ e. omega arith)
      ∙ get_or-set_other context (kinds_at + k) (kinds_at + j) kind 0 (λ e. o (omega arith)) ∙ kind_read context j m)
      (get_or-set_other (set context (kinds_at + k) kind) (tags_at + k) (tags_at + j) tag 0 (λ e. o (omega arith))
      ∙ get_or-set_other context (kinds_at + k) (tags_at + j) kind 0 (λ e. omega arith) ∙ tag_read context j m))

  placed_awaited : (cache_of (placed k kind tag context)).awaited ≡ (cache_of context).awaited
  placed_awaited =
      rw (← placed_in context k kind tag l)
      (sym (awaited_read (set (set context (kinds_at + k) kind) (tags_at + k) tag))
      ∙ get_or-set_other (set context (kinds_at + k) kind) (tags_at + k) awaited_at tag 0 (λ e. omega arith)
      ∙ get_or-set_other context (kinds_at + k) awaited_at kind 0 (λ e. omega arith) ∙ awaited_read context)

  placed_long : Long (placed k kind tag context)
  placed_long = rw (← placed_in context k kind tag l, length-set (set context (kinds_at + k) kind) (tags_at + k) tag, length-set context (kinds_at + k) kind) long

-- ---- places that are turned

-- what a place becomes: as it is turned to where it is sought, else as it was
abbrev Turned : Sought → (kind : ℕ) (context after : List ℕ) (j : ℕ) → Type 0
Turned sought kind context after j =
    Is after j (cond (is_at (cache_of context) sought j) kind (kind_in (cache_of context) j))
    (cond (is_at (cache_of context) sought j) (kept_tag kind (tag_in (cache_of context) j)) (tag_in (cache_of context) j))

-- so far as the turn has come: the places below n are turned, the others as they were, and so is the awaited reply
record TurnedTo (sought : Sought) (kind n : ℕ) (context after : List ℕ) : Type 0 where
  long : Long after
  below : (j : ℕ) → j < places → j < n → Turned sought kind context after j
  beyond : (j : ℕ) → j < places → n ≤ j → Is after j (kind_in (cache_of context) j) (tag_in (cache_of context) j)
  same : (cache_of after).awaited ≡ (cache_of context).awaited

-- a place that is as it was is sought as it was
still_sought : (sought : Sought) (context after : List ℕ) (j : ℕ) → Is after j (kind_in (cache_of context) j) (tag_in (cache_of context) j)
    → is_at (cache_of after) sought j ≡ is_at (cache_of context) sought j
unfolding is_at
still_sought sought context after j i = ap₂ (kind_is sought) i.kind_is_lem i.tag_is

module _ (sought : Sought) (kind n : ℕ) (context t : List ℕ) (l : n < places) (so : TurnedTo sought kind n context t) where
  here : Is t n (kind_in (cache_of context) n) (tag_in (cache_of context) n)
  here = so.beyond n l (omega arith)

  sets : is_at (cache_of context) sought n ≡ true → TurnedTo sought kind (suc n) context (placed n kind (kept_tag kind (tag_in (cache_of t) n)) t)
  sets y = record {
    long = placed_long t so.long n kind _ l;
    below = λ j m b.
        ⊎_elim
        (λ (e : j ≡ n). rw (e, y, here.tag_is) (placed_here t so.long n kind (kept_tag kind (tag_in (cache_of context) n)) l))
        (λ (u : j < n). as_there (placed_there t so.long n kind (kept_tag kind (tag_in (cache_of t) n)) l j m (λ e. omega arith)) (so.below j m u))
        (eq-or-lt_of_le (le_of_suc-le-suc b));
    beyond = λ j m b. as_there (placed_there t so.long n kind (kept_tag kind (tag_in (cache_of t) n)) l j m (λ e. omega arith)) (so.beyond j m (omega arith));
    same = placed_awaited t so.long n kind _ l ∙ so.same;
  }

  passes : is_at (cache_of context) sought n ≡ false → TurnedTo sought kind (suc n) context t
  passes o = record {
    long = so.long;
    below = λ j m b. ⊎_elim (λ (e : j ≡ n). rw e (rw o here)) (λ (u : j < n). so.below j m u) (eq-or-lt_of_le (le_of_suc-le-suc b));
    beyond = λ j m b. so.beyond j m (omega arith);
    same = so.same;
  }

  turned_next : TurnedTo sought kind (suc n) context (turned_at sought kind n t)
  turned_next =
      cond_keeps (TurnedTo sought kind (suc n) context) (is_at (cache_of t) sought n) (placed n kind (kept_tag kind (tag_in (cache_of t) n)) t) t
      (λ y. sets (sym (still_sought sought context t n here) ∙ y)) (λ o. passes (sym (still_sought sought context t n here) ∙ o))

turned_to : (sought : Sought) (kind n : ℕ) (context : List ℕ) → Long context → n ≤ places → TurnedTo sought kind n context (turned_below sought kind n context)
unfolding turned_below
turned_to sought kind zero context long l = record {
  long = long;
  below = λ j m b. absurd (omega arith);
  beyond = λ j m b. record { kind_is_lem = refl; tag_is = refl };
  same = refl;
}
turned_to sought kind (suc n) context long l =
    turned_next sought kind n context (turned_below sought kind n context) (omega arith) (turned_to sought kind n context long (omega arith))

-- ---- the awaited reply

module _ (reply : ℕ) (context : List ℕ) where
  awaiting_place : (j : ℕ) → j < places → Is (awaiting reply context) j (kind_in (cache_of context) j) (tag_in (cache_of context) j)
  awaiting_place j m =
      is_at_lem (awaiting reply context) j (kind_in (cache_of context) j) (tag_in (cache_of context) j) m
      (get_or-set_other context awaited_at (kinds_at + j) reply 0 (λ e. omega arith) ∙ kind_read context j m)
      (get_or-set_other context awaited_at (tags_at + j) reply 0 (λ e. omega arith) ∙ tag_read context j m)

  awaiting_is : Long context → (cache_of (awaiting reply context)).awaited ≡ reply
  awaiting_is long = sym (awaited_read (awaiting reply context)) ∙ get_or-set_same context awaited_at reply 0 (omega arith)

  awaiting_long : Long context → Long (awaiting reply context)
  awaiting_long long = rw (length-set context awaited_at reply) long

-- ---- a turn of all places, with the reply that is then awaited

module _ (sought : Sought) (kind reply : ℕ) (context : List ℕ) (long : Long context) where
  abbrev turned : List ℕ
  turned = turned_below sought kind places context

  all_turned : TurnedTo sought kind places context turned
  all_turned = turned_to sought kind places context long (omega arith)

  turned_place : (j : ℕ) → j < places → Turned sought kind context (awaiting reply turned) j
  turned_place j m = as_there (awaiting_place reply turned j m) (all_turned.below j m m)

  -- a place that was sought is of that kind, any other as it was
  pub turned_sought : (j : ℕ) → j < places → is_at (cache_of context) sought j ≡ true → Is (awaiting reply turned) j kind (kept_tag kind (tag_in (cache_of context) j))
  turned_sought j m y = rw y at (turned_place j m)

  pub turned_other : (j : ℕ) → j < places → is_at (cache_of context) sought j ≡ false
      → Is (awaiting reply turned) j (kind_in (cache_of context) j) (tag_in (cache_of context) j)
  turned_other j m o = rw o at (turned_place j m)

  pub turned_awaited : (cache_of (awaiting reply turned)).awaited ≡ reply
  turned_awaited = awaiting_is reply turned all_turned.long

  pub turned_long : Long (awaiting reply turned)
  turned_long = awaiting_long reply turned all_turned.long

-- ---- a set place, with the reply that is then awaited

module _ (k kind tag reply : ℕ) (context : List ℕ) (long : Long context) (l : k < places) where
  abbrev now : List ℕ
  now = awaiting reply (placed k kind tag context)

  pub set_here : Is now k kind tag
  set_here = as_there (awaiting_place reply (placed k kind tag context) k l) (placed_here context long k kind tag l)

  pub set_there : (j : ℕ) → j < places → (j ≡ k → ⊥) → Is now j (kind_in (cache_of context) j) (tag_in (cache_of context) j)
  set_there j m o = as_there (awaiting_place reply (placed k kind tag context) j m) (placed_there context long k kind tag l j m o)

  pub set_awaited : (cache_of now).awaited ≡ reply
  set_awaited = awaiting_is reply (placed k kind tag context) (placed_long context long k kind tag l)

  pub set_long : Long now
  set_long = awaiting_long reply (placed k kind tag context) (placed_long context long k kind tag l)

-- ---- all emptied

pub emptied_long : (context : List ℕ) → Long (emptied context)
unfolding emptied
emptied_long context = omega (arith, length-append (replicate cache_words 0) (drop cache_words context), length-replicate {A = ℕ} cache_words 0)

pub emptied_kind : (context : List ℕ) (j : ℕ) → j < places → kind_in (cache_of (emptied context)) j ≡ empty
emptied_kind context j m = not_occupied (cache_of (emptied context)) j (has_none (cache_of (emptied context)) Occupied (emptied_rest context).all_empty j m)

-- ---- what a place reads as, and its kind

-- the number of what is read, a kind that we never write as unsure
abbrev read_kind : Place → ℕ
read_kind EmptyPlace = empty
read_kind (HeldPlace tag) = held
read_kind (WaitingPlace tag) = waiting
read_kind (UnsurePlace tag) = unsure

-- what reads as held or as waiting is a place of that kind
read_tells : (c : Cache) (k kind : ℕ) → 1 ≤ kind → kind ≤ 2 → read_kind (place_at c k) ≡ kind → (k < places) × (kind_in c k ≡ kind)
read_tells c k kind low high = by (ltb k places) (eqb (kind_in c k) empty) (eqb (kind_in c k) held) (eqb (kind_in c k) waiting) refl refl refl
  where
    by : (there e h w : Bool) → ltb k places ≡ there → eqb (kind_in c k) held ≡ h → eqb (kind_in c k) waiting ≡ w
        → read_kind (cond there (cond e EmptyPlace (cond h (HeldPlace (tag_in c k)) (cond w (WaitingPlace (tag_in c k)) (UnsurePlace (tag_in c k))))) EmptyPlace) ≡ kind
        → (k < places) × (kind_in c k ≡ kind)
    by false e h w t y z q = absurd (omega arith)
    by true true h w t y z q = absurd (omega arith)
    by true false true w t y z q = (ltb-true _ _ t, eqb-true _ _ y ∙ q)
    by true false false true t y z q = (ltb-true _ _ t, eqb-true _ _ z ∙ q)
    by true false false false t y z q = absurd (omega arith)

pub place_held : (c : Cache) (k tag : ℕ) → place_at c k ≡ HeldPlace tag → (k < places) × (kind_in c k ≡ held)
place_held c k tag e = read_tells c k held (omega arith) (omega arith) (ap read_kind e)

pub place_waiting : (c : Cache) (k tag : ℕ) → place_at c k ≡ WaitingPlace tag → (k < places) × (kind_in c k ≡ waiting)
place_waiting c k tag e = read_tells c k waiting (omega arith) (omega arith) (ap read_kind e)

-- a place with a tag that neither waits nor is unsure is held
pub held_place : (c : Cache) (k tag : ℕ) → k < places → is_at c (Tag tag) k ≡ true → is_at c Waiting k ≡ false → is_at c Unsure k ≡ false → place_at c k ≡ HeldPlace tag
unfolding is_at
held_place c k tag l t w u =
    let has = has_tag c k tag t in
    let most : kind_in c k ≤ waiting = ltb-false _ _ u in
    let one : kind_in c k ≡ held = omega (arith, ne_0_2 (kind_in c k) has.0 (not_waiting c k w) most) in
    rw (lt-ltb _ _ l, one, has.1)
  where
    ne_0_2 : (n : ℕ) → (n ≡ empty → ⊥) → (n ≡ waiting → ⊥) → n ≤ waiting → n ≡ held
    ne_0_2 zero a b m = absurd (a refl)
    ne_0_2 (suc zero) a b m = refl
    ne_0_2 (suc (suc zero)) a b m = absurd (b refl)
    ne_0_2 (suc (suc (suc n))) a b m = absurd (omega arith)
