-- The cache's laws: a place as the code reads it, a place that is set, places that are turned, what a search tells, and which places are
-- occupied afterwards. Assumes nothing.
use Rattle.std.specs.Prelude.{ℕ, zero, suc, ◌+◌, ◌≤◌, ◌<◌, ◌≡◌, refl, true, false, not, List, ◌++◌, eqb, length, get_or, set, take, drop, replicate}
use Rattle.std.proofs.Math.Path.{sym, ap₂}
use Rattle.std.proofs.Common.{ap, subst, ◌∙◌, ⊎_elim, inr, arith, add-one, get_or-set_other, drop-cons, drop-set-lt, lt-ltb, le-ltb, ltb-true, eqb-true, ne_eqb}
use Rattle.std.proofs.lemmas.Bool.{false≢true}
use Rattle.std.proofs.lemmas.List.{append-nil, drop_all, length-replicate, length-take-le, replicate-append-replicate, set_at, set-get_or}
use Rattle.std.proofs.Math.Seq.{append_snoc}
use Rattle.laws.specs.Tests.{decided, lt_or_le, and, not_yes, cond_keeps}
use Rattle.laws.specs.Below.{first_from}
use Rattle.laws.proofs.Below.{first_tells, first_least}
use Rattle.context.specs.Context.{kinds_at, tags_at, awaited_at}
use Rattle.context.specs.Laws.{part_at, store_apart}
use Rattle.cache.specs.declared.Sought.{Sought}
use Rattle.cache.specs.declared.Sought.TheVariants.{Occupied, Waiting, Tag}
use Rattle.cache.specs.declared.Place.TheVariants.{Empty as EmptyPlace}
use Rattle.cache.specs.Cache.{Cache, cache_of, places, kind_in, tag_in, empty, waiting, kind_is, is_at, lowest_place, has_place, busy, AtRest, place_by, place_at}
use Rattle.cache.specs.Cache.{cache_words, placed, kept_tag, turned_at, turned_below, no_reply, clear_reply, awaiting, waiting_at, clearing, settled, emptied}

-- ---- a place, at the words that were read

module _ (context : List ℕ) (k : ℕ) (l : k < places) where
  pub kind_read : get_or context (kinds_at + k) 0 ≡ kind_in (cache_of context) k
  unfolding cache_of
  kind_read = sym (part_at kinds_at places context k l)

  pub tag_read : get_or context (tags_at + k) 0 ≡ tag_in (cache_of context) k
  unfolding cache_of
  tag_read = sym (part_at tags_at places context k l)

  pub is_read : (sought : Sought) → kind_is sought (get_or context (kinds_at + k) 0) (get_or context (tags_at + k) 0) ≡ is_at (cache_of context) sought k
  unfolding is_at
  is_read sought = ap₂ (kind_is sought) kind_read tag_read

  pub place_read : place_by (get_or context (kinds_at + k) 0) (get_or context (tags_at + k) 0) ≡ place_at (cache_of context) k
  place_read = rw (lt-ltb _ _ l) (ap₂ place_by kind_read tag_read)

pub past_read : (c : Cache) (k : ℕ) → places ≤ k → EmptyPlace ≡ place_at c k
past_read c k l = rw (le-ltb _ _ l)

pub awaited_read : (context : List ℕ) → get_or context awaited_at 0 ≡ (cache_of context).awaited
unfolding cache_of
awaited_read context = refl

-- ---- a place that is set

module _ (context : List ℕ) (k kind tag : ℕ) where
  pub placed_in : k < places → set (set context (kinds_at + k) kind) (tags_at + k) tag ≡ placed k kind tag context
  unfolding placed
  placed_in l = simp (lt-ltb _ _ l)

  -- there is no place past the last
  pub placed_past : places ≤ k → context ≡ placed k kind tag context
  unfolding placed
  placed_past l = simp (le-ltb _ _ l)

  -- and the words behind the cache stay
  pub placed_behind : drop cache_words (placed k kind tag context) ≡ drop cache_words context
  placed_behind =
      ⊎_elim
      (λ (l : k < places).
      rw (← placed_in l)
      (drop-set-lt cache_words (set context (kinds_at + k) kind) (tags_at + k) tag (omega arith)
      ∙ drop-set-lt cache_words context (kinds_at + k) kind (omega arith)))
      (λ (o : places ≤ k). ap (drop cache_words) (sym (placed_past o)))
      (lt_or_le k places)

-- ---- places that are turned, one after the other

-- a place that is sought is set, any other stays
module _ (sought : Sought) (kind k : ℕ) (context : List ℕ) where
  pub turn_sets : k < places → is_at (cache_of context) sought k ≡ true
      → placed k kind (kept_tag kind (get_or context (tags_at + k) 0)) context ≡ turned_at sought kind k context
  turn_sets l y = rw (y, tag_read context k l)

  pub turn_passes : is_at (cache_of context) sought k ≡ false → context ≡ turned_at sought kind k context
  turn_passes o = rw o

pub turn_next : (sought : Sought) (kind k : ℕ) (before : List ℕ) {context after : List ℕ} → context ≡ turned_below sought kind k before
    → after ≡ turned_at sought kind k context → after ≡ turned_below sought kind (k + 1) before
unfolding turned_below
turn_next sought kind k before e f = f ∙ rw (add-one k, e)

-- a turn over places none of which is sought changes nothing
turn_none : (sought : Sought) (kind n : ℕ) (context : List ℕ) → ((k : ℕ) → k < n → is_at (cache_of context) sought k ≡ false)
    → turned_below sought kind n context ≡ context
unfolding turned_below
turn_none sought kind zero context none = refl
turn_none sought kind (suc n) context none =
    let same = turn_none sought kind n context (λ k l. none k (omega arith)) in
    rw (same, none n (omega arith))

-- the words behind the cache stay
turned_behind : (sought : Sought) (kind n : ℕ) (context : List ℕ) → drop cache_words (turned_below sought kind n context) ≡ drop cache_words context
unfolding turned_below
turned_behind sought kind zero context = refl
turned_behind sought kind (suc n) context =
    let t = turned_below sought kind n context in
    cond_keeps (λ (c : List ℕ). drop cache_words c ≡ drop cache_words context) (is_at (cache_of t) sought n) (placed n kind (kept_tag kind (tag_in (cache_of t) n)) t) t
    (λ _. placed_behind t n kind _ ∙ turned_behind sought kind n context)
    (λ _. turned_behind sought kind n context)

-- ---- the awaited reply

module _ (reply : ℕ) (context : List ℕ) where
  -- the places stay, and the words behind the cache
  awaiting_at : (sought : Sought) (k : ℕ) → is_at (cache_of (awaiting reply context)) sought k ≡ is_at (cache_of context) sought k
  unfolding cache_of is_at
  awaiting_at sought k =
      rw (store_apart kinds_at places context awaited_at reply (inr (omega arith)), store_apart tags_at places context awaited_at reply (inr (omega arith)))

  pub awaiting_behind : drop cache_words (awaiting reply context) ≡ drop cache_words context
  awaiting_behind = drop-set-lt cache_words context awaited_at reply (omega arith)

-- where none is awaited, to drop it changes nothing
pub none_dropped : (context : List ℕ) → (cache_of context).awaited ≡ no_reply → awaiting no_reply context ≡ context
none_dropped context e = ap (set context awaited_at) (sym (awaited_read context ∙ e)) ∙ set-get_or context awaited_at 0

pub waiting_behind : (k tag reply : ℕ) (context : List ℕ) → drop cache_words (waiting_at k tag reply context) ≡ drop cache_words context
waiting_behind k tag reply context = awaiting_behind reply (placed k waiting tag context) ∙ placed_behind context k waiting tag

pub clearing_behind : (context : List ℕ) → drop cache_words (clearing context) ≡ drop cache_words context
clearing_behind context = awaiting_behind clear_reply (turned_below Occupied waiting places context) ∙ turned_behind Occupied waiting places context

pub settled_behind : (kind : ℕ) (context : List ℕ) → drop cache_words (settled kind context) ≡ drop cache_words context
settled_behind kind context = awaiting_behind no_reply (turned_below Waiting kind places context) ∙ turned_behind Waiting kind places context

-- a store behind the cache leaves it
pub store_behind : (context : List ℕ) (i v : ℕ) → cache_words ≤ i → cache_of (set context i v) ≡ cache_of context
unfolding cache_of
store_behind context i v l =
    rw (
      store_apart kinds_at places context i v (inr (omega arith)),
      store_apart tags_at places context i v (inr (omega arith)),
      get_or-set_other context i awaited_at v 0 (λ e. omega arith),
    )

-- ---- all places emptied

-- whatever the words were
pub emptied_rest : (context : List ℕ) → AtRest (cache_of (emptied context))
unfolding emptied cache_of is_at first_from
emptied_rest context = record { all_empty = refl; none_awaited = refl }

-- and the words behind the cache stay
pub emptied_behind : (context : List ℕ) → drop cache_words (emptied context) ≡ drop cache_words context
unfolding emptied
emptied_behind context = refl

-- one word after the other is made 0
pub zeros_next : (k : ℕ) (context before : List ℕ) → k < length before → context ≡ replicate k 0 ++ drop k before → set context k 0 ≡ replicate (k + 1) 0 ++ drop (k + 1) before
zeros_next k context before l e =
    rw (e, drop-cons before k 0, set_at (replicate k 0) (get_or before k 0) (drop (suc k) before) 0 k (length-replicate k 0))
    (sym (append_snoc (replicate k 0) 0 (drop (suc k) before))
    ∙ ap₂ (λ (zeros rest : List ℕ). zeros ++ rest) (replicate-append-replicate k 1 0) (ap (λ (n : ℕ). drop n before) (sym (add-one k))))

-- once all of a part's words are, the part is zeros
pub zeros_end : (n k : ℕ) (context before : List ℕ) → n ≤ length before → length (take n before) ≤ k → k ≤ length (take n before)
    → context ≡ replicate k 0 ++ drop k (take n before) → context ++ drop n before ≡ replicate n 0 ++ drop n before
zeros_end n k context before l most least e =
    let whole : k ≡ n = omega (arith, length-take-le n before l) in
    rw (e, whole, drop_all n (take n before) (omega (arith, length-take-le n before l)), append-nil) refl

-- ---- a place of those sought

module _ (c : Cache) (sought : Sought) where
  pub has_tells : has_place c sought ≡ true → (lowest_place c sought < places) × (is_at c sought (lowest_place c sought) ≡ true)
  has_tells h =
      let l : lowest_place c sought < places = ltb-true _ _ h in
      (l, (first_tells (is_at c sought) 0 places).at (omega arith))

  pub has_at : (k : ℕ) → k < places → is_at c sought k ≡ true → has_place c sought ≡ true
  has_at k l a = let m = first_least (is_at c sought) places k l a in lt-ltb (lowest_place c sought) places (omega arith)

  pub has_none : has_place c sought ≡ false → (k : ℕ) → k < places → is_at c sought k ≡ false
  has_none o k l = not_yes _ (λ a. false≢true (sym o ∙ has_at k l a))

-- ---- occupied places

-- every place but an empty one is occupied, whatever else was sought of it
abbrev Occupies : Sought → Type 0
Occupies sought = (kind tag : ℕ) → kind_is sought kind tag ≡ true → kind_is Occupied kind tag ≡ true

waiting_occupies : Occupies Waiting
waiting_occupies kind tag y = ap not (ne_eqb kind empty (λ z. omega (arith, eqb-true kind waiting y)))

pub tag_occupies : (tag : ℕ) → Occupies (Tag tag)
tag_occupies sought kind tag y = (and (not (eqb kind empty)) (eqb tag sought) y).0

pub has_occupied : (c : Cache) (sought : Sought) → Occupies sought → has_place c sought ≡ true → has_place c Occupied ≡ true
unfolding is_at
has_occupied c sought o h = let t = has_tells c sought h in has_at c Occupied _ t.0 (o _ _ t.1)

-- at rest nothing is busy
pub rest_idle : (c : Cache) → AtRest c → busy c ≡ false
rest_idle c r = rw r.none_awaited (not_yes (has_place c Waiting) (λ y. false≢true (sym r.all_empty ∙ has_occupied c Waiting waiting_occupies y)))

-- a turn occupies no place where none was: what is turned was occupied
turned_occupied : (sought : Sought) → Occupies sought → (kind reply : ℕ) (context : List ℕ)
    → has_place (cache_of (awaiting reply (turned_below sought kind places context))) Occupied ≡ true → has_place (cache_of context) Occupied ≡ true
turned_occupied sought o kind reply context h =
    ⊎_elim
    (λ (y : has_place (cache_of context) sought ≡ true). has_occupied (cache_of context) sought o y)
    (λ (n : has_place (cache_of context) sought ≡ false).
    let same = turn_none sought kind places context (has_none (cache_of context) sought n) in
    let after = turned_below sought kind places context in
    let t = has_tells (cache_of (awaiting reply after)) Occupied h in
    let k = lowest_place (cache_of (awaiting reply after)) Occupied in
    has_at (cache_of context) Occupied k t.0
    (subst (λ (c : List ℕ). is_at (cache_of c) Occupied k ≡ true) same (sym (awaiting_at reply after Occupied k) ∙ t.1)))
    (decided (has_place (cache_of context) sought))

pub clearing_occupied : (context : List ℕ) → has_place (cache_of (clearing context)) Occupied ≡ true → has_place (cache_of context) Occupied ≡ true
clearing_occupied context = turned_occupied Occupied (λ kind tag y. y) waiting clear_reply context

pub settled_occupied : (kind : ℕ) (context : List ℕ) → has_place (cache_of (settled kind context)) Occupied ≡ true → has_place (cache_of context) Occupied ≡ true
settled_occupied kind context = turned_occupied Waiting waiting_occupies kind no_reply context
