-- Document 01, "Active slot and key cache", and request P5: the places and the awaited reply, and what orders and replies make of them.
-- Assumes nothing.
use Rattle.std.specs.Prelude.{ℕ, zero, suc, ◌+◌, ◌≡◌, Bool, false, cond, not, ◌&&◌, ◌||◌, List, ◌++◌, eqb, ltb, get_or, set, drop, replicate}
use Rattle.laws.specs.Below.{first_below}
use Rattle.context.specs.Context.{kinds_at, tags_at, awaited_at, part}
use Rattle.cache.specs.declared.Sought.{Sought}
use Rattle.cache.specs.declared.Sought.TheVariants.{Empty, Occupied, Waiting, Unsure, Tag}
use Rattle.cache.specs.declared.Place.{Place}
use Rattle.cache.specs.declared.Place.TheVariants.{Empty as EmptyPlace, Waiting as WaitingPlace, Held as HeldPlace, Unsure as UnsurePlace}

-- ---- the cache, as it is read

-- "The cache has 16 places"
abbrev pub places : ℕ
places = 16

-- "A cache place is empty, waiting, held or unsure": the number of each kind; any other, which we never write, counts as unsure
abbrev pub empty : ℕ
empty = 0

abbrev pub held : ℕ
held = 1

abbrev pub waiting : ℕ
waiting = 2

abbrev pub unsure : ℕ
unsure = 3

-- the awaited reply, by the order that it answers; any other number, which we never write, counts as an awaited reply too
abbrev pub no_reply : ℕ
no_reply = 0

abbrev pub clear_reply : ℕ
clear_reply = 1

abbrev pub load_reply : ℕ
load_reply = 2

abbrev pub unload_reply : ℕ
unload_reply = 3

-- what each place is, its tag, and the awaited reply
pub record Cache : Type 0 where
  pub kinds : List ℕ
  pub tags : List ℕ
  pub awaited : ℕ

-- the cache of a context
unfoldable pub cache_of : (context : List ℕ) → Cache
cache_of context = record { kinds = part kinds_at places context; tags = part tags_at places context; awaited = get_or context awaited_at 0 }

-- the kind and the tag of place k
abbrev pub kind_in : Cache → (k : ℕ) → ℕ
kind_in c k = get_or c.kinds k 0

abbrev pub tag_in : Cache → (k : ℕ) → ℕ
tag_in c k = get_or c.tags k 0

-- a kind is one of those sought: "Waiting and unsure places count as held", so that all but the empty ones are occupied; and a place of
-- any such kind may have the tag
abbrev pub kind_is : Sought → (kind tag : ℕ) → Bool
kind_is Empty kind tag = eqb kind empty
kind_is Occupied kind tag = not (eqb kind empty)
kind_is Waiting kind tag = eqb kind waiting
kind_is Unsure kind tag = ltb waiting kind
kind_is (Tag sought) kind tag = not (eqb kind empty) && eqb tag sought

-- place k is one of those sought
unfoldable pub is_at : Cache → Sought → (k : ℕ) → Bool
is_at c sought k = kind_is sought (kind_in c k) (tag_in c k)

-- the lowest place of those sought, 16 where there is none
abbrev pub lowest_place : Cache → Sought → ℕ
lowest_place c sought = first_below (is_at c sought) places

-- there is a place of those sought
abbrev pub has_place : Cache → Sought → Bool
has_place c sought = ltb (lowest_place c sought) places

-- a reply is awaited
abbrev pub awaits : Cache → Bool
awaits c = not (eqb c.awaited no_reply)

-- what refusal 17 asks: "a reply is awaited or a place waits"
abbrev pub busy : Cache → Bool
busy c = awaits c || has_place c Waiting

-- "all places empty, no reply awaited"
pub record AtRest (c : Cache) : Type 0 where
  pub all_empty : has_place c Occupied ≡ false
  pub none_awaited : awaits c ≡ false

-- a place by its kind, with its tag
abbrev pub place_by : (kind tag : ℕ) → Place
place_by kind tag =
    cond (eqb kind empty) EmptyPlace
    (cond (eqb kind held) (HeldPlace tag)
    (cond (eqb kind waiting) (WaitingPlace tag) (UnsurePlace tag)))

-- place k; past the last one it is empty
abbrev pub place_at : Cache → (k : ℕ) → Place
place_at c k = cond (ltb k places) (place_by (kind_in c k) (tag_in c k)) EmptyPlace

-- ---- the context, as orders and replies leave it

-- the words of the cache, the awaited reply last; what else the block keeps lies behind them
abbrev pub cache_words : ℕ
cache_words = awaited_at + 1

-- with place k of this kind and tag; there is no place past 15
unfoldable pub placed : (k kind tag : ℕ) (context : List ℕ) → List ℕ
placed k kind tag context = cond (ltb k places) (set (set context (kinds_at + k) kind) (tags_at + k) tag) context

-- the tag that a place keeps when it becomes of this kind: an emptied place keeps none
abbrev pub kept_tag : (kind tag : ℕ) → ℕ
kept_tag kind tag = cond (eqb kind empty) 0 tag

-- with place k of this kind, if it is one of those sought
abbrev pub turned_at : Sought → (kind k : ℕ) (context : List ℕ) → List ℕ
turned_at sought kind k context = cond (is_at (cache_of context) sought k) (placed k kind (kept_tag kind (tag_in (cache_of context) k)) context) context

-- and so each of the first n places
unfoldable pub turned_below : Sought → (kind n : ℕ) (context : List ℕ) → List ℕ
turned_below sought kind zero context = context
turned_below sought kind (suc n) context = turned_at sought kind n (turned_below sought kind n context)

-- with this reply awaited
abbrev pub awaiting : (reply : ℕ) (context : List ℕ) → List ℕ
awaiting reply context = set context awaited_at reply

-- "A load's place waits"; "The place of an unload .. waits until the reply": place k waits with the tag, and this reply is awaited
abbrev pub waiting_at : (k tag reply : ℕ) (context : List ℕ) → List ℕ
waiting_at k tag reply context = awaiting reply (placed k waiting tag context)

-- "and every held or unsure place under a clear, waits until the reply": every occupied one, since a waiting one waits already
abbrev pub clearing : (context : List ℕ) → List ℕ
clearing context = awaiting clear_reply (turned_below Occupied waiting places context)

-- a reply makes every waiting place one of this kind, and none is awaited afterwards; which kind is `reply` `kind_after`
abbrev pub settled : (kind : ℕ) (context : List ℕ) → List ℕ
settled kind context = awaiting no_reply (turned_below Waiting kind places context)

-- "A cut or restart empties all places and drops an awaited reply"
unfoldable pub emptied : (context : List ℕ) → List ℕ
emptied context = replicate cache_words 0 ++ drop cache_words context
