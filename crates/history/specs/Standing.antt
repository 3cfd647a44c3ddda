-- Request P5, what the proof of `Orders` keeps from call to call (`Sound`), and that each order, a cut and a restart keep it; a reply is in
-- `Settled`. Assumes nothing.
-- The theorems stand in proofs/Standing.antt.
use Rattle.std.specs.Prelude.{ℕ, ◌<◌, ◌≡◌, true, List, ◌∷◌}
use Rattle.cache.specs.Cache.{cache_of, places, empty, held, waiting, no_reply, clear_reply, load_reply, unload_reply, kind_in, tag_in}
use Rattle.cache.specs.After.{Long}
use Rattle.engine.specs.declared.Order.{Order}
use Rattle.engine.specs.declared.Order.TheVariants.{Nothing, Clear, Load, Unload}
use Rattle.history.specs.Orders.{Open, Given, given, open_in, last_load_done}

-- ---- what is kept

-- the reply that an order awaits
abbrev pub reply_to : Order → ℕ
reply_to Nothing = no_reply
reply_to (Clear timeout) = clear_reply
reply_to (Load place timeout) = load_reply
reply_to (Unload place timeout) = unload_reply

-- the places that wait for it: the one of a load or an unload alone, under a clear every one that is not empty
abbrev pub Waits : Order → (context : List ℕ) → Type 0
Waits Nothing context = ⊥
Waits (Clear timeout) context = (k : ℕ) → k < places → (kind_in (cache_of context) k ≡ empty → ⊥) → kind_in (cache_of context) k ≡ waiting
Waits (Load place timeout) context = (k : ℕ) → k < places → kind_in (cache_of context) k ≡ waiting → k ≡ place
Waits (Unload place timeout) context = (k : ℕ) → k < places → kind_in (cache_of context) k ≡ waiting → k ≡ place

abbrev pub NoneWaits : (context : List ℕ) → Type 0
NoneWaits context = (k : ℕ) → k < places → kind_in (cache_of context) k ≡ waiting → ⊥

-- no order is open and no reply awaited, or the last order is open, alone, and its reply awaited
pub data Standing (context : List ℕ) : List Given → Type 0 where
  idle : {orders : List Given} → (cache_of context).awaited ≡ no_reply → NoneWaits context → open_in orders ≡ 0 → Standing context orders
  awaited : (order : Order) (before : List Given) → (cache_of context).awaited ≡ reply_to order → Waits order context → open_in before ≡ 0
      → Standing context (given order Open ∷ before)

-- no tag stands in two places
abbrev pub Apart : (context : List ℕ) → Type 0
Apart context = (j k : ℕ) → j < places → k < places → (kind_in (cache_of context) j ≡ empty → ⊥) → (kind_in (cache_of context) k ≡ empty → ⊥)
    → tag_in (cache_of context) j ≡ tag_in (cache_of context) k → j ≡ k

pub record Sound (orders : List Given) (context : List ℕ) : Type 0 where
  pub long : Long context
  pub apart : Apart context
  pub held_by : (k : ℕ) → k < places → kind_in (cache_of context) k ≡ held → last_load_done orders k ≡ true
  pub standing : Standing context orders
