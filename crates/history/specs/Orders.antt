-- Request P5, over every list of calls, replies, cuts and restarts from an empty context: the orders that were given, what became of them,
-- and what then holds of the places. The theorem is in `OrdersProof`; that places are not empty only while the HEK is available is in
-- `HeldKeys`, and that no state locks the block is in `Recovery`. Assumes nothing.
use Rattle.std.specs.Prelude.{ℕ, ◌+◌, ◌≤◌, ◌<◌, ◌≡◌, ◌↔◌, Bool, true, false, cond, ◌&&◌, List, [], ◌∷◌, map, eqb, Ok, Err}
use Rattle.laws.specs.Below.{tally}
use Rattle.context.specs.State.{State}
use Rattle.cache.specs.Cache.{cache_of, places, tag_in, is_at, place_at, awaits, AtRest}
use Rattle.cache.specs.declared.Sought.TheVariants.{Occupied}
use Rattle.cache.specs.declared.Place.TheVariants.{Waiting, Held}
use Rattle.cache.specs.After.{Long}
use Rattle.engine.specs.declared.Order.{Order}
use Rattle.engine.specs.declared.Order.TheVariants.{Nothing, Clear, Load, Unload}
use Rattle.engine.specs.declared.EngineReply.{EngineReply}
use Rattle.engine.specs.declared.EngineReply.TheVariants.{Done, TimedOut, Failed}
use Rattle.erasure.specs.Erasure.{is_cut}
use Rattle.mailbox.specs.Mailbox.{loads}
use Rattle.history.specs.Calls.{Call, Direct, Erase, EraseCut, Mailbox, TakeReply, MakeTable, Restart, Told, Answering, Erasing, Replying, Taking, Making, Silent}
use Rattle.history.specs.Calls.{order_in, told, after}

-- ---- the orders

-- what became of an order: its reply is awaited, it was answered, or its reply was dropped
pub data Fate : Type 0 where
  Open : Fate
  Answered : EngineReply → Fate
  Dropped : Fate

pub record Given : Type 0 where
  pub order : Order
  pub fate : Fate

abbrev pub given : Order → Fate → Given
given order fate = record { order = order; fate = fate }

-- an order is open from the call that gives it
abbrev pub opened : Order → List Given → List Given
opened Nothing orders = orders
opened (Clear timeout) orders = given (Clear timeout) Open ∷ orders
opened (Load place timeout) orders = given (Load place timeout) Open ∷ orders
opened (Unload place timeout) orders = given (Unload place timeout) Open ∷ orders

-- what is open is closed
abbrev pub fate_by : (now : Fate) → Fate → Fate
fate_by now Open = now
fate_by now (Answered reply) = Answered reply
fate_by now Dropped = Dropped

abbrev pub closed : (now : Fate) → List Given → List Given
closed now orders = map (λ (g : Given). given g.order (fate_by now g.fate)) orders

-- what a call told: the order that it gives, that a reply was taken, that the power failed
abbrev pub order_told : Told → Order
order_told (Answering answer) = Nothing
order_told (Erasing answer) = Nothing
order_told (Replying reply response) = order_in reply
order_told (Taking answer) = Nothing
order_told (Making answer) = Nothing
order_told Silent = Nothing

abbrev pub taken_told : Told → Bool
taken_told (Answering answer) = false
taken_told (Erasing answer) = false
taken_told (Replying reply response) = false
taken_told (Taking (Ok done)) = true
taken_told (Taking (Err r)) = false
taken_told (Making answer) = false
taken_told Silent = false

abbrev pub cut_told : Told → Bool
cut_told (Answering answer) = false
cut_told (Erasing answer) = is_cut answer
cut_told (Replying reply response) = false
cut_told (Taking answer) = false
cut_told (Making answer) = false
cut_told Silent = false

-- the orders after a call, the last first
abbrev pub orders_after : Call → Told → List Given → List Given
orders_after (Direct command) t orders = orders
orders_after (Erase i) t orders = orders
orders_after (EraseCut i k mask) t orders = cond (cut_told t) (closed Dropped orders) orders
orders_after (Mailbox code request response block) t orders = opened (order_told t) orders
orders_after (TakeReply reply) t orders = cond (taken_told t) (closed (Answered reply) orders) orders
orders_after (MakeTable handles algorithms) t orders = orders
orders_after Restart t orders = closed Dropped orders

-- and after a list of calls
abbrev pub orders_all : (image marks : List ℕ) → List Call → State → List Given → List Given
orders_all image marks [] s orders = orders
orders_all image marks (call ∷ calls) s orders = orders_all image marks calls (after image marks call s) (orders_after call (told image marks call s) orders)

-- ---- what is said of them

-- an order that is open, one that was answered done
abbrev pub is_open : Fate → Bool
is_open Open = true
is_open (Answered reply) = false
is_open Dropped = false

abbrev pub is_done : Fate → Bool
is_done Open = false
is_done (Answered Done) = true
is_done (Answered TimedOut) = false
is_done (Answered (Failed vendor)) = false
is_done Dropped = false

-- how many are open
abbrev pub open_in : List Given → ℕ
open_in [] = 0
open_in (g ∷ orders) = tally (is_open g.fate) + open_in orders

-- a load and an unload name their place, a clear every place
abbrev pub names : Order → (k : ℕ) → Bool
names Nothing k = false
names (Clear timeout) k = true
names (Load place timeout) k = eqb place k
names (Unload place timeout) k = eqb place k

-- the last order that named it was a load, answered done
abbrev pub last_load_done : List Given → (k : ℕ) → Bool
last_load_done [] k = false
last_load_done (g ∷ orders) k = cond (names g.order k) (loads g.order && is_done g.fate) (last_load_done orders k)

-- ---- the claim

-- an empty context: all places are empty and no reply is awaited. It has the words of the cache, the first 33, as every lent context has,
-- which is an array of 38; of a shorter list the claim below would be false, since what is stored past its end is lost. A table is not asked
-- for (request P6): without one every mailbox command is refused, and the claim holds too
pub record EmptyContext (context : List ℕ) : Type 0 where
  pub at_rest : AtRest (cache_of context)
  pub long : Long context

-- of the state now, after these orders
pub record Orderly (image marks : List ℕ) (orders : List Given) (now : State) : Type 0 where
  -- a place is held only where the last order that named it was a load, answered done
  pub held_by_load : (k tag : ℕ) → place_at (cache_of now.context) k ≡ Held tag → last_load_done orders k ≡ true
  -- a place waits only while a reply is awaited
  pub waits_awaited : (k tag : ℕ) → place_at (cache_of now.context) k ≡ Waiting tag → awaits (cache_of now.context) ≡ true
  -- at most one order is open, and one is exactly while a reply is awaited
  pub one_open : open_in orders ≤ 1
  pub open_awaited : (open_in orders ≡ 1) ↔ (awaits (cache_of now.context) ≡ true)
  -- no tag stands in two places
  pub tags_apart : (j k : ℕ) → j < places → k < places → is_at (cache_of now.context) Occupied j ≡ true → is_at (cache_of now.context) Occupied k ≡ true
      → tag_in (cache_of now.context) j ≡ tag_in (cache_of now.context) k → j ≡ k
  -- after done to a clear every place is empty, and no reply is awaited
  pub clear_done : (timeout : ℕ) (before : List Given) → orders ≡ given (Clear timeout) Open ∷ before
      → AtRest (cache_of (after image marks (TakeReply Done) now).context)
