-- Document 02, request P2, "Write the map", as one claim in the request's words: what is answered and written for every text and every
-- buffer. Here is the claim. Assumes nothing.
-- The theorems stand in proofs/Exactly.antt.
use Rattle.std.specs.Prelude.{ℕ, ◌≤◌, ◌<◌, ◌≡◌, ◌⊎◌, ◌↔◌, List, length, take, drop, Ok, Err}
use Rattle.refusal.specs.declared.Refusal.{Refusal}
use Rattle.refusal.specs.declared.Refusal.TheVariants.{BadMap, BadText}
use Rattle.map.specs.Map.{header_of}
use Rattle.plan.specs.Form.{Plan, Form}
use Rattle.plan.specs.Writing.{room_for, writing_of}
use Rattle.plan.specs.Valid.{Valid}

-- ---- the claim

-- "some valid map has those fields": there is an image that breaks no rule and has them
abbrev pub SomeMap : (p : Plan) → Type 0
SomeMap p = (image : List ℕ) × Valid image p

-- "where the text has that form and the buffer holds 8 bytes and 8 more per partition line"
abbrev pub Ready : (t before : List ℕ) (p : Plan) → Type 0
Ready t before p = Form t p × (room_for p ≤ length before)

-- "16 text not of that form or output buffer too short"
abbrev pub Sixteen : (t before : List ℕ) → Type 0
Sixteen t before = ((p : Plan) → Form t p → ⊥) ⊎ ((p : Plan) × Form t p × (length before < room_for p))

-- "1 the map would break a rule"
abbrev pub One : (t before : List ℕ) → Type 0
One t before = (p : Plan) × Ready t before p × (SomeMap p → ⊥)

-- what an accepted call leaves: a valid map with the text's fields, "with E = 8", and nothing past it has changed
pub record Image (p : Plan) (before after : List ℕ) (n : ℕ) : Type 0 where
  -- as long as is answered, 8 bytes and 8 more per partition line
  pub size : n ≡ room_for p
  pub valid : Valid (take n after) p
  pub offset : (header_of (take n after)).offset ≡ 8
  -- past it every byte is as it was, and the buffer as long
  pub past : drop n after ≡ drop n before
  pub same : length after ≡ length before

pub record Claim (t before : List ℕ) : Type 0 where
  -- a text says one thing, and nothing else says it
  pub one_plan : (p q : Plan) → Form t p → Form t q → p ≡ q
  pub one_text : (u : List ℕ) (p : Plan) → Form t p → Form u p → t ≡ u
  -- "an image is written exactly when some valid map has those fields"
  pub exactly : (p : Plan) → Ready t before p → ((n : ℕ) × ((writing_of t before).told ≡ Ok n)) ↔ SomeMap p
  -- "Refusals, in this order"
  pub refused : (r : Refusal) → ((writing_of t before).told ≡ Err r) ↔ (((r ≡ BadText) × Sixteen t before) ⊎ ((r ≡ BadMap) × One t before))
  -- "The text becomes an image with E = 8, reading that image gives the same fields"; "nor any call past the image"
  pub written : (n : ℕ) → (writing_of t before).told ≡ Ok n → (p : Plan) × Form t p × Image p before (writing_of t before).after n
  -- "A refusal writes nothing"
  pub unchanged : (r : Refusal) → (writing_of t before).told ≡ Err r → (writing_of t before).after ≡ before
