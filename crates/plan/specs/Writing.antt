-- Document 02, request P2, "Write the map": the image that a text becomes, and the refusals. Assumes nothing.
use Rattle.std.specs.Prelude.{ℕ, ◌+◌, ◌*◌, Bool, not, length, drop, ltb, Result, Ok, Err}
use mathlib.Core.List.{List, [], ◌∷◌, ◌++◌, flat_map}
use Rattle.refusal.specs.Refusals.{first_of}
use Rattle.refusal.specs.declared.Refusal.{Refusal}
use Rattle.refusal.specs.declared.Refusal.TheVariants.{BadMap, BadText}
use Rattle.context.specs.State.{Outcome, outcome, refusing}
use Rattle.map.specs.Map.{map_good}
use Rattle.map.specs.Image.{entry, image}
use Rattle.map.specs.declared.Entry.{Entry}
use Rattle.plan.specs.Form.{Plan}
use Rattle.plan.specs.Reading.{has_form, plan_of}

abbrev pub entry_bytes : Entry → List ℕ
entry_bytes x = entry x.first x.n x.kind x.flags

-- "an image with E = 8". A number stands in its place whole, a kind of 300 too: no byte holds it, and the map's rules find it
unfoldable pub image_of : Plan → List ℕ
image_of p = image (length p.entries) p.cells p.bound 8 [] (flat_map entry_bytes p.entries)

-- "8 bytes and 8 more per partition line"
abbrev pub room_for : Plan → ℕ
room_for p = 8 + 8 * length p.entries

-- "Refusals, in this order: 16 text not of that form or output buffer too short, 1 the map would break a rule"
abbrev pub writing_tests : (t : List ℕ) (room : ℕ) → List (Bool × Refusal)
writing_tests t room =
    (not (has_form t), BadText)
    ∷ (ltb room (room_for (plan_of t)), BadText)
    ∷ (not (map_good (image_of (plan_of t))), BadMap)
    ∷ []

-- an image in the front of the lent buffer, and past it what was there
abbrev pub in_front : (image before : List ℕ) → Outcome (Result ℕ Refusal) (List ℕ)
in_front image before = outcome (Ok (length image)) (image ++ drop (length image) before)

-- what is answered, and the lent buffer afterwards
unfoldable pub writing_of : (t before : List ℕ) → Outcome (Result ℕ Refusal) (List ℕ)
writing_of t before = first_of (refusing Err before) (writing_tests t (length before)) (in_front (image_of (plan_of t)) before)
