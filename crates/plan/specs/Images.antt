-- The image of a plan, as the code writes it piece after piece. Assumes nothing.
-- The theorems stand in proofs/Images.antt.
use Rattle.std.specs.Prelude.{ℕ, ◌+◌, ◌≡◌, Bool, true, false, ◌||◌, not, length, get_or, ltb, Result, Ok, Err, ⊤}
use mathlib.Core.List.{List}
use Rattle.laws.specs.Put.{Put}
use Rattle.laws.specs.Below.{all_below}
use Rattle.refusal.specs.declared.Refusal.{Refusal}
use Rattle.refusal.specs.declared.Refusal.TheVariants.{BadMap}
use Rattle.map.specs.declared.Entry.{Entry}
use Rattle.plan.specs.Form.{Plan, entry_in}
use Rattle.plan.specs.Writing.{image_of, room_for}

-- a kind and flags that their bytes hold
unfoldable pub fits_at : (p : Plan) (i : ℕ) → Bool
fits_at p i = not (ltb 255 (entry_in p i).kind || ltb 255 (entry_in p i).flags)

-- the image was written, which it is where all of them fit; else that is no map
abbrev pub Imaged : (p : Plan) (before after : List ℕ) (r : Result ⊤ Refusal) → Type 0
Imaged p before after (Ok done) = (all_below (fits_at p) (length p.entries) ≡ true) × Put 0 (image_of p) before after (room_for p)
Imaged p before after (Err r) = (all_below (fits_at p) (length p.entries) ≡ false) × (r ≡ BadMap)

-- the numbers that the code has kept, as a plan

-- four numbers from `at` on
abbrev pub four : (numbers : List ℕ) (at : ℕ) → Entry
four numbers at = record { first = get_or numbers at 0; n = get_or numbers (at + 1) 0; kind = get_or numbers (at + 2) 0; flags = get_or numbers (at + 3) 0 }
