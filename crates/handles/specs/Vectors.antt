-- Tables that are made and refused, and a rotation, by computation. Assumes nothing.
use Rattle.std.specs.Prelude.{ℕ, ◌≡◌, refl, List, [], ◌∷◌, ◌++◌, replicate, Ok, Err}
use Rattle.laws.specs.Below.{first_from}
use Rattle.refusal.specs.declared.Refusal.TheVariants.{BadLent}
use Rattle.context.specs.State.{outcome}
use Rattle.handles.specs.Handles.{table_of, is_held_at, lowest_with, rotated}
use Rattle.handles.specs.Making.{made, making_of}

-- a context with sevens in front of the table, and behind them the count, three entries and the greatest
abbrev with : (count first second third greatest : ℕ) → List ℕ
with count first second third greatest = replicate 33 7 ++ (count ∷ first ∷ second ∷ third ∷ greatest ∷ [])

-- one handle and three, the largest in the middle, where the words of no table had something in them
one : making_of (5 ∷ []) (2 ∷ []) (with 0 9 9 9 9) ≡ outcome (Ok tt) (with 1 0x2_0000_0005 0 0 5)
unfolding making_of table_of made
one = refl

three : making_of (5 ∷ 0xFFFF_FFFF ∷ 0 ∷ []) (2 ∷ 1 ∷ 0xFFFF_FFFF ∷ []) (with 0 9 9 9 9)
    ≡ outcome (Ok tt) (with 3 0x2_0000_0005 0x1_FFFF_FFFF 0xFFFF_FFFF_0000_0000 0xFFFF_FFFF)
unfolding making_of table_of made
three = refl

-- refused, and nothing changes: over a table, of no handle, of four, with an algorithm too few or too many, of a handle that stands twice
over_table : making_of (5 ∷ []) (2 ∷ []) (with 1 9 0 0 9) ≡ outcome (Err BadLent) (with 1 9 0 0 9)
unfolding making_of table_of made
over_table = refl

none : making_of [] [] (with 0 9 9 9 9) ≡ outcome (Err BadLent) (with 0 9 9 9 9)
unfolding making_of table_of made
none = refl

four : making_of (1 ∷ 2 ∷ 3 ∷ 4 ∷ []) (1 ∷ 1 ∷ 1 ∷ 1 ∷ []) (with 0 9 9 9 9) ≡ outcome (Err BadLent) (with 0 9 9 9 9)
unfolding making_of table_of made
four = refl

fewer : making_of (1 ∷ 2 ∷ []) (1 ∷ []) (with 0 9 9 9 9) ≡ outcome (Err BadLent) (with 0 9 9 9 9)
unfolding making_of table_of made
fewer = refl

more : making_of (1 ∷ []) (1 ∷ 1 ∷ []) (with 0 9 9 9 9) ≡ outcome (Err BadLent) (with 0 9 9 9 9)
unfolding making_of table_of made
more = refl

twice : making_of (1 ∷ 2 ∷ 1 ∷ []) (1 ∷ 1 ∷ 1 ∷ []) (with 0 9 9 9 9) ≡ outcome (Err BadLent) (with 0 9 9 9 9)
unfolding making_of table_of made
twice = refl

-- the lowest of two places with the handle 5, and none past the count; a rotation keeps the algorithm
lowest : lowest_with (table_of (with 3 1 0x2_0000_0005 5 8)) 5 ∷ lowest_with (table_of (with 1 1 5 5 8)) 5 ∷ [] ≡ 1 ∷ 3 ∷ []
unfolding table_of is_held_at first_from
lowest = refl

rotation : rotated 1 9 (with 3 1 0x2_0000_0005 5 8) ≡ with 3 1 0x2_0000_0009 5 9
unfolding rotated table_of
rotation = refl
