-- A text is read to its end exactly when it has the form, and then it says what was read. Assumes nothing.
-- The theorems stand in proofs/Laws.antt and proofs/ReadDecimal.antt.
use Rattle.std.specs.Prelude.{ℕ, suc}
use mathlib.Core.List.{List, [], ◌∷◌, ◌++◌}
use Rattle.text.specs.Text.{decimal}
use Rattle.plan.specs.Reading.{after}

-- ---- the text of numbers, the byte behind each by its place

abbrev pub flat : (k : ℕ) (numbers : List ℕ) → List ℕ
flat k [] = []
flat k (v ∷ vs) = decimal v ++ (after k ∷ flat (suc k) vs)
