-- Decimal numbers, by computation, at each number of digits. Assumes nothing.
use Rattle.std.specs.Prelude.{◌≡◌, refl, [], ◌∷◌, map}
use Rattle.text.specs.Text.{text, decimal}

numbers :
    map decimal (0 ∷ 9 ∷ 10 ∷ 99 ∷ 100 ∷ 105 ∷ 999 ∷ 1000 ∷ 2048 ∷ 9999 ∷ [])
    ≡ text "0" ∷ text "9" ∷ text "10" ∷ text "99" ∷ text "100" ∷ text "105" ∷ text "999" ∷ text "1000" ∷ text "2048" ∷ text "9999" ∷ []
unfolding decimal
numbers = refl
