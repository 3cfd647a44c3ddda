-- Text as bytes: an ASCII text by its characters' codes, and a number in decimal. Assumes nothing.
use Rattle.std.specs.Prelude.{ℕ, zero, suc, ◌+◌, ◌/◌, ◌%◌, cond, List, [], ◌∷◌, ◌++◌, ltb}
use Prim.Native.String.{String, [] as end, ◌∷◌ as ◌then◌}
use Prim.Native.Char.{code}

-- the characters' codes
abbrev pub text : String → List ℕ
text end = []
text (c then s) = code c ∷ text s

-- the last decimal digit of v
abbrev pub digit : (v : ℕ) → ℕ
digit v = v % 10 + 48

-- the digits of v before its last, if there are any, then the last; no more than `most` digits
abbrev pub digits_of : (most v : ℕ) → List ℕ
digits_of zero v = []
digits_of (suc most) v = cond (ltb v 10) [] (digits_of most (v / 10)) ++ (digit v ∷ [])

-- v in decimal, without leading zeros; v has at most v + 1 digits
unfoldable pub decimal : (v : ℕ) → List ℕ
decimal v = digits_of (suc v) v

-- ---- how it is made, below 10,000: four digits, of which the leading zeros are left out

abbrev pub four : (v : ℕ) → List ℕ
four v = digit (v / 1000) ∷ digit (v / 100) ∷ digit (v / 10) ∷ digit v ∷ []

abbrev pub zeros : (v : ℕ) → ℕ
zeros v = cond (ltb v 10) 3 (cond (ltb v 100) 2 (cond (ltb v 1000) 1 0))
