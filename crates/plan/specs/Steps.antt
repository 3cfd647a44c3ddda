-- How the code reads a text: number after number, each with the byte behind it. It keeps how many they are, and as many of them as a map
-- can have. Assumes nothing.
-- The theorems stand in proofs/Steps.antt.
use Rattle.std.specs.Prelude.{ℕ, ◌+◌, ◌-◌, ◌*◌, ◌≤◌, ◌≡◌, false, cond, ◌&&◌, length, take, set, leb, ltb, Option, Some, None}
use Rattle.std.specs.Bool.{then_some}
use Rattle.std.proofs.Common.{Bor}
use mathlib.Core.List.{List, [], ◌∷◌, foldl}
use Rattle.plan.specs.Reading.{is_digit, Progress, between, within, broken, step, read_of, numbers_in, whole}

-- a value with one digit more
abbrev pub longer : (value c : ℕ) → Option ℕ
longer value c = then_some (ltb 0 value && leb (value * 10 + (c - 48)) 65535) (value * 10 + (c - 48))

-- what stands behind a number: no digit
abbrev pub Behind : (rest : List ℕ) → Type 0
Behind [] = Unit {0}
Behind (c ∷ rest) = is_digit c ≡ false

-- a number and the text behind it, whatever numbers have ended before; or no number, and the text has not the form
abbrev pub Numbered : (first : ℕ) (t : List ℕ) → Option (ℕ × Bor (List ℕ)) → Type 0
Numbered first t None = (ended : List ℕ) → foldl step (between ended) (first ∷ t) ≡ broken
Numbered first t (Some (v, rest)) =
    (length rest.now ≤ length t) × Behind rest.now × ((ended : List ℕ) → foldl step (between ended) (first ∷ t) ≡ foldl step (within ended v) rest.now)

-- number `count` is kept where there is a place for it
abbrev pub kept : (numbers : List ℕ) (count value : ℕ) → List ℕ
kept numbers count value = cond (ltb count 66) (set numbers count value) numbers

-- the numbers that have ended are kept, as many as there are places for
abbrev pub Keeps : Progress → (numbers : List ℕ) → Type 0
Keeps s numbers = take (length (numbers_in s)) numbers ≡ take 66 (numbers_in s)

-- so far so many numbers have ended, and are kept, and the rest is to be read
abbrev pub Stands : (t : List ℕ) (count : ℕ) (rest numbers : List ℕ) → Type 0
Stands t count rest numbers = (ended : List ℕ) × (count ≡ length ended) × (take count numbers ≡ take 66 ended) × (read_of t ≡ foldl step (between ended) rest)

-- what the code answers
abbrev pub reading_of : (t : List ℕ) → Option ℕ
reading_of t = then_some (whole (read_of t)) (length (numbers_in (read_of t)))
