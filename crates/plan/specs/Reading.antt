-- How a map's text is read, byte after byte: whether it has the form of `Form`, and what it says. That it is read so exactly when it has
-- that form is proved in `Laws`. Assumes nothing.
use Rattle.std.specs.Prelude.{ℕ, zero, suc, ◌+◌, ◌-◌, ◌*◌, ◌/◌, ◌%◌, Bool, false, cond, ◌&&◌, length, get_or, drop, eqb, leb, ltb}
use mathlib.Core.List.{List, [], ◌∷◌, ◌++◌, foldl}
use Rattle.map.specs.declared.Entry.{Entry}
use Rattle.plan.specs.Form.{Plan}

abbrev pub is_digit : (c : ℕ) → Bool
is_digit c = leb 48 c && leb c 57

-- the byte behind number k, the first line's two counted: a line feed behind the last of each line, else a space
abbrev pub after : (k : ℕ) → ℕ
after k = cond (eqb (k % 4) 1) 10 32

-- how far a text has the form: up to the byte behind a number, or within a number that has this value so far; or it has it no more
pub data Progress : Type 0 where
  between : (numbers : List ℕ) → Progress
  within : (numbers : List ℕ) (value : ℕ) → Progress
  broken : Progress

-- a digit behind those of a value: not behind a leading zero, nor past 65,535
abbrev pub digit_more : (numbers : List ℕ) (value c : ℕ) → Progress
digit_more numbers value c =
    cond (ltb 0 value && leb (value * 10 + (c - 48)) 65535) (within numbers (value * 10 + (c - 48))) broken

-- the byte behind a number
abbrev pub number_ends : (numbers : List ℕ) (value c : ℕ) → Progress
number_ends numbers value c = cond (eqb c (after (length numbers))) (between (numbers ++ (value ∷ []))) broken

-- one byte more
abbrev pub step : Progress → (c : ℕ) → Progress
step (between numbers) c = cond (is_digit c) (within numbers (c - 48)) broken
step (within numbers value) c = cond (is_digit c) (digit_more numbers value c) (number_ends numbers value c)
step broken c = broken

unfoldable pub read_of : (t : List ℕ) → Progress
read_of t = foldl step (between []) t

-- the numbers that have ended
abbrev pub numbers_in : Progress → List ℕ
numbers_in (between numbers) = numbers
numbers_in (within numbers value) = numbers
numbers_in broken = []

-- whole lines: the first has two numbers, each other one four
abbrev pub whole : Progress → Bool
whole (between numbers) = eqb (length numbers % 4) 2
whole (within numbers value) = false
whole broken = false

-- so many partitions, four numbers each
abbrev pub entries_by : (count : ℕ) (numbers : List ℕ) → List Entry
entries_by zero numbers = []
entries_by (suc count) numbers =
    record { first = get_or numbers 0 0; n = get_or numbers 1 0; kind = get_or numbers 2 0; flags = get_or numbers 3 0 } ∷ entries_by count (drop 4 numbers)

-- C and B, then a partition for each four numbers
abbrev pub plan_by : (numbers : List ℕ) → Plan
plan_by numbers = record { cells = get_or numbers 0 0; bound = get_or numbers 1 0; entries = entries_by (length numbers / 4) (drop 2 numbers) }

-- the text has the form, and what it says
unfoldable pub has_form : (t : List ℕ) → Bool
has_form t = whole (read_of t)

unfoldable pub plan_of : (t : List ℕ) → Plan
plan_of t = plan_by (numbers_in (read_of t))
