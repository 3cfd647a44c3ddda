-- Document 01, "Burning and counting", with request P4, over a partition's cells, counted from where the partition starts. Assumes nothing.
use Rattle.std.specs.Prelude.{ℕ, ◌+◌, ◌-◌, ◌*◌, ◌/◌, ◌≡◌, Bool, cond, ◌&&◌, not, List, length, get_or, eqb, leb, ltb, Option, Some, None}
use Rattle.laws.specs.Below.{all_below, count_below, first_below}
use Rattle.fuse.specs.Fuse.{pair_of, ones_of, short}
use Rattle.partition.specs.declared.Shorts.{Shorts}
use Rattle.partition.specs.declared.ShortPair.{ShortPair}
use Rattle.partition.specs.declared.State.{State}
use Rattle.partition.specs.declared.State.TheVariants.{Erased, Torn, Blank, Programmed}
use Rattle.partition.specs.declared.Survey.{Survey}

-- how many pairs the cells form
abbrev pub pairs : (part : List ℕ) → ℕ
pairs part = length part / 2

-- "An even cell and the next form a pair": pair j
abbrev pub pair_at : (part : List ℕ) (j : ℕ) → ℕ
pair_at part j = pair_of (get_or part (2 * j) 0) (get_or part (2 * j + 1) 0)

-- "A pair is short when its number of ones is below B": pair j is
unfoldable pub short_at : (bound : ℕ) (part : List ℕ) (j : ℕ) → Bool
short_at bound part j = short bound (pair_at part j)

-- the number of short pairs
abbrev pub short_pairs : (bound : ℕ) (part : List ℕ) → ℕ
short_pairs bound part = count_below (short_at bound part) (pairs part)

-- the lowest short pair's number; the number of pairs where none is short
abbrev pub lowest_pair : (bound : ℕ) (part : List ℕ) → ℕ
lowest_pair bound part = first_below (short_at bound part) (pairs part)

-- the first cell of the lowest short pair, or none
unfoldable pub lowest_short : (bound : ℕ) (part : List ℕ) → Option ℕ
lowest_short bound part = cond (ltb (lowest_pair bound part) (pairs part)) (Some (2 * lowest_pair bound part)) None

-- how many pairs are short, and the lowest of them
abbrev pub shorts_of : (bound : ℕ) (part : List ℕ) → Shorts
shorts_of bound part = record { count = short_pairs bound part; lowest = lowest_short bound part }

-- the number of the indicator of a zeroizable partition: it "ends with the indicator pair"
abbrev pub indicator : (part : List ℕ) → ℕ
indicator part = pairs part - 1

-- "A partition is counted as zeroized when it is zeroizable and its indicator is not short"
unfoldable pub counted : (zeroizable : Bool) (bound : ℕ) (part : List ℕ) → Bool
counted zeroizable bound part = zeroizable && leb 1 (pairs part) && not (short_at bound part (indicator part))

-- request P4: "Call a zeroizable partition marked when its indicator has at least one set fuse", so that the pair is not zero
unfoldable pub marked : (zeroizable : Bool) (part : List ℕ) → Bool
marked zeroizable part = zeroizable && leb 1 (pairs part) && not (eqb (pair_at part (indicator part)) 0)

-- "A zeroizable partition ends with the indicator pair, before it the digest pair; any other ends with the digest pair": the cells
-- from the digest on
abbrev pub tail : (zeroizable : Bool) → ℕ
tail zeroizable = cond zeroizable 4 2

-- "The remaining cells are data"
abbrev pub data_cells : (zeroizable : Bool) (part : List ℕ) → ℕ
data_cells zeroizable part = length part - tail zeroizable

-- cell k is zero
unfoldable pub zero_cell : (part : List ℕ) (k : ℕ) → Bool
zero_cell part k = eqb (get_or part k 0) 0

-- "every data cell zero"
abbrev pub no_data : (zeroizable : Bool) (part : List ℕ) → Bool
no_data zeroizable part = all_below (zero_cell part) (data_cells zeroizable part)

-- how many pairs are short "besides the indicator" (P4): of those before it
abbrev pub short_besides : (bound : ℕ) (part : List ℕ) → ℕ
short_besides bound part = count_below (short_at bound part) (indicator part)

-- the lowest of them; the indicator's number where none is short
abbrev pub lowest_besides : (bound : ℕ) (part : List ℕ) → ℕ
lowest_besides bound part = first_below (short_at bound part) (indicator part)

-- "Its state is one of four", as request P4 has them
unfoldable pub state_of : (zeroizable : Bool) (bound : ℕ) (part : List ℕ) → State
state_of zeroizable bound part =
    cond (marked zeroizable part)
    -- "Erased now means marked with no short pair besides the indicator; torn means marked otherwise"
    (cond (eqb (short_besides bound part) 0) Erased Torn)
    -- "blank and programmed mean not marked": "every data cell zero", "some data fuse set"
    (cond (no_data zeroizable part) Blank Programmed)

-- a partition's state and short pairs together
abbrev pub survey_of : (zeroizable : Bool) (bound : ℕ) (part : List ℕ) → Survey
survey_of zeroizable bound part = record { state = state_of zeroizable bound part; short = short_pairs bound part }

-- ---- request P1, "torn also with its first short pair and that pair's ones"

-- some pair besides the indicator is short
abbrev pub SomeBesides : (bound : ℕ) (part : List ℕ) → Type 0
SomeBesides bound part = short_besides bound part ≡ 0 → ⊥

-- a torn partition's first short pair, by its first cell, counted from where the partition starts; "P1 passes over the indicator when it
-- names a short pair" (P4)
abbrev pub torn_pair : (bound : ℕ) (part : List ℕ) → ShortPair
torn_pair bound part =
    let first : ℕ = lowest_besides bound part in
    record { cell = 2 * first; ones = ones_of (pair_at part first) }
