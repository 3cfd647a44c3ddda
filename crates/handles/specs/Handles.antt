-- Request P6: the table of transport handles, as it is read and as a rotation leaves it. Assumes nothing.
use Rattle.std.specs.Prelude.{ℕ, ◌+◌, ◌-◌, ◌*◌, ◌/◌, ◌%◌, ◌^◌, ◌≤◌, Bool, cond, ◌&&◌, List, map, eqb, ltb, leb, length, get_or, set, take}
use Rattle.laws.specs.Below.{first_below}
use Rattle.refusal.specs.Numbers.{number}
use Rattle.context.specs.Context.{count_at, entries_at, greatest_at, part}

-- ---- the table, as it is read

-- "The table holds 1 to 3 handles"
abbrev pub most : ℕ
most = 3

abbrev pub count_good : (count : ℕ) → Bool
count_good count = ltb 0 count && leb count most

-- a handle and its algorithm in one word, each 32 bits of it: so no word, whatever is in it, is cut off in a response
abbrev pub entry_of : (handle algorithm : ℕ) → ℕ
entry_of handle algorithm = handle + 2 ^ 32 * algorithm

abbrev pub handle_of : (entry : ℕ) → ℕ
handle_of entry = entry % 2 ^ 32

abbrev pub algorithm_of : (entry : ℕ) → ℕ
algorithm_of entry = entry / 2 ^ 32

-- how many handles there are, an entry for each, and "the greatest ever given, kept with the table"
pub record Table : Type 0 where
  pub count : ℕ
  pub entries : List ℕ
  pub greatest : ℕ

-- the words of the table are there, and what lies in front of it
abbrev pub Long : (context : List ℕ) → Type 0
Long context = greatest_at + 1 ≤ length context

-- the table of a context
unfoldable pub table_of : (context : List ℕ) → Table
table_of context = record { count = get_or context count_at 0; entries = part entries_at most context; greatest = get_or context greatest_at 0 }

-- a context has a table: "a table count outside 1 to 3 is refused"
abbrev pub has_table : Table → Bool
has_table t = count_good t.count

-- the handle and the algorithm of place k
abbrev pub handle_at : Table → (k : ℕ) → ℕ
handle_at t k = handle_of (get_or t.entries k 0)

abbrev pub algorithm_at : Table → (k : ℕ) → ℕ
algorithm_at t k = algorithm_of (get_or t.entries k 0)

-- all handles of the table, in the order of their places
abbrev pub handles_in : Table → List ℕ
handles_in t = map handle_of (take t.count t.entries)

-- place k is one of the table's, and has the handle
unfoldable pub is_held_at : Table → (handle k : ℕ) → Bool
is_held_at t handle k = ltb k t.count && eqb (handle_at t k) handle

-- "the lowest place with the handle is meant"; 3 where there is none
abbrev pub lowest_with : Table → (handle : ℕ) → ℕ
lowest_with t handle = first_below (is_held_at t handle) most

-- there is such a handle
abbrev pub has_handle : Table → (handle : ℕ) → Bool
has_handle t handle = ltb (lowest_with t handle) most

-- "numbers used up": the greatest is the last number of 32 bits, or no such number at all
abbrev pub last_number : ℕ
last_number = 2 ^ 32 - 1

abbrev pub used_up : Table → Bool
used_up t = leb last_number t.greatest

-- "the new number is one above the greatest ever given"
abbrev pub next_number : Table → ℕ
next_number t = t.greatest + 1

-- ---- the context, as a rotation leaves it

-- "rotation replaces one at its place, keeping the algorithm"; its number is the greatest then
unfoldable pub rotated : (k number : ℕ) (context : List ℕ) → List ℕ
rotated k number context = set (set context (entries_at + k) (entry_of number (algorithm_at (table_of context) k))) greatest_at number

-- there is no place past the last
abbrev pub rotated_at : (k number : ℕ) (context : List ℕ) → List ℕ
rotated_at k number context = cond (ltb k most) (rotated k number context) context
