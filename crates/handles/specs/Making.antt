-- Request P6: "A fresh table has distinct handles, and their largest as the greatest given", and how one is made. Assumes nothing.
use Rattle.std.specs.Prelude.{ℕ, ◌+◌, ◌≡◌, Bool, true, false, cond, not, ◌&&◌, ◌||◌, List, [], ◌∷◌, eqb, ltb, length, get_or, set, Result, Ok, Err, ⊤}
use Rattle.refusal.specs.Refusals.{first_of}
use Rattle.refusal.specs.declared.Refusal.{Refusal}
use Rattle.refusal.specs.declared.Refusal.TheVariants.{BadLent}
use Rattle.refusal.specs.Numbers.{number}
use Rattle.context.specs.Context.{count_at, entries_at, greatest_at}
use Rattle.context.specs.State.{Outcome, outcome, refusing}
use Rattle.handles.specs.Handles.{count_good, entry_of, Long, table_of, has_table, handles_in}

-- a number is one of these
abbrev pub is_among : (number : ℕ) (numbers : List ℕ) → Bool
is_among number [] = false
is_among number (n ∷ numbers) = eqb number n || is_among number numbers

-- no number stands twice
abbrev pub distinct : (numbers : List ℕ) → Bool
distinct [] = true
distinct (n ∷ numbers) = not (is_among n numbers) && distinct numbers

-- the greatest of them
abbrev pub greater : (n m : ℕ) → ℕ
greater n m = cond (ltb n m) m n

abbrev pub largest : (numbers : List ℕ) → ℕ
largest [] = 0
largest (n ∷ numbers) = greater n (largest numbers)

-- a fresh table, in a context that has the words of a table, as every lent one has
pub record Fresh (context : List ℕ) : Type 0 where
  pub long : Long context
  pub counted : has_table (table_of context) ≡ true
  pub apart : distinct (handles_in (table_of context)) ≡ true
  pub largest_given : (table_of context).greatest ≡ largest (handles_in (table_of context))

-- the entry of place k, 0 where there is none
abbrev pub entry_from : (handles algorithms : List ℕ) (k : ℕ) → ℕ
entry_from handles algorithms k = entry_of (get_or handles k 0) (get_or algorithms k 0)

-- the context with a fresh table
unfoldable pub made : (handles algorithms context : List ℕ) → List ℕ
made handles algorithms context =
    let counted : List ℕ = set context count_at (length handles) in
    let one : List ℕ = set counted entries_at (entry_from handles algorithms 0) in
    let two : List ℕ = set one (entries_at + 1) (entry_from handles algorithms 1) in
    let three : List ℕ = set two (entries_at + 2) (entry_from handles algorithms 2) in
    set three greatest_at (largest handles)

-- ours, in the words of the request's issue: made "in a context that has none (count 0), from one to three distinct handles with their
-- algorithms"; "anything else" is 2
abbrev pub making_tests : (handles algorithms context : List ℕ) → List (Bool × Refusal)
making_tests handles algorithms context =
    (not (eqb (table_of context).count 0), BadLent)
    ∷ (not (count_good (length handles)), BadLent)
    ∷ (not (eqb (length algorithms) (length handles)), BadLent)
    ∷ (not (distinct handles), BadLent)
    ∷ []

unfoldable pub making_of : (handles algorithms context : List ℕ) → Outcome (Result ⊤ Refusal) (List ℕ)
making_of handles algorithms context = first_of (refusing Err context) (making_tests handles algorithms context) (outcome (Ok tt) (made handles algorithms context))
