-- The table's laws: a table as the code reads it, a rotation, a fresh table that is made, and what each leaves. Assumes nothing.
use Rattle.std.specs.Prelude.{◌||◌, not, Bool, ℕ, ◌+◌, ◌^◌, ◌≤◌, ◌<◌, ◌≡◌, max, true, false, ◌&&◌, eqb, ltb, length, get_or, set, Result, Ok, Err, ⊤}
use Rattle.std.proofs.Math.Path.{refl, sym}
use Rattle.std.proofs.Common.{ap, subst, inl, inr, arith, lt-ltb, le-ltb, ltb-true, ltb-false, eqb-true, leb-true, leb-false, eq-eqb, ne_eqb}
use mathlib.Core.List.{List, [], ◌∷◌, ◌++◌}
use Rattle.std.proofs.lemmas.Bool.{not-false}
use Rattle.laws.specs.Tests.{and, cond_keeps}
use Rattle.laws.proofs.Below.{first_tells, first_least}
use Rattle.refusal.specs.Refusals.{test_at, refusal_at, Past, refused_at, past_all, first_elim, Applies, judged, judged_refuses, judged_passes}
use Rattle.refusal.specs.declared.Refusal.{Refusal}
use Rattle.refusal.specs.declared.Refusal.TheVariants.{BadLent}
use Rattle.refusal.specs.Numbers.{number}
use Rattle.context.specs.Context.{count_at, entries_at, greatest_at}
use Rattle.context.specs.Laws.{part_at}
use Rattle.context.specs.State.{Outcome, outcome, refusing}
use Rattle.handles.specs.Handles.{most, count_good, entry_of, handle_of, algorithm_of, Table, table_of, handle_at}
use Rattle.handles.specs.Handles.{algorithm_at, is_held_at, lowest_with, has_handle, last_number, used_up, rotated, rotated_at}
use Rattle.handles.specs.Making.{distinct, greater, largest, made, making_tests, making_of}

-- ---- the table, at the words that were read

module _ (context : List ℕ) where
  pub count_read : get_or context count_at 0 ≡ (table_of context).count
  unfolding table_of
  count_read = refl

  pub greatest_read : get_or context greatest_at 0 ≡ (table_of context).greatest
  unfolding table_of
  greatest_read = refl

  pub entry_read : (k : ℕ) → k < most → get_or context (entries_at + k) 0 ≡ get_or (table_of context).entries k 0
  unfolding table_of
  entry_read k l = sym (part_at entries_at most context k l)

  pub handle_read : (k : ℕ) → k < most → handle_of (get_or context (entries_at + k) 0) ≡ handle_at (table_of context) k
  handle_read k l = ap handle_of (entry_read k l)

  pub algorithm_read : (k : ℕ) → k < most → algorithm_of (get_or context (entries_at + k) 0) ≡ algorithm_at (table_of context) k
  algorithm_read k l = ap algorithm_of (entry_read k l)

  pub holds_read : (handle k : ℕ) {is : ℕ} → is ≡ handle_at (table_of context) k → (ltb k (get_or context count_at 0) && eqb is handle) ≡ is_held_at (table_of context) handle k
  unfolding is_held_at
  holds_read handle k e = rw (e, count_read)

-- a table has at most three handles, and where a number is left, the one above the greatest has 32 bits
pub good_most : (count : ℕ) → count_good count ≡ true → count ≤ most
good_most count h = leb-true _ _ (and (ltb 0 count) _ h).1

pub next_fits : (t : Table) → used_up t ≡ false → t.greatest + 1 < 2 ^ 32
next_fits t o = omega (arith, leb-false last_number t.greatest o)

-- a handle that the table has: a place of the table has it, and no lower one
pub record Lowest (t : Table) (handle k : ℕ) : Type 0 where
  pub within : k < most
  pub counted : k < t.count
  pub has : handle_at t k ≡ handle
  pub no_lower : (j : ℕ) → j < k → handle_at t j ≡ handle → ⊥

pub lowest_tells : (t : Table) (handle : ℕ) → has_handle t handle ≡ true → Lowest t handle (lowest_with t handle)
unfolding is_held_at
lowest_tells t handle h =
    let k = lowest_with t handle in
    let within : k < most = ltb-true _ _ h in
    let holds = and (ltb k t.count) (eqb (handle_at t k) handle) ((first_tells (is_held_at t handle) 0 most).at (omega arith)) in
    let counted : k < t.count = ltb-true _ _ holds.0 in
    record {
      within = within;
      counted = counted;
      has = eqb-true _ _ holds.1;
      no_lower = λ j l e.
          let m = first_least (is_held_at t handle) most j (omega arith) (rw (lt-ltb j t.count (omega arith)) (eq-eqb _ _ e)) in omega arith;
    }

-- ---- a rotation

module _ (k number : ℕ) (context : List ℕ) where
  pub rotated_in : k < most → set (set context (entries_at + k) (entry_of number (algorithm_at (table_of context) k))) greatest_at number ≡ rotated_at k number context
  unfolding rotated
  rotated_in l = simp (lt-ltb _ _ l)

  pub rotated_past : most ≤ k → context ≡ rotated_at k number context
  rotated_past l = simp (le-ltb _ _ l)

-- ---- a table that is made

-- distinctness of at most three handles, test by test
pub distinct_one : (handles : List ℕ) → length handles < 2 → true ≡ distinct handles
distinct_one [] l = refl
distinct_one (a ∷ []) l = refl
distinct_one (a ∷ b ∷ rest) l = absurd (omega arith)

pub distinct_not : (handles : List ℕ) → 2 ≤ length handles → get_or handles 0 0 ≡ get_or handles 1 0 → false ≡ distinct handles
distinct_not [] l e = absurd (omega arith)
distinct_not (a ∷ []) l e = absurd (omega arith)
distinct_not (a ∷ b ∷ rest) l e = rw (eq-eqb a b e)

pub distinct_two : (handles : List ℕ) → 2 ≤ length handles → length handles < 3 → (get_or handles 0 0 ≡ get_or handles 1 0 → ⊥) → true ≡ distinct handles
distinct_two [] l m o = absurd (omega arith)
distinct_two (a ∷ []) l m o = absurd (omega arith)
distinct_two (a ∷ b ∷ []) l m o = rw (ne_eqb a b o)
distinct_two (a ∷ b ∷ c ∷ rest) l m o = absurd (omega arith)

pub distinct_three : (handles : List ℕ) → length handles ≡ 3 → (get_or handles 0 0 ≡ get_or handles 1 0 → ⊥)
    → (not (eqb (get_or handles 0 0) (get_or handles 2 0)) && not (eqb (get_or handles 1 0) (get_or handles 2 0))) ≡ distinct handles
distinct_three [] l o = absurd (omega arith)
distinct_three (a ∷ []) l o = absurd (omega arith)
distinct_three (a ∷ b ∷ []) l o = absurd (omega arith)
distinct_three (a ∷ b ∷ c ∷ []) l o = rw (ne_eqb a b o) (by (eqb a c) (eqb b c))
  where
    by : (x y : Bool) → (not x && not y) ≡ (not (x || false) && (not (y || false) && (true && true)))
    by true y = refl
    by false true = refl
    by false false = refl
distinct_three (a ∷ b ∷ c ∷ d ∷ rest) l o = absurd (omega arith)

-- nothing is greater than a number and 0, and so of at most three handles
greater_none : (n : ℕ) → greater n 0 ≡ n
greater_none n = simp (le-ltb n 0 (omega arith))

pub largest_three : (handles : List ℕ) → length handles ≤ 3 → greater (get_or handles 0 0) (greater (get_or handles 1 0) (get_or handles 2 0)) ≡ largest handles
largest_three [] l = refl
largest_three (a ∷ []) l = refl
largest_three (a ∷ b ∷ []) l = refl
largest_three (a ∷ b ∷ c ∷ []) l = ap (λ (n : ℕ). greater a (greater b n)) (sym (greater_none c))
largest_three (a ∷ b ∷ c ∷ d ∷ rest) l = absurd (omega arith)

-- the greater of two is the language's
pub greater_max : (n m : ℕ) → greater n m ≡ max n m
greater_max n m = cond_keeps (λ (x : ℕ). x ≡ max n m) (ltb n m) m n (λ y. omega (arith, ltb-true n m y)) (λ o. omega (arith, ltb-false n m o))

-- the refusal, by the place of the test that gives it, and the answer by the refusal
module _ (handles algorithms context : List ℕ) where
  abbrev tests : List (Bool × Refusal)
  tests = making_tests handles algorithms context

  abbrev taken : Outcome (Result ⊤ Refusal) (List ℕ)
  taken = outcome (Ok tt) (made handles algorithms context)

  pub making_at : (k : ℕ) → Past k tests → test_at tests k ≡ true → Err (refusal_at tests k) ≡ judged tests
  making_at k = refused_at Err (Ok tt) k tests

  pub making_past : Past 4 tests → Ok tt ≡ judged tests
  making_past = past_all Err (Ok tt) tests

  pub making_refused : (r : Refusal) → Err r ≡ judged tests → outcome (Err r) context ≡ making_of handles algorithms context
  unfolding making_of
  making_refused r e = sym (judged_refuses (refusing Err context) [] taken tests r e)

  pub making_made : Ok tt ≡ judged tests → taken ≡ making_of handles algorithms context
  unfolding making_of
  making_made z = sym (judged_passes (refusing Err context) [] taken tests z).is

  pub making_most : Ok tt ≡ judged tests → length handles ≤ most
  making_most z = good_most (length handles) (not-false _ ((judged_passes (refusing Err context) [] taken tests z).none 1))

-- what holds of its refusal, and of what it leaves where nothing refuses it, holds of a table that is to be made
pub making_elim : (handles algorithms context : List ℕ) (P : Outcome (Result ⊤ Refusal) (List ℕ) → Type 0) → P (outcome (Err BadLent) context)
    → (((k : ℕ) → test_at (making_tests handles algorithms context) k ≡ false) → P (outcome (Ok tt) (made handles algorithms context)))
    → P (making_of handles algorithms context)
unfolding making_of
making_elim handles algorithms context P refused done =
    first_elim P (refusing Err context) (making_tests handles algorithms context) (outcome (Ok tt) (made handles algorithms context))
    (λ r a. subst (λ (r : Refusal). P (outcome (Err r) context)) (sym (two r a)) refused) done
  where
    two : (r : Refusal) → Applies r (making_tests handles algorithms context) → r ≡ BadLent
    two r (inl a) = a.1
    two r (inr (inl a)) = a.1
    two r (inr (inr (inl a))) = a.1
    two r (inr (inr (inr (inl a)))) = a.1
    two r (inr (inr (inr (inr a)))) = absurd a
