-- A fresh table: what among, distinct and largest say of a list of numbers, and that a table which is made is fresh, with the handles and
-- algorithms that were given. Assumes nothing.
use Rattle.std.specs.Prelude.{ℕ, zero, suc, ◌+◌, ◌^◌, ◌≤◌, ◌<◌, ◌≡◌, refl, true, false, not, List, [], ◌∷◌, map, eqb, ltb, length, get_or, take, set, Result, Ok, Err, ⊤}
use Rattle.std.proofs.Math.Path.{sym}
use Rattle.std.proofs.Common.{ap, ap₂, subst, ◌∙◌, ⊎_elim, arith, not-suc-le-zero, le_of_suc-le-suc, drop-cons, eqb-true, eq-eqb, lt-ltb, le-leb, ltb-true, ltb-false}
use Rattle.std.proofs.lemmas.Bool.{false≢true, not-false, not-true}
use Rattle.std.proofs.Math.Seq.{get_or-set_same, get_or-set_other}
use Rattle.laws.specs.Tests.{and, either, decided, not_yes, cond_keeps}
use Rattle.refusal.specs.Refusals.{test_at, Past}
use Rattle.refusal.specs.declared.Refusal.{Refusal}
use Rattle.refusal.specs.declared.Refusal.TheVariants.{BadLent}
use Rattle.refusal.specs.Numbers.{number}
use Rattle.context.specs.Context.{count_at, entries_at, greatest_at}
use Rattle.context.specs.State.{Outcome, outcome}
use Rattle.handles.specs.Handles.{most, count_good, handle_of, algorithm_of, Table, Long, table_of, handle_at, algorithm_at, handles_in}
use Rattle.handles.specs.Making.{is_among, distinct, greater, largest, Fresh, entry_from, made, making_tests, making_of}
use Rattle.handles.specs.Laws.{count_read, greatest_read, good_most, making_past, making_made, making_elim}
use Rattle.handles.specs.After.{store_long, entry_handle, entry_algorithm, made_keeps}

-- ---- numbers

-- what is among them stands somewhere, and what stands somewhere is among them
pub among_here : (number : ℕ) (numbers : List ℕ) → is_among number (number ∷ numbers) ≡ true
among_here number numbers = rw (eq-eqb number number refl)

pub among_after : (number n : ℕ) (numbers : List ℕ) → is_among n numbers ≡ true → is_among n (number ∷ numbers) ≡ true
among_after number n numbers a = either (eqb n number) _ a

pub among_at : (numbers : List ℕ) (k : ℕ) → k < length numbers → is_among (get_or numbers k 0) numbers ≡ true
among_at [] k l = absurd (not-suc-le-zero l)
among_at (n ∷ numbers) zero l = among_here n numbers
among_at (n ∷ numbers) (suc k) l = either (eqb (get_or numbers k 0) n) _ (among_at numbers k (le_of_suc-le-suc l))

pub among_tells : (number : ℕ) (numbers : List ℕ) → is_among number numbers ≡ true → (k : ℕ) × (k < length numbers) × (get_or numbers k 0 ≡ number)
among_tells number [] a = absurd (false≢true a)
among_tells number (n ∷ numbers) a =
    ⊎_elim
    (λ (y : eqb number n ≡ true). (0, omega arith, sym (eqb-true number n y)))
    (λ (o : eqb number n ≡ false). let there = among_tells number numbers (rw o at a) in (suc there.0, omega arith, there.2))
    (decided (eqb number n))

-- none is greater than the largest, and one that is greater than all is not among them
greater_left : (n m : ℕ) → n ≤ greater n m
greater_left n m = cond_keeps (λ (x : ℕ). n ≤ x) (ltb n m) m n (λ y. omega (arith, ltb-true n m y)) (λ _. omega arith)

greater_right : (n m : ℕ) → m ≤ greater n m
greater_right n m = cond_keeps (λ (x : ℕ). m ≤ x) (ltb n m) m n (λ _. omega arith) (λ o. ltb-false n m o)

pub largest_most : (numbers : List ℕ) (number : ℕ) → is_among number numbers ≡ true → number ≤ largest numbers
largest_most [] number a = absurd (false≢true a)
largest_most (n ∷ numbers) number a =
    ⊎_elim
    (λ (y : eqb number n ≡ true). omega (arith, eqb-true number n y, greater_left n (largest numbers)))
    (λ (o : eqb number n ≡ false). omega (arith, largest_most numbers number (rw o at a), greater_right n (largest numbers)))
    (decided (eqb number n))

-- distinct: no number stands at two places; and back
pub distinct_tells : (numbers : List ℕ) → distinct numbers ≡ true → (j k : ℕ) → j < k → k < length numbers → get_or numbers j 0 ≡ get_or numbers k 0 → ⊥
distinct_tells [] d j k l m e = not-suc-le-zero m
distinct_tells (n ∷ numbers) d zero zero l m e = omega arith
distinct_tells (n ∷ numbers) d zero (suc k) l m e =
    false≢true (sym (not-true _ (and (not (is_among n numbers)) (distinct numbers) d).0)
    ∙ subst (λ (x : ℕ). is_among x numbers ≡ true) (sym e) (among_at numbers k (le_of_suc-le-suc m)))
distinct_tells (n ∷ numbers) d (suc j) zero l m e = omega arith
distinct_tells (n ∷ numbers) d (suc j) (suc k) l m e =
    distinct_tells numbers (and (not (is_among n numbers)) (distinct numbers) d).1 j k (le_of_suc-le-suc l) (le_of_suc-le-suc m) e

pub distinct_by : (numbers : List ℕ) → ((j k : ℕ) → j < k → k < length numbers → get_or numbers j 0 ≡ get_or numbers k 0 → ⊥) → distinct numbers ≡ true
distinct_by [] h = refl
distinct_by (n ∷ numbers) h =
    let new : is_among n numbers ≡ false
    = not_yes (is_among n numbers) (λ a. (let at = among_tells n numbers a in h 0 (suc at.0) (omega arith) (omega arith) (sym at.2))) in
    rw new (distinct_by numbers (λ j k l m. h (suc j) (suc k) (omega arith) (omega arith)))

-- ---- the handles of a table

-- the handle of each of its places is among them
map_at : (f : ℕ → ℕ) (entries : List ℕ) (n k : ℕ) → k < n → k < length entries → is_among (f (get_or entries k 0)) (map f (take n entries)) ≡ true
map_at f [] n k l m = absurd (not-suc-le-zero m)
map_at f (e ∷ entries) zero k l m = absurd (not-suc-le-zero l)
map_at f (e ∷ entries) (suc n) zero l m = rw (eq-eqb (f e) (f e) refl)
map_at f (e ∷ entries) (suc n) (suc k) l m = either (eqb (f (get_or entries k 0)) (f e)) _ (map_at f entries n k (le_of_suc-le-suc l) (le_of_suc-le-suc m))

pub handle_among : (t : Table) (k : ℕ) → k < t.count → k < length t.entries → is_among (handle_at t k) (handles_in t) ≡ true
handle_among t k l m = map_at handle_of t.entries t.count k l m

-- a table has three entries
pub three_entries : (context : List ℕ) → Long context
    → (table_of context).entries ≡ get_or context entries_at 0 ∷ get_or context (entries_at + 1) 0 ∷ get_or context (entries_at + 2) 0 ∷ []
unfolding table_of
three_entries context long =
    ap (take most)
    (drop-cons context entries_at 0 (omega arith)
    ∙ ap (λ (rest : List ℕ). get_or context entries_at 0 ∷ rest)
    (drop-cons context (entries_at + 1) 0 (omega arith) ∙ ap (λ (rest : List ℕ). get_or context (entries_at + 1) 0 ∷ rest) (drop-cons context (entries_at + 2) 0 (omega arith))))

pub entries_long : (context : List ℕ) → Long context → length (table_of context).entries ≡ most
entries_long context long = ap length (three_entries context long)

-- ---- a table that is made

module _ (handles algorithms context : List ℕ) (long : Long context) where
  -- it has the words that were stored
  made_long : Long (made handles algorithms context)
  made_long = made_keeps Long store_long context long handles algorithms

  -- how they are stored, one after the other
  abbrev counted : List ℕ
  counted = set context count_at (length handles)

  abbrev one : List ℕ
  one = set counted entries_at (entry_from handles algorithms 0)

  abbrev two : List ℕ
  two = set one (entries_at + 1) (entry_from handles algorithms 1)

  abbrev three : List ℕ
  three = set two (entries_at + 2) (entry_from handles algorithms 2)

  counted_long : Long counted
  counted_long = store_long context count_at (length handles) (omega arith) long

  one_long : Long one
  one_long = store_long counted entries_at (entry_from handles algorithms 0) (omega arith) counted_long

  two_long : Long two
  two_long = store_long one (entries_at + 1) (entry_from handles algorithms 1) (omega arith) one_long

  three_long : Long three
  three_long = store_long two (entries_at + 2) (entry_from handles algorithms 2) (omega arith) two_long

  pub made_greatest : (table_of (made handles algorithms context)).greatest ≡ largest handles
  unfolding made
  made_greatest = sym (greatest_read (made handles algorithms context)) ∙ get_or-set_same three greatest_at (largest handles) 0 (omega (arith, three_long))

  pub made_count : (table_of (made handles algorithms context)).count ≡ length handles
  unfolding made
  made_count =
      sym (count_read (made handles algorithms context))
      ∙ get_or-set_other three greatest_at count_at (largest handles) 0 (λ e. omega arith)
      ∙ get_or-set_other two (entries_at + 2) count_at _ 0 (λ e. omega arith)
      ∙ get_or-set_other one (entries_at + 1) count_at _ 0 (λ e. omega arith)
      ∙ get_or-set_other counted entries_at count_at _ 0 (λ e. omega arith)
      ∙ get_or-set_same context count_at (length handles) 0 (omega arith)

  made_entries : (table_of (made handles algorithms context)).entries
      ≡ entry_from handles algorithms 0 ∷ entry_from handles algorithms 1 ∷ entry_from handles algorithms 2 ∷ []
  unfolding made
  made_entries =
      let first = get_or-set_other three greatest_at entries_at (largest handles) 0 (λ e. omega arith)
      ∙ get_or-set_other two (entries_at + 2) entries_at _ 0 (λ e. omega arith)
      ∙ get_or-set_other one (entries_at + 1) entries_at _ 0 (λ e. omega arith)
      ∙ get_or-set_same counted entries_at (entry_from handles algorithms 0) 0 (omega (arith, counted_long)) in
      let second = get_or-set_other three greatest_at (entries_at + 1) (largest handles) 0 (λ e. omega arith)
      ∙ get_or-set_other two (entries_at + 2) (entries_at + 1) _ 0 (λ e. omega arith)
      ∙ get_or-set_same one (entries_at + 1) (entry_from handles algorithms 1) 0 (omega (arith, one_long)) in
      let third = get_or-set_other three greatest_at (entries_at + 2) (largest handles) 0 (λ e. omega arith)
      ∙ get_or-set_same two (entries_at + 2) (entry_from handles algorithms 2) 0 (omega (arith, two_long)) in
      three_entries (made handles algorithms context) made_long ∙ rw (first, second, third)

  -- the handles are those given, where they are numbers of 32 bits, which they are by their type
  module _ (fits : (k : ℕ) → k < length handles → get_or handles k 0 < 2 ^ 32) where
    handle_made : (k : ℕ) → k < length handles → handle_of (entry_from handles algorithms k) ≡ get_or handles k 0
    handle_made k l = entry_handle (get_or handles k 0) (get_or algorithms k 0) (fits k l)

    pub made_handles : length handles ≤ most → handles_in (table_of (made handles algorithms context)) ≡ handles
    made_handles l =
        ap₂ (λ (n : ℕ) (entries : List ℕ). map handle_of (take n entries)) made_count made_entries ∙ by handles handle_made l
      where
        by : (given : List ℕ) → ((k : ℕ) → k < length given → handle_of (entry_from handles algorithms k) ≡ get_or given k 0) → length given ≤ most
            → map handle_of (take (length given) (entry_from handles algorithms 0 ∷ entry_from handles algorithms 1 ∷ entry_from handles algorithms 2 ∷ [])) ≡ given
        by [] is m = refl
        by (a ∷ []) is m = rw (is 0 (omega arith))
        by (a ∷ b ∷ []) is m = rw (is 0 (omega arith), is 1 (omega arith))
        by (a ∷ b ∷ c ∷ []) is m = rw (is 0 (omega arith), is 1 (omega arith), is 2 (omega arith))
        by (a ∷ b ∷ c ∷ d ∷ rest) is m = absurd (omega arith)

    pub made_algorithm : (k : ℕ) → k < length handles → length handles ≤ most → algorithm_at (table_of (made handles algorithms context)) k ≡ get_or algorithms k 0
    made_algorithm k l m = ap (λ (entries : List ℕ). algorithm_of (get_or entries k 0)) made_entries ∙ by k (omega arith) (fits k l)
      where
        by : (k : ℕ) → k < 3 → get_or handles k 0 < 2 ^ 32
            → algorithm_of (get_or (entry_from handles algorithms 0 ∷ entry_from handles algorithms 1 ∷ entry_from handles algorithms 2 ∷ []) k 0) ≡ get_or algorithms k 0
        by zero l f = entry_algorithm (get_or handles 0 0) (get_or algorithms 0 0) f
        by (suc zero) l f = entry_algorithm (get_or handles 1 0) (get_or algorithms 1 0) f
        by (suc (suc zero)) l f = entry_algorithm (get_or handles 2 0) (get_or algorithms 2 0) f
        by (suc (suc (suc k))) l f = absurd (omega arith)

    -- so it is fresh
    pub made_fresh : count_good (length handles) ≡ true → distinct handles ≡ true → Fresh (made handles algorithms context)
    made_fresh g d =
        let same = made_handles (good_most (length handles) g) in
        record { long = made_long; counted = rw made_count g; apart = rw same d; largest_given = made_greatest ∙ ap largest (sym same) }

-- ---- a table is made exactly, in the words of the request's issue, "in a context that has none (count 0), from one to three distinct handles
-- with their algorithms"

pub record MayMake (handles algorithms context : List ℕ) : Type 0 where
  pub none_yet : (table_of context).count ≡ 0
  pub least : 1 ≤ length handles
  pub most_three : length handles ≤ 3
  pub paired : length algorithms ≡ length handles
  pub apart : (j k : ℕ) → j < k → k < length handles → get_or handles j 0 ≡ get_or handles k 0 → ⊥

module _ (handles algorithms context : List ℕ) where
  passed_may : ((k : ℕ) → test_at (making_tests handles algorithms context) k ≡ false) → MayMake handles algorithms context
  passed_may none =
      let good = not-false _ (none 1) in
      record {
        none_yet = eqb-true _ _ (not-false _ (none 0));
        least = ltb-true _ _ (and (ltb 0 (length handles)) _ good).0;
        most_three = good_most (length handles) good;
        paired = eqb-true _ _ (not-false _ (none 2));
        apart = distinct_tells handles (not-false _ (none 3));
      }

  -- "anything else .. is refused 2 and changes nothing"
  pub else_refused : (MayMake handles algorithms context → ⊥) → making_of handles algorithms context ≡ outcome (Err BadLent) context
  else_refused o =
      making_elim handles algorithms context (λ (r : Outcome (Result ⊤ Refusal) (List ℕ)). r ≡ outcome (Err BadLent) context) refl (λ none. absurd (o (passed_may none)))

  pub may_made : MayMake handles algorithms context → making_of handles algorithms context ≡ outcome (Ok tt) (made handles algorithms context)
  may_made m =
      let good : count_good (length handles) ≡ true = rw (lt-ltb 0 (length handles) m.least) (le-leb _ _ m.most_three) in
      let past : Past 4 (making_tests handles algorithms context) =
      (ap not (eq-eqb _ _ m.none_yet), (ap not good, (ap not (eq-eqb _ _ m.paired), (ap not (distinct_by handles m.apart), tt)))) in
      sym (making_made handles algorithms context (making_past handles algorithms context past))
