-- Document 01, "Refusal numbers": "Checked in ascending order; the lowest that applies is given, and none is given otherwise".
-- A call's refusals are a list: a test that tells whether the refusal applies, and the refusal. The first of the list that applies is
-- given; where the numbers ascend, that is the lowest. Assumes nothing.
use Rattle.std.specs.Prelude.{ℕ, zero, suc, ◌≤◌, ◌<◌, ◌≡◌, refl, ◌⊎◌, Bool, true, false, cond, not, ◌&&◌, List, [], ◌∷◌, ◌++◌, length, leb, eqb, Result, Ok, Err, is_ok, ⊤}
use Rattle.std.proofs.Common.{sym, subst, ◌∙◌, ap, inl, inr, ⊎_elim, arith, not-suc-le-zero, le_of_suc-le-suc, leb-true}
use Rattle.std.proofs.lemmas.Bool.{false≢true, eqb-false, not-true}
use Rattle.laws.specs.Tests.{and}
use Rattle.refusal.specs.declared.Refusal.{Refusal}
use Rattle.refusal.specs.declared.Refusal.TheVariants.{BadMap}
use Rattle.refusal.specs.Numbers.{number}

-- what is answered: the refusal of the first test that applies, else what an accepted call answers
abbrev pub first_of : {A : Type 0} → (refuse : Refusal → A) → List (Bool × Refusal) → (accepted : A) → A
first_of refuse [] accepted = accepted
first_of refuse ((applies, refusal) ∷ tests) accepted = cond applies (refuse refusal) (first_of refuse tests accepted)

-- a refusal applies
abbrev pub Applies : (r : Refusal) → List (Bool × Refusal) → Type 0
Applies r [] = ⊥
Applies r ((applies, refusal) ∷ tests) = ((applies ≡ true) × (r ≡ refusal)) ⊎ Applies r tests

-- test k applies
abbrev pub test_at : List (Bool × Refusal) → (k : ℕ) → Bool
test_at [] k = false
test_at ((applies, refusal) ∷ tests) zero = applies
test_at ((applies, refusal) ∷ tests) (suc k) = test_at tests k

-- the refusal of test k
abbrev pub refusal_at : List (Bool × Refusal) → (k : ℕ) → Refusal
refusal_at [] k = BadMap
refusal_at ((applies, refusal) ∷ tests) zero = refusal
refusal_at ((applies, refusal) ∷ tests) (suc k) = refusal_at tests k

-- ---- which test gives the answer, by its place in the list: what code knows that has made the tests one after the other

-- the first k tests do not apply
abbrev pub Past : (k : ℕ) → List (Bool × Refusal) → Type 0
Past zero tests = Unit {0}
Past (suc k) [] = Unit {0}
Past (suc k) ((applies, refusal) ∷ tests) = (applies ≡ false) × Past k tests

module _ {A : Type 0} (refuse : Refusal → A) (accepted : A) where
  -- test k does: its refusal is given
  pub refused_at : (k : ℕ) (tests : List (Bool × Refusal)) → Past k tests → test_at tests k ≡ true → refuse (refusal_at tests k) ≡ first_of refuse tests accepted
  refused_at k [] p y = absurd (false≢true y)
  refused_at zero ((applies, refusal) ∷ tests) p y = rw y
  refused_at (suc k) ((applies, refusal) ∷ tests) p y = rw p.0 (refused_at k tests p.1 y)

  -- none of them does
  pub past_all : (tests : List (Bool × Refusal)) → Past (length tests) tests → accepted ≡ first_of refuse tests accepted
  past_all [] p = refl
  past_all ((applies, refusal) ∷ tests) p = rw p.0 (past_all tests p.1)

-- ---- what the answer tells of the tests

-- an answer that is no refusal: no test applies, and it is what an accepted call answers
pub record Accepted {A : Type 0} (tests : List (Bool × Refusal)) (accepted answer : A) : Type 0 where
  pub none : (k : ℕ) → test_at tests k ≡ false
  pub is : answer ≡ accepted

none_of : (refusal : Refusal) (tests : List (Bool × Refusal)) → ((k : ℕ) → test_at tests k ≡ false) → (k : ℕ) → test_at ((false, refusal) ∷ tests) k ≡ false
none_of refusal tests h zero = refl
none_of refusal tests h (suc k) = h k

-- of two answers by the same tests, what holds of both answers with a refusal that applies, and of both accepted answers where no test
-- applies, holds of both
pub first_both : {A B : Type 0} (P : A → B → Type 0) (refuse : Refusal → A) (refuse' : Refusal → B) (tests : List (Bool × Refusal)) (accepted : A) (accepted' : B)
    → ((r : Refusal) → Applies r tests → P (refuse r) (refuse' r)) → (((k : ℕ) → test_at tests k ≡ false) → P accepted accepted')
    → P (first_of refuse tests accepted) (first_of refuse' tests accepted')
first_both P refuse refuse' [] accepted accepted' r a = a (λ k. refl)
first_both P refuse refuse' ((true, n) ∷ tests) accepted accepted' r a = r n (inl (refl, refl))
first_both P refuse refuse' ((false, n) ∷ tests) accepted accepted' r a =
    first_both P refuse refuse' tests accepted accepted' (λ m q. r m (inr q)) (λ h. a (none_of n tests h))

-- and so of one answer
pub first_elim : {A : Type 0} (P : A → Type 0) (refuse : Refusal → A) (tests : List (Bool × Refusal)) (accepted : A) → ((r : Refusal) → Applies r tests → P (refuse r))
    → (((k : ℕ) → test_at tests k ≡ false) → P accepted) → P (first_of refuse tests accepted)
first_elim P refuse tests accepted = first_both (λ a _. P a) refuse refuse tests accepted accepted

-- so what is made of an answer is made of its refusals and of what an accepted call answers
pub first_map : {A B : Type 0} (f : A → B) (refuse : Refusal → A) (tests : List (Bool × Refusal)) (accepted : A)
    → f (first_of refuse tests accepted) ≡ first_of (λ n. f (refuse n)) tests (f accepted)
first_map f refuse tests accepted = first_both (λ a b. f a ≡ b) refuse (λ n. f (refuse n)) tests accepted (f accepted) (λ n _. refl) (λ none. refl)

-- and two ways to refuse that agree on the refusals that apply give the same
pub first_agree : {A : Type 0} (refuse refuse' : Refusal → A) (tests : List (Bool × Refusal)) (accepted : A)
    → ((r : Refusal) → Applies r tests → refuse r ≡ refuse' r) → first_of refuse tests accepted ≡ first_of refuse' tests accepted
first_agree refuse refuse' tests accepted h = first_both (λ a b. a ≡ b) refuse refuse' tests accepted accepted h (λ none. refl)

-- where every refusal that applies shows, an answer that shows none tells that no test applies
pub accepted_tells : {A : Type 0} (refuse : Refusal → A) (shows : A → Bool) (tests : List (Bool × Refusal)) (accepted : A)
    → ((r : Refusal) → Applies r tests → shows (refuse r) ≡ true) → shows (first_of refuse tests accepted) ≡ false
    → Accepted tests accepted (first_of refuse tests accepted)
accepted_tells refuse shows tests accepted s =
    first_elim (λ a. shows a ≡ false → Accepted tests accepted a) refuse tests accepted
    (λ n applies e. absurd (false≢true (sym e ∙ s n applies)))
    (λ none e. record { none = none; is = refl })

-- ---- what tests alone answer: the first that applies, or that none does

abbrev pub judged : List (Bool × Refusal) → Result ⊤ Refusal
judged tests = first_of Err tests (Ok tt)

-- some test applies
abbrev pub any_applies : List (Bool × Refusal) → Bool
any_applies tests = first_of (λ r. true) tests false

-- the first that applies, where one does
abbrev pub the_first : List (Bool × Refusal) → Refusal
the_first tests = first_of (λ r. r) tests BadMap

pub first_applies : (tests : List (Bool × Refusal)) → any_applies tests ≡ true → Applies (the_first tests) tests
first_applies [] y = absurd (false≢true y)
first_applies ((true, r) ∷ tests) y = inl (refl, refl)
first_applies ((false, r) ∷ tests) y = inr (first_applies tests y)

module _ {A : Type 0} (refuse : Refusal → A) (accepted : A) where
  pub any_refuses : (tests : List (Bool × Refusal)) → any_applies tests ≡ true → first_of refuse tests accepted ≡ refuse (the_first tests)
  any_refuses [] y = absurd (false≢true y)
  any_refuses ((true, r) ∷ tests) y = refl
  any_refuses ((false, r) ∷ tests) y = any_refuses tests y

  pub none_accepts : (tests : List (Bool × Refusal)) → any_applies tests ≡ false → Accepted tests accepted (first_of refuse tests accepted)
  none_accepts [] o = record { none = λ k. refl; is = refl }
  none_accepts ((true, r) ∷ tests) o = absurd (false≢true (sym o))
  none_accepts ((false, r) ∷ tests) o = let rest = none_accepts tests o in record { none = none_of r tests rest.none; is = rest.is }

-- no refusal of the list has this number
abbrev pub lacks : (n : ℕ) → List (Bool × Refusal) → Bool
lacks n [] = true
lacks n ((applies, refusal) ∷ tests) = not (eqb (number refusal) n) && lacks n tests

-- so a refusal that applies has another number
pub not_numbered : (n : ℕ) (tests : List (Bool × Refusal)) → lacks n tests ≡ true → (r : Refusal) → Applies r tests → number r ≡ n → ⊥
not_numbered n [] g r a e = a
not_numbered n ((applies, refusal) ∷ tests) g r a e =
    let both = and (not (eqb (number refusal) n)) (lacks n tests) g in
    ⊎_elim
    (λ (q : (applies ≡ true) × (r ≡ refusal)). eqb-false (number refusal) n (not-true _ both.0) (sym (ap number q.1) ∙ e))
    (λ (q : Applies r tests). not_numbered n tests both.1 r q e) a

-- ---- the first of the list

-- an answer is the refusal of the first test that applies, or, where none applies, what an accepted call answers
pub data GivenFirst {A : Type 0} (refuse : Refusal → A) (tests : List (Bool × Refusal)) (accepted : A) : A → Type 0 where
  refused : (k : ℕ) → test_at tests k ≡ true → ((j : ℕ) → j < k → test_at tests j ≡ false) → GivenFirst refuse tests accepted (refuse (refusal_at tests k))
  none : ((k : ℕ) → test_at tests k ≡ false) → GivenFirst refuse tests accepted accepted

module _ {A : Type 0} (refuse : Refusal → A) (accepted : A) where
  later : (refusal : Refusal) (tests : List (Bool × Refusal)) {r : A} → GivenFirst refuse tests accepted r → GivenFirst refuse ((false, refusal) ∷ tests) accepted r
  later refusal tests (refused k y before) = refused (suc k) y (λ j l. earlier j l)
    where
      earlier : (j : ℕ) → j < suc k → test_at ((false, refusal) ∷ tests) j ≡ false
      earlier zero l = refl
      earlier (suc j) l = before j (le_of_suc-le-suc l)
  later refusal tests (none o) = none (none_of refusal tests o)

  -- so it is, whatever the numbers
  pub given_first : (tests : List (Bool × Refusal)) → GivenFirst refuse tests accepted (first_of refuse tests accepted)
  given_first [] = none (λ k. refl)
  given_first ((true, refusal) ∷ tests) = refused 0 refl (λ j l. absurd (not-suc-le-zero l))
  given_first ((false, refusal) ∷ tests) = later refusal tests (given_first tests)

-- ---- the lowest number

-- the numbers, from the least that is allowed on, never fall
abbrev pub ascend_from : (least : ℕ) → List (Bool × Refusal) → Bool
ascend_from least [] = true
ascend_from least ((applies, refusal) ∷ tests) = leb least (number refusal) && ascend_from (number refusal) tests

pub applies_least : (least : ℕ) (tests : List (Bool × Refusal)) → ascend_from least tests ≡ true → (r : Refusal) → Applies r tests → least ≤ number r
applies_least least [] g r a = absurd a
applies_least least ((applies, refusal) ∷ tests) g r a =
    let both = and (leb least (number refusal)) (ascend_from (number refusal) tests) g in
    let first : least ≤ number refusal = leb-true _ _ both.0 in
    ⊎_elim
    (λ (e : (applies ≡ true) × (r ≡ refusal)). rw e.1 first)
    (λ (l : Applies r tests). omega (arith, first, applies_least (number refusal) tests both.1 r l)) a

-- an answer is the refusal with the lowest number that applies, or, where none applies, what an accepted call answers
pub data GivenLowest {A : Type 0} (refuse : Refusal → A) (tests : List (Bool × Refusal)) (accepted : A) : A → Type 0 where
  refused : (r : Refusal) → Applies r tests → ((q : Refusal) → Applies q tests → number r ≤ number q) → GivenLowest refuse tests accepted (refuse r)
  none : ((r : Refusal) → Applies r tests → ⊥) → GivenLowest refuse tests accepted accepted

module _ {A : Type 0} (refuse : Refusal → A) (accepted : A) where
  passed : (refusal : Refusal) (tests : List (Bool × Refusal)) (a : A) → GivenLowest refuse tests accepted a → GivenLowest refuse ((false, refusal) ∷ tests) accepted a
  passed refusal tests _ (refused r a l) =
      refused r (inr a) (λ q p. ⊎_elim (λ (e : (false ≡ true) × (q ≡ refusal)). absurd (false≢true e.0)) (l q) p)
  passed refusal tests _ (none o) = none (λ r p. ⊎_elim (λ (e : (false ≡ true) × (r ≡ refusal)). false≢true e.0) (o r) p)

  -- so it is, wherever the numbers ascend
  pub lowest_tells : (least : ℕ) (tests : List (Bool × Refusal)) → ascend_from least tests ≡ true → GivenLowest refuse tests accepted (first_of refuse tests accepted)
  lowest_tells least [] g = none (λ r p. p)
  lowest_tells least ((true, refusal) ∷ tests) g =
      let rest = (and (leb least (number refusal)) (ascend_from (number refusal) tests) g).1 in
      refused refusal (inl (refl, refl))
      (λ q p. ⊎_elim (λ (e : (true ≡ true) × (q ≡ refusal)). rw e.1 (omega arith)) (λ (a : Applies q tests). applies_least (number refusal) tests rest q a) p)
  lowest_tells least ((false, refusal) ∷ tests) g =
      passed refusal tests _ (lowest_tells (number refusal) tests (and (leb least (number refusal)) (ascend_from (number refusal) tests) g).1)

-- ---- a part of the tests, judged before the rest

-- the refusal of an answer
abbrev err_of : Result ⊤ Refusal → Refusal
err_of (Ok done) = BadMap
err_of (Err r) = r

module _ {A : Type 0} (refuse : Refusal → A) (rest : List (Bool × Refusal)) (accepted : A) where
  -- its refusal is the whole list's
  pub judged_refuses : (tests : List (Bool × Refusal)) (r : Refusal) → Err r ≡ judged tests → first_of refuse (tests ++ rest) accepted ≡ refuse r
  judged_refuses [] r e = absurd (false≢true (ap is_ok e))
  judged_refuses ((true, refusal) ∷ tests) r e = ap refuse (sym (ap err_of e))
  judged_refuses ((false, refusal) ∷ tests) r e = judged_refuses tests r e

  -- where it gives none, the tests that follow are left
  pub judged_passes : (tests : List (Bool × Refusal)) → Ok tt ≡ judged tests → Accepted tests (first_of refuse rest accepted) (first_of refuse (tests ++ rest) accepted)
  judged_passes [] e = record { none = λ k. refl; is = refl }
  judged_passes ((true, refusal) ∷ tests) e = absurd (false≢true (sym (ap is_ok e)))
  judged_passes ((false, refusal) ∷ tests) e =
      let next = judged_passes tests e in
      record { none = none_of refusal tests next.none; is = next.is }
