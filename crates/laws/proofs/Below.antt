-- What is said of the numbers below n: that a test f holds at all of them, at how many it holds, which is the lowest; and the lists
-- that f gives for them, one after the other. Every loop here is one of these four, and cites its laws. Assumes nothing.
-- The definitions stand in specs/Below.antt.
use Rattle.std.specs.Prelude.{ℕ, zero, suc, ◌+◌, ◌-◌, ◌≤◌, ◌<◌, ◌≡◌, refl, List, [], ◌∷◌, ◌++◌, Bool, true, false, cond, ◌&&◌, length, drop, set, get_or, ltb, Option, Some, None, MatchOption, unwrap_or}
use Rattle.std.proofs.Common.{sym, ◌∙◌, ⊎_elim, arith, not-suc-le-zero, eq-or-lt_of_le, le_of_suc-le-suc, length-append, drop-cons, lt-ltb, ltb-true, ltb-false}
use Rattle.std.proofs.lemmas.Bool.{false≢true}
use Rattle.std.proofs.Math.Numerals.{add-one}
use Rattle.std.proofs.Math.Nat.{sub-zero}
use Rattle.std.proofs.lemmas.List.{set_at}
use Rattle.std.proofs.Math.Seq.{append_snoc}
use Rattle.laws.specs.Tests.{and, decided, not_yes, not_first}
use Rattle.laws.specs.Below.{all_below, tally, count_below, first_from, first_below, found, join_below, First}

-- ---- all

pub all_next : (f : ℕ → Bool) (n : ℕ) → all_below f (n + 1) ≡ (all_below f n && f n)
unfolding all_below
all_next f n = rw add-one

pub all_step : (f : ℕ → Bool) (n : ℕ) → all_below f n ≡ true → f n ≡ true → all_below f (n + 1) ≡ true
all_step f n g h = rw (all_next f n, g) h

pub all_at : (f : ℕ → Bool) (n : ℕ) → all_below f n ≡ true → (k : ℕ) → k < n → f k ≡ true
unfolding all_below
all_at f zero g k l = absurd (not-suc-le-zero l)
all_at f (suc n) g k l =
    let both = and (all_below f n) (f n) g in
    ⊎_elim (λ e. rw e both.1) (λ h. all_at f n both.0 k h) (eq-or-lt_of_le (le_of_suc-le-suc l))

pub all_fails : (f : ℕ → Bool) (n k : ℕ) → k < n → f k ≡ false → all_below f n ≡ false
all_fails f n k l e = not_yes (all_below f n) (λ g. false≢true (sym e ∙ all_at f n g k l))

-- and back: it holds where it fails at none, and where it does not hold it fails at some number
pub all_holds : (f : ℕ → Bool) (n : ℕ) → ((k : ℕ) → k < n → f k ≡ true) → all_below f n ≡ true
unfolding all_below
all_holds f zero h = refl
all_holds f (suc n) h = rw (all_holds f n (λ k l. h k (omega arith))) (h n (omega arith))

pub fails_at : (f : ℕ → Bool) (n : ℕ) → all_below f n ≡ false → (k : ℕ) × (k < n) × (f k ≡ false)
unfolding all_below
fails_at f zero e = absurd (false≢true (sym e))
fails_at f (suc n) e =
    ⊎_elim
    (λ (y : f n ≡ true). let found = fails_at f n (not_first (all_below f n) (f n) e y) in (found.0, omega arith, found.2))
    (λ (o : f n ≡ false). (n, omega arith, o))
    (decided (f n))

-- ---- how many

pub count_step : (f : ℕ → Bool) (n : ℕ) (t : Bool) → f n ≡ t → count_below f (n + 1) ≡ count_below f n + tally t
unfolding count_below
count_step f n t e = rw (add-one, ← e)

pub tally_le : (t : Bool) → tally t ≤ 1
tally_le true = omega arith
tally_le false = omega arith

pub count_le : (f : ℕ → Bool) (n : ℕ) → count_below f n ≤ n
unfolding count_below
count_le f zero = omega arith
count_le f (suc n) = omega (arith, count_le f n, tally_le (f n))

tally_none : (t : Bool) → tally t ≡ 0 → t ≡ false
tally_none true e = absurd (omega arith)
tally_none false e = refl

-- a count of 0: the test holds at none of them
pub count_none : (f : ℕ → Bool) (n : ℕ) → count_below f n ≡ 0 → (k : ℕ) → k < n → f k ≡ false
unfolding count_below
count_none f zero c k l = absurd (not-suc-le-zero l)
count_none f (suc n) c k l =
    ⊎_elim (λ (e : k ≡ n). rw e (tally_none (f n) (omega arith))) (λ (h : k < n). count_none f n (omega arith) k h) (eq-or-lt_of_le (le_of_suc-le-suc l))

-- and back
pub none_count : (f : ℕ → Bool) (n : ℕ) → ((k : ℕ) → k < n → f k ≡ false) → count_below f n ≡ 0
unfolding count_below
none_count f zero h = refl
none_count f (suc n) h = let here = h n (omega arith) in rw here (omega (arith, none_count f n (λ k l. h k (omega arith))))

-- ---- the lowest: a loop that has passed the numbers below i searches the p - i that are left

module _ (f : ℕ → Bool) (p : ℕ) where
  pub first_start : first_below f p ≡ first_from f 0 (p - 0)
  first_start = rw sub-zero

  module _ (i : ℕ) where
    step : i < p → p - i ≡ suc (p - (i + 1))
    step l = omega arith

    none : i ≡ p → p - i ≡ 0
    none e = omega arith

    pub first_here : i < p → f i ≡ true → first_from f i (p - i) ≡ i
    unfolding first_from
    first_here l h = rw (step l) (simp h)

    pub first_next : i < p → f i ≡ false → first_from f i (p - i) ≡ first_from f (i + 1) (p - (i + 1))
    unfolding first_from
    first_next l h = rw (step l) (simp (h, add-one i))

    pub first_end : i ≡ p → first_from f i (p - i) ≡ p
    unfolding first_from
    first_end e = rw (none e) e

first_turn : (f : ℕ → Bool) (i m : ℕ) (t : Bool) → f i ≡ t → (r : ℕ) → First f (suc i) m r → First f i (suc m) (cond t i r)
first_turn f i m true e r w = record {
  from = omega arith;
  most = omega arith;
  before = λ k a b. absurd (omega arith);
  at = λ l. e;
}
first_turn f i m false e r w = record {
  from = let a = w.from in omega arith;
  most = let a = w.most in omega arith;
  before = λ k a b. ⊎_elim (λ (q : i ≡ k). rw (← q) e) (λ (q : i < k). w.before k q b) (eq-or-lt_of_le a);
  at = λ l. w.at (omega arith);
}

pub first_tells : (f : ℕ → Bool) (i m : ℕ) → First f i m (first_from f i m)
unfolding first_from
first_tells f i zero = record {
  from = omega arith;
  most = omega arith;
  before = λ k a b. absurd (omega arith);
  at = λ l. absurd (omega arith);
}
first_tells f i (suc m) = first_turn f i m (f i) refl (first_from f (suc i) m) (first_tells f (suc i) m)

-- it is at most any other
pub first_least : (f : ℕ → Bool) (n k : ℕ) → k < n → f k ≡ true → first_below f n ≤ k
first_least f n k l h =
    let r = first_from f 0 n in
    let w : First f 0 n r = first_tells f 0 n in
    ltb-false k r (not_yes (ltb k r) (λ t. let a = ltb-true k r t in false≢true (sym (w.before k (omega arith) a) ∙ h)))

-- there is only one lowest
pub first_is : (f : ℕ → Bool) (n k : ℕ) → k < n → f k ≡ true → ((j : ℕ) → j < k → f j ≡ false) → first_below f n ≡ k
first_is f n k l h o =
    let r = first_from f 0 n in
    let w : First f 0 n r = first_tells f 0 n in
    let not_under : ltb r k ≡ false = not_yes (ltb r k) (λ t. let a = ltb-true r k t in false≢true (sym (o r a) ∙ w.at (omega arith))) in
    omega (arith, ltb-false r k not_under, first_least f n k l h)

-- it is below n where the test holds at some number
pub first_within : (f : ℕ → Bool) (n : ℕ) → (count_below f n ≡ 0 → ⊥) → first_below f n < n
first_within f n some =
    let r = first_from f 0 n in
    let w : First f 0 n r = first_tells f 0 n in
    ⊎_elim
    (λ (l : ltb r n ≡ true). ltb-true r n l)
    (λ (l : ltb r n ≡ false). let all : n ≤ r = ltb-false r n l in absurd (some (none_count f n (λ k a. w.before k (omega arith) (omega arith)))))
    (decided (ltb r n))

-- two tests that agree below n have the same lowest
same_from : (f g : ℕ → Bool) (i m : ℕ) → ((k : ℕ) → k < i + m → f k ≡ g k) → first_from f i m ≡ first_from g i m
unfolding first_from
same_from f g i zero e = refl
same_from f g i (suc m) e = rw (e i (omega arith), same_from f g (suc i) m (λ k l. e k (omega arith)))

pub first_same : (f g : ℕ → Bool) (n : ℕ) → ((k : ℕ) → k < n → f k ≡ g k) → first_below f n ≡ first_below g n
first_same f g n h = same_from f g 0 n (λ k l. h k (omega arith))

-- a search over the numbers below n, as code gives its answer: the lowest, or none
pub search_found : (f : ℕ → Bool) (n : ℕ) (r : Option ℕ)
    → MatchOption r ((k : ℕ) → 0 ≤ k → k < n → f k ≡ false) (λ i. (0 ≤ i) × (i < n) × (f i ≡ true) × ((k : ℕ) → 0 ≤ k → k < i → f k ≡ false))
    → r ≡ found n (first_below f n)
search_found f n None h =
    let w = first_tells f 0 n in
    let past : ltb (first_below f n) n ≡ false = not_yes _ (λ l. let a = ltb-true _ _ l in false≢true (sym (h _ (omega arith) a) ∙ w.at (omega arith))) in
    rw past refl
search_found f n (Some i) h =
    rw (first_is f n i h.1 h.2 (λ k l. h.3 k (omega arith) l), lt-ltb i n h.1) refl

-- and the number where it stands for none, past them all
pub found_or : (f : ℕ → Bool) (n : ℕ) → unwrap_or (found n (first_below f n)) n ≡ first_below f n
found_or f n =
    ⊎_elim
    (λ (y : ltb (first_below f n) n ≡ true). rw y refl)
    (λ (o : ltb (first_below f n) n ≡ false). rw o (let w = first_tells f 0 n in let l = ltb-false _ _ o in omega arith))
    (decided (ltb (first_below f n) n))

-- ---- one after the other

pub join_step : (f : ℕ → List ℕ) (n : ℕ) → join_below f (n + 1) ≡ join_below f n ++ f n
unfolding join_below
join_step f n = rw add-one

-- lists of just one number
pub join_ones : (f : ℕ → ℕ) (n : ℕ) → length (join_below (λ i. f i ∷ []) n) ≡ n
unfolding join_below
join_ones f zero = refl
join_ones f (suc n) = simp length-append (omega (arith, join_ones f n))

-- an array whose first k places hold them, and whose others hold what they held: one more is stored
pub store_next : (f : ℕ → ℕ) (k v : ℕ) (before after : List ℕ) → k < length before → v ≡ f k → after ≡ join_below (λ i. f i ∷ []) k ++ drop k before
    → set after k v ≡ join_below (λ i. f i ∷ []) (k + 1) ++ drop (k + 1) before
store_next f k v before after l e h =
    rw (h, drop-cons before k 0 l, set_at (join_below (λ i. f i ∷ []) k) (get_or before k 0) (drop (suc k) before) v k (join_ones f k), e, join_step, add-one, append_snoc)
