-- What a Boolean test tells, once for every layer. Assumes nothing.
use Rattle.std.specs.Prelude.{ℕ, zero, suc, ◌≤◌, ◌<◌, ◌≡◌, refl, ◌⊎◌, List, [], ◌∷◌, Bool, true, false, cond, ◌&&◌, ◌||◌, not, ltb, get_or}
use Rattle.std.proofs.Common.{sym, ◌∙◌, inl, inr, ⊎_elim, arith, ltb-true, ltb-false}
use Rattle.std.proofs.lemmas.Bool.{false≢true}

-- a test passes or fails
pub decided : (b : Bool) → (b ≡ true) ⊎ (b ≡ false)
decided true = inl refl
decided false = inr refl

-- whether something holds that can be decided, as a test; where it passes, it holds
abbrev pub is_yes : {A : Type 0} → Dec A → Bool
is_yes (yes a) = true
is_yes (no o) = false

pub is_yes_lem : {A : Type 0} (d : Dec A) → is_yes d ≡ true → A
is_yes_lem (yes a) e = a
is_yes_lem (no o) e = absurd (false≢true e)

-- a test that cannot pass fails
pub not_yes : (b : Bool) → (b ≡ true → ⊥) → b ≡ false
not_yes true h = absurd (h refl)
not_yes false h = refl

-- what holds of both of two values, each under its test's answer, holds of the one that the test picks
pub cond_keeps : {A : Type 0} (P : A → Type 0) (b : Bool) (x y : A) → (b ≡ true → P x) → (b ≡ false → P y) → P (cond b x y)
cond_keeps P true x y p q = p refl
cond_keeps P false x y p q = q refl

-- both of two tests
pub and : (a b : Bool) → (a && b) ≡ true → (a ≡ true) × (b ≡ true)
and true b e = (refl, e)
and false b e = absurd (false≢true e)

-- the second of two tests, where the first passes
pub implies : (a b : Bool) → (not a || b) ≡ true → a ≡ true → b ≡ true
implies true b e h = e
implies false b e h = absurd (false≢true h)

-- and back
pub implied : (a b : Bool) → (a ≡ true → b ≡ true) → (not a || b) ≡ true
implied true b h = h refl
implied false b h = refl

-- not both of two tests
pub not_both : (a b : Bool) → not (a && b) ≡ true → a ≡ true → b ≡ false
not_both true true e h = sym e
not_both true false e h = refl
not_both false b e h = absurd (false≢true h)

-- the first of two tests that do not both pass, where the second passes
pub not_first : (a b : Bool) → (a && b) ≡ false → b ≡ true → a ≡ false
not_first true b e h = absurd (false≢true (sym e ∙ h))
not_first false b e h = refl

-- one of two tests, where the second passes
pub either : (a b : Bool) → b ≡ true → (a || b) ≡ true
either true b e = refl
either false b e = e

-- neither of two tests
pub neither : (a b : Bool) → (a || b) ≡ false → (a ≡ false) × (b ≡ false)
neither false b e = (refl, e)
neither true b e = absurd (false≢true (sym e))

-- two numbers are in one of two orders, or of three
pub lt_or_le : (a b : ℕ) → (a < b) ⊎ (b ≤ a)
lt_or_le a b = ⊎_elim (λ e. inl (ltb-true a b e)) (λ e. inr (ltb-false a b e)) (decided (ltb a b))

pub ordered : (i j : ℕ) → (i < j) ⊎ ((j < i) ⊎ (i ≡ j))
ordered i j =
    ⊎_elim (λ (l : i < j). inl l) (λ (n : j ≤ i). ⊎_elim (λ (l : j < i). inr (inl l)) (λ (m : i ≤ j). inr (inr (omega arith))) (lt_or_le j i)) (lt_or_le i j)

-- ---- a list of tests

-- b and all of a list, from the left, as code joins tests by `&`
abbrev chain : Bool → List Bool → Bool
chain b [] = b
chain b (c ∷ cs) = chain (b && c) cs

-- every test of a list passes
unfoldable pub every : List Bool → Bool
every l = chain true l

chain_first : (b : Bool) (l : List Bool) → chain b l ≡ true → b ≡ true
chain_first b [] g = g
chain_first b (c ∷ cs) g = (and b c (chain_first (b && c) cs g)).0

chain_at : (b : Bool) (l : List Bool) → chain b l ≡ true → (k : ℕ) → get_or l k true ≡ true
chain_at b [] g k = refl
chain_at b (c ∷ cs) g zero = (and b c (chain_first (b && c) cs g)).1
chain_at b (c ∷ cs) g (suc k) = chain_at (b && c) cs g k

-- so test k does
pub every_at : (l : List Bool) → every l ≡ true → (k : ℕ) → get_or l k true ≡ true
unfolding every
every_at l g k = chain_at true l g k
