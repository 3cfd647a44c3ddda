-- The laws of burning and counting, for callers. Assumes nothing.
--     mark_on_set a mark on a set fuse has no effect
--     keeps       a burn clears nothing
--     only_of_v, only_free, stuck_stays   it adds only fuses of v, and only unstuck ones
--     mono        it is monotone in the cell and in v
--     absorbs     all ones burned into any c with s ⊆ c ⊆ s ∪ ¬stuck leave what all ones burned into s leave
--     burn_apart  it touches its word alone
--     fits        a cell stays a cell of 32 fuses
--     ones-*, no_ones   how many are set: the language's count, at most 64, none of 0 alone, monotone; so a pair only ever stops being short
use Rattle.std.specs.Prelude.{ℕ, ◌+◌, ◌-◌, ◌^◌, ◌≤◌, ◌<◌, ◌≡◌, refl, Bool, List, take, drop, set, ◌⊎◌}
use Rattle.std.proofs.Common.{sym, ap, ◌∙◌, lt_of_le_of_lt, arith, drop-set-lt, inl, inr, ⊎_elim, lt-ltb, ltb-true}
use Rattle.std.proofs.Math.Bool.{true, false}
use Rattle.std.proofs.lemmas.List.{drop-set-add, take-set-le}
use Rattle.std.specs.Int.Bits.{bit_and, bit_or}
use Rattle.std.proofs.lemmas.Nat.{or_lt, and_le_r}
use Rattle.std.specs.Int.Count.{ones, ones_in}
use Rattle.std.proofs.Math.Pow.{ones_sub-lt}
use Rattle.laws.specs.Tests.{lt_or_le}
use Rattle.laws.specs.Bits.{bit, ◌⊆◌}
use Rattle.laws.proofs.Bits.{ext, bit_or_lem, bit_and_lem, bit_not, sub_refl, sub_antisym, sub_or_l, sub_or_r, sub_and_l, sub_and_r, or_lub, or_mono, and_mono}
use Rattle.laws.proofs.Bits.{full_and}
use Rattle.laws.proofs.Ones.{counted, count_zero, count_le, count_mono, cat_sub}
use Rattle.fuse.specs.Fuse.{all_set, free, burn, pair_of, ones_of, short, cells_in, all_ones, burn_cell, burn_word}

-- "A mark on a set fuse has no effect": two marks that differ only on set fuses make the same burn
pub mark_on_set : (cell v : ℕ) {mark other : ℕ} → mark < 2 ^ 32 → other < 2 ^ 32 → ((i : ℕ) → bit i cell ≡ 0 → bit i mark ≡ bit i other)
    → burn cell v mark ≡ burn cell v other
mark_on_set cell v h h' same =
    ext _ _
    (λ i. simp (bit_or_lem, bit_and_lem, bit_not 32 h, bit_not 32 h')
    (⊎_elim (λ (unset : bit i cell < 1). omega (arith, same i (omega arith))) (λ (set : 1 ≤ bit i cell). omega arith) (lt_or_le (bit i cell) 1)))

module _ (stuck : ℕ) where
  pub keeps : (x v : ℕ) → x ⊆ burn x v stuck
  keeps x v = sub_or_l x (bit_and v (free stuck))

  pub only_of_v : (x v : ℕ) → burn x v stuck ⊆ bit_or x v
  only_of_v x v = or_mono (sub_refl x) (sub_and_l v (free stuck))

  pub only_free : (x v : ℕ) → burn x v stuck ⊆ bit_or x (free stuck)
  only_free x v = or_mono (sub_refl x) (sub_and_r v (free stuck))

  pub stuck_stays : stuck < 2 ^ 32 → (x v : ℕ) → bit_and (burn x v stuck) stuck ≡ bit_and x stuck
  stuck_stays h x v = ext _ _ (λ i. simp (bit_and_lem, bit_or_lem, bit_not 32 h) (omega arith))

  pub mono : {x x' v v' : ℕ} → x ⊆ x' → v ⊆ v' → burn x v stuck ⊆ burn x' v' stuck
  mono p q = or_mono p (and_mono q (sub_refl (free stuck)))

  pub fits : {x : ℕ} (v : ℕ) → x < 2 ^ 32 → burn x v stuck < 2 ^ 32
  fits {x} v h = or_lt 32 x (bit_and v (free stuck)) h (lt_of_le_of_lt (and_le_r v (free stuck)) (ones_sub-lt 32 stuck))

  -- a burn of all ones sets every fuse that is not stuck
  pub burn_all : (x : ℕ) → burn x all_set stuck ≡ bit_or x (free stuck)
  burn_all x = ap (bit_or x) (full_and 32 (ones_sub-lt 32 stuck))

  pub absorbs : {s c : ℕ} → s ⊆ c → c ⊆ bit_or s (free stuck) → burn c all_set stuck ≡ burn s all_set stuck
  absorbs {s} {c} p q =
      burn_all c ∙ sub_antisym (or_lub q (sub_or_r s (free stuck))) (or_mono p (sub_refl (free stuck))) ∙ sym (burn_all s)

-- ---- a burn touches its word alone: the n cells from f on stay where the word ends before them or starts past them

module _ (f n : ℕ) where
  set_apart : (l : List ℕ) (k a : ℕ) → (k < f) ⊎ (f + n ≤ k) → take n (drop f (set l k a)) ≡ take n (drop f l)
  set_apart l k a (inl h) = ap (take n) (drop-set-lt f l k a h)
  set_apart l k a (inr h) =
      let e : k ≡ f + (k - f) = omega arith in
      ap (λ (j : ℕ). take n (drop f (set l j a))) e ∙ ap (take n) (drop-set-add f l (k - f) a) ∙ take-set-le n (drop f l) (k - f) a (omega arith)

  pub burn_apart : (marks : List ℕ) (k : ℕ) (wide : Bool) (v : ℕ) (cells : List ℕ) → (k + cells_in wide ≤ f) ⊎ (f + n ≤ k)
      → take n (drop f (burn_word marks k wide v cells)) ≡ take n (drop f cells)
  unfolding burn_word burn_cell
  burn_apart marks k true v cells (inl h) = set_apart _ (k + 1) _ (inl (omega arith)) ∙ set_apart cells k _ (inl (omega arith))
  burn_apart marks k true v cells (inr h) = set_apart _ (k + 1) _ (inr (omega arith)) ∙ set_apart cells k _ (inr h)
  burn_apart marks k false v cells (inl h) = set_apart cells k _ (inl (omega arith))
  burn_apart marks k false v cells (inr h) = set_apart cells k _ (inr h)

pub ones_counted : {n : ℕ} → n < 2 ^ 64 → ones_of n ≡ ones n
ones_counted {n} h = counted 64 n h

-- 0 alone has no ones
pub ones_zero : ones_of 0 ≡ 0
unfolding ones_in
ones_zero = refl

-- and a pair with every fuse set has 64
pub ones_all : ones_of all_ones ≡ 64
unfolding ones_in
ones_all = refl

pub no_ones : {low high : ℕ} → low < 2 ^ 32 → high < 2 ^ 32 → ones_of (pair_of low high) ≡ 0 → pair_of low high ≡ 0
no_ones {low} {high} l h e = count_zero 64 (pair_of low high) (omega arith) e

pub ones_most : (n : ℕ) → ones_of n ≤ 64
ones_most n = count_le 64 n

pub ones_mono : {x y : ℕ} → x ⊆ y → ones_of x ≤ ones_of y
ones_mono p = count_mono 64 p

module _ {low high low' high' : ℕ} (l : low < 2 ^ 32) (l' : low' < 2 ^ 32) (p : low ⊆ low') (q : high ⊆ high') where
  pub pair_mono : pair_of low high ⊆ pair_of low' high'
  pair_mono = cat_sub 32 l l' p q

  pub short_anti : (bound : ℕ) → short bound (pair_of low' high') ≡ true → short bound (pair_of low high) ≡ true
  short_anti bound e = lt-ltb _ _ (lt_of_le_of_lt (ones_mono pair_mono) (ltb-true _ _ e))
