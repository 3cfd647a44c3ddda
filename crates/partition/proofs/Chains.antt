-- What the chains of iterators here answer, in the words of `laws` `Below`. Assumes nothing.
use Rattle.std.specs.Prelude.{ℕ, zero, suc, ◌+◌, ◌*◌, ◌≤◌, ◌≡◌, refl, Bool, true, false, cond, ◌&&◌, List, length, get_or, take, eqb, position, unwrap_or}
use Rattle.std.specs.List.{range_with_len, position_or_len, list_all}
use Rattle.std.proofs.Common.{arith}
use Rattle.std.proofs.Math.Numerals.{add-one}
use Rattle.std.proofs.lemmas.List.Folds.{list_all_more}
use Rattle.laws.specs.Below.{all_below, first_from, first_below}
use Rattle.laws.proofs.Below.{found_or}
use Rattle.std.proofs.lemmas.List.FromFn.{length-range_with_len}
use Rattle.partition.specs.Partition.{pairs, short_at, lowest_pair, zero_cell}

module _ (f : ℕ → Bool) where
  find_more : (i m : ℕ) (t : Bool) → f i ≡ t → i + 1 + position_or_len f (range_with_len (i + 1) m) ≡ first_from f (i + 1) m
      → i + position_or_len f (range_with_len i (suc m)) ≡ first_from f i (suc m)
  unfolding first_from
  find_more i m true e rest = rw e (omega arith)
  find_more i m false e rest = rw (e, ← add-one i, ← rest) (omega arith)

  finds_from : (i m : ℕ) → i + position_or_len f (range_with_len i m) ≡ first_from f i m
  unfolding first_from
  finds_from i zero = omega arith
  finds_from i (suc m) = find_more i m (f i) refl (finds_from (i + 1) m)

  -- the lowest of them
  pub finds : (n : ℕ) → position_or_len f (range_with_len 0 n) ≡ first_below f n
  finds n = omega (arith, finds_from 0 n)

-- the number of the lowest short pair
pub lowest : (bound : ℕ) (part : List ℕ) → unwrap_or (position (short_at bound part) (range_with_len 0 (pairs part))) (pairs part) ≡ lowest_pair bound part
lowest bound part = rw (finds (short_at bound part) (pairs part), length-range_with_len 0 (pairs part)) (found_or (short_at bound part) (pairs part))

-- the cells below d are all zero
pub zeros : (part : List ℕ) (d : ℕ) → d ≤ length part → list_all (λ x. eqb x 0) (take d part) ≡ all_below (zero_cell part) d
unfolding all_below zero_cell
zeros part zero l = refl
zeros part (suc d) l =
    let more : list_all (λ x. eqb x 0) (take (suc d) part) ≡ (list_all (λ x. eqb x 0) (take d part) && eqb (get_or part d 0) 0) =
    rw (← add-one d) (list_all_more (λ x. eqb x 0) part d 0 (omega arith)) in
    rw (more, zeros part d (omega arith)) refl
