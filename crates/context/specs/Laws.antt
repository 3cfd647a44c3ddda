-- The laws of the context's parts: a word of a part, and what a store into the context makes of a part. Assumes nothing.
use Rattle.std.specs.Prelude.{ℕ, ◌+◌, ◌-◌, ◌≤◌, ◌<◌, ◌≡◌, ◌⊎◌, List, take, drop, set, get_or}
use Rattle.std.proofs.Common.{ap, ◌∙◌, ⊎_elim, arith, get_or-take, get_or-drop, drop-set-lt}
use Rattle.std.proofs.lemmas.List.{take-set-le, drop-set-add}
use Rattle.context.specs.Context.{part}

module _ (first n : ℕ) (context : List ℕ) where
  -- word k of a part
  pub part_at : (k : ℕ) → k < n → get_or (part first n context) k 0 ≡ get_or context (first + k) 0
  part_at k l = get_or-take n (drop first context) k 0 l ∙ get_or-drop first context k 0

  -- a store outside the part leaves it
  pub store_apart : (i v : ℕ) → (i < first) ⊎ (first + n ≤ i) → part first n (set context i v) ≡ part first n context
  store_apart i v o =
      ⊎_elim
      (λ (l : i < first). ap (take n) (drop-set-lt first context i v l))
      (λ (l : first + n ≤ i).
      let here : i ≡ first + (i - first) = omega arith in
      rw here (ap (take n) (drop-set-add first context (i - first) v) ∙ take-set-le n (drop first context) (i - first) v (omega arith)))
      o
