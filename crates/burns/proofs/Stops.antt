-- Whether a run goes on after its first burn, the indicator's: what that hangs on, and what a run that stops leaves. Assumes nothing.
-- The definitions stand in specs/Stops.antt.
use Prim.Native.Nat.{ℕ, zero, suc, ◌+◌, ◌-◌, ◌*◌, ◌/◌, ◌%◌, ◌≤◌, ◌<◌}
use Rattle.std.specs.Prelude.{Bool, true, false, ◌≡◌, refl, ◌↔◌, length, get_or}
use Rattle.std.proofs.Common.{sym, subst, ◌∙◌, ⊎_elim, arith, ext_get_or}
use mathlib.Core.List.{List, [], ◌∷◌}
use Rattle.std.proofs.lemmas.Bool.{not-true, not-false}
use Rattle.laws.specs.Tests.{lt_or_le}
use Rattle.laws.specs.Bits.{◌⊆◌}
use Rattle.laws.proofs.Bits.{sub_none, sub_or_l}
use Rattle.fuse.specs.Fuse.{all_ones, burn_word}
use Rattle.partition.specs.Partition.{marked}
use Rattle.partition.proofs.Marked.{marked_mono, unmarked_exactly}
use Rattle.burns.specs.declared.Word.{Word}
use Rattle.burns.specs.declared.End.TheVariants.{Whole, Stopped, Cut}
use Rattle.burns.specs.Run.{pair_from, order, Tally, start, carry, goes_on, stops_after, Ran, ran, burns_of, run}
use Rattle.burns.proofs.Turns.{stops_later}
use Rattle.burns.specs.Cells.{full, Grown}
use Rattle.burns.proofs.Cells.{grown_burn, burn_before, burn_fills, turn_keeps, grown_burns, cut_not_whole, stopped_not_whole, cut_not_stopped}
use Rattle.burns.specs.Stops.{first, rest, NoneSetIn}

-- ---- all that is said of going on is in these laws

-- it does where a zeroizable partition of these cells is marked
pub on_marked : (c : List ℕ) → goes_on c ≡ marked true c
unfolding goes_on
on_marked c = refl

-- more fuses never stop it
pub on_grown : {marks c d : List ℕ} → Grown marks c d → goes_on c ≡ true → goes_on d ≡ true
on_grown {marks} {c} {d} g on = on_marked d ∙ marked_mono true c d g.len (λ j. (g.each j).kept) (sym (on_marked c) ∙ on)

-- it hangs on the last two cells, the indicator
pub on_same : (n : ℕ) (c d : List ℕ) → 2 ≤ n → n % 2 ≡ 0 → length c ≡ n → length d ≡ n → ((j : ℕ) → n - 2 ≤ j → j < n → get_or c j 0 ≡ get_or d j 0)
    → goes_on c ≡ goes_on d
unfolding goes_on marked
on_same n c d two even p q f =
    let low = f (2 * (n / 2 - 1)) (omega arith) (omega arith) in
    let high = f (2 * (n / 2 - 1) + 1) (omega arith) (omega arith) in
    rw (p, q, low, high)

-- ---- a run by its first burn, the indicator's

-- the run is cut in it, or stops after it, or goes on with the rest: what holds of all three holds of the run
pub first_keeps : (P : Ran → Type 0) (marks : List ℕ) (software : Bool) (k mask n : ℕ) (c : List ℕ)
    → P (ran Cut (carry marks (pair_from (n - 2)) mask (start c))) → (goes_on (first marks n c).cells ≡ false → P (ran Stopped (first marks n c)))
    → ((j : ℕ) → goes_on (first marks n c).cells ≡ true → P (burns_of marks mask j (rest software n) (first marks n c)))
    → P (burns_of marks mask k (order software n) (start c))
unfolding burns_of order stops_after
first_keeps P marks software zero mask n c p q r = p
first_keeps P marks software (suc k) mask n c p q r =
    turn_keeps P marks mask k (pair_from (n - 2)) (rest software n) (start c) (λ b. q (not-true _ b)) (λ b. r k (not-false _ b))

module _ (marks : List ℕ) (mask : ℕ) where
  -- only the first burn can stop a run
  pub past_first : (word : Word) (t : Tally) → 1 ≤ t.burns → let u : Tally = carry marks word all_ones t in stops_after u.burns u.cells ≡ false
  past_first word t l = sym (stops_later (t.burns + 1) _ (λ e. omega arith))

  later_on : (k : ℕ) (words : List Word) (t : Tally) → 1 ≤ t.burns → (burns_of marks mask k words t).end ≡ Stopped → ⊥
  unfolding burns_of
  later_on k [] t l e = stopped_not_whole (sym e)
  later_on zero (word ∷ words) t l e = cut_not_stopped e
  later_on (suc k) (word ∷ words) t l e = later_on k words (carry marks word all_ones t) (omega arith) (rw (past_first word t l) at e)

-- a run that stops has burned the indicator alone, and does not go on from what that left
pub run_stopped : (marks : List ℕ) (software : Bool) (k mask : ℕ) (s : List ℕ) → (run marks software k mask s).end ≡ Stopped
    → ((run marks software k mask s).tally.cells ≡ burn_word marks (length s - 2) true all_ones s) × (goes_on (burn_word marks (length s - 2) true all_ones s) ≡ false)
run_stopped marks software k mask s =
    let after : List ℕ = burn_word marks (length s - 2) true all_ones s in
    first_keeps (λ (r : Ran). r.end ≡ Stopped → (r.tally.cells ≡ after) × (goes_on after ≡ false)) marks software k mask (length s) s
    (λ e. absurd (cut_not_stopped e)) (λ off _. (refl, off))
    (λ j _ e. absurd (later_on marks mask j (rest software (length s)) (first marks (length s) s) (omega arith) e))

-- and it stops where it does not, unless its first burn was cut
run_stops : (marks : List ℕ) (software : Bool) (k mask : ℕ) (s : List ℕ) → 1 ≤ k → goes_on (burn_word marks (length s - 2) true all_ones s) ≡ false
    → (run marks software k mask s).end ≡ Stopped
unfolding burns_of order stops_after
run_stops marks software zero mask s l off = absurd (omega arith)
run_stops marks software (suc k) mask s l off = rw off

-- where it goes through its order, a run would go on from what it leaves: the partition is marked
pub whole_on : (marks : List ℕ) (software : Bool) (k mask : ℕ) (c : List ℕ) → (run marks software k mask c).end ≡ Whole
    → goes_on (run marks software k mask c).tally.cells ≡ true
whole_on marks software k mask c =
    first_keeps (λ (r : Ran). r.end ≡ Whole → goes_on r.tally.cells ≡ true) marks software k mask (length c) c
    (λ e. absurd (cut_not_whole e)) (λ _ e. absurd (stopped_not_whole e))
    (λ j on _. on_grown (grown_burns marks mask j (rest software (length c)) (first marks (length c) c)) on)

-- ---- request P4, "15 is given exactly when no indicator fuse is set after its burn"

module _ (marks : List ℕ) (software : Bool) (k mask : ℕ) (s : List ℕ) (two : 2 ≤ length s) (even : length s % 2 ≡ 0) where
  abbrev burned : List ℕ
  burned = burn_word marks (length s - 2) true all_ones s

  burned_long : length burned ≡ length s
  burned_long = (grown_burn marks (length s - 2) true all_ones s).len

  burned_at : (j : ℕ) → length s ≤ j + 2 → j < length s → get_or burned j 0 ≡ full (get_or marks j 0) (get_or s j 0)
  burned_at j a b = burn_fills marks s j b (length s - 2) true (omega arith) (omega arith)

  off_none : goes_on burned ≡ false → NoneSetIn marks s
  off_none off j a b =
      sym (burned_at j a b)
      ∙ (unmarked_exactly burned (rw burned_long two) (rw burned_long even)).0 (sym (on_marked burned) ∙ off) j (rw burned_long a) (rw burned_long b)

  none_off : NoneSetIn marks s → goes_on burned ≡ false
  none_off none =
      on_marked burned
      ∙ (unmarked_exactly burned (rw burned_long two) (rw burned_long even)).1
      (λ j a b. let x = rw burned_long at a in let y = rw burned_long at b in burned_at j x y ∙ none j x y)

  pub stopped_exactly : 1 ≤ k → ((run marks software k mask s).end ≡ Stopped) ↔ NoneSetIn marks s
  stopped_exactly l = ((λ e. off_none (run_stopped marks software k mask s e).1), λ none. run_stops marks software k mask s l (none_off none))

  -- its burn then sets nothing
  pub stopped_same : (run marks software k mask s).end ≡ Stopped → (run marks software k mask s).tally.cells ≡ s
  stopped_same e =
      let there = run_stopped marks software k mask s e in
      there.0 ∙ ext_get_or 0 burned s burned_long
      (λ j l.
      let b = rw burned_long at l in
      ⊎_elim
      (λ (a : j < length s - 2). burn_before marks (length s - 2) true all_ones s j a)
      (λ (a : length s - 2 ≤ j).
      let zero = off_none there.1 j (omega arith) b in
      burned_at j (omega arith) b ∙ zero ∙ sym (sub_none (subst (λ (x : ℕ). get_or s j 0 ⊆ x) zero (sub_or_l (get_or s j 0) _))))
      (lt_or_le j (length s - 2)))
