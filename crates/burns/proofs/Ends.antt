-- How a run ends, by where it is cut, and how many burns it carries out. Assumes nothing.
-- The definitions stand in specs/Ends.antt.
use Prim.Native.Nat.{ℕ, zero, suc, ◌+◌, ◌≤◌, ◌<◌}
use Rattle.std.specs.Prelude.{Bool, true, false, cond, ◌≡◌}
use Rattle.std.proofs.Math.Path.{refl}
use Rattle.std.proofs.Common.{sym, ◌∙◌, eqb-true}
use mathlib.Core.List.{List, [], ◌∷◌}
use native.Mathlib.Omega.{arith}
use Rattle.std.proofs.Math.ListN.{length}
use Rattle.laws.specs.Tests.{and}
use Rattle.fuse.specs.Fuse.{all_ones}
use Rattle.burns.specs.declared.Word.{Word}
use Rattle.burns.specs.declared.End.TheVariants.{Cut}
use Rattle.burns.specs.Run.{order, Tally, start, carry, stops_after, Ran, burns_of, run}
use Rattle.burns.proofs.Cells.{turn_keeps, cut_not_whole, stopped_not_whole, cut_not_stopped}
use Rattle.burns.specs.Ends.{BurnCount}

-- ---- a run that is cut too late is not cut, and any other is

module _ (marks : List ℕ) where
  -- a run carries out no fewer burns than it has
  burns_grow : (mask k : ℕ) (words : List Word) (t : Tally) → t.burns ≤ (burns_of marks mask k words t).tally.burns
  unfolding burns_of
  burns_grow mask k [] t = omega arith
  burns_grow mask zero (word ∷ words) t = omega arith
  burns_grow mask (suc k) (word ∷ words) t =
      turn_keeps (λ (r : Ran). t.burns ≤ r.tally.burns) marks mask k word words t
      (λ _. omega arith) (λ _. omega (arith, burns_grow mask k words (carry marks word all_ones t)))

  -- a run of these words that no cut reaches
  abbrev uncut : (never : ℕ) (words : List Word) (t : Tally) → Ran
  uncut never words t = burns_of marks 0 never words t

  either : (P : Ran → Ran → Type 0) (test : Bool) (x y x' y' : Ran) → P x x' → P y y' → P (cond test x y) (cond test x' y')
  either P true x y x' y' p q = p
  either P false x y x' y' p q = q

  burns_late : (mask k never : ℕ) (words : List Word) (t : Tally) → length words ≤ never → (uncut never words t).tally.burns ≤ t.burns + k
      → burns_of marks mask k words t ≡ uncut never words t
  unfolding burns_of
  burns_late mask k never [] t l = λ late. refl
  burns_late mask zero never (word ∷ words) t l = λ late. absurd (more never l late)
    where
      more : (never : ℕ) → length (word ∷ words) ≤ never → (uncut never (word ∷ words) t).tally.burns ≤ t.burns + 0 → ⊥
      more zero l = λ late. omega arith
      more (suc never) l =
          turn_keeps (λ (r : Ran). r.tally.burns ≤ t.burns + 0 → ⊥) marks 0 never word words t
          (λ _ late. omega arith) (λ _ late. omega (arith, burns_grow 0 never words (carry marks word all_ones t)))
  burns_late mask (suc k) zero (word ∷ words) t l = absurd (omega arith)
  burns_late mask (suc k) (suc never) (word ∷ words) t l =
      either (λ (r q : Ran). q.tally.burns ≤ t.burns + suc k → r ≡ q) (stops_after _ _) _ _ _ _
      (λ late. refl) (λ late. burns_late mask k never words (carry marks word all_ones t) (omega arith) (omega arith))

  burns_early : (mask k never : ℕ) (words : List Word) (t : Tally) → length words ≤ never → t.burns + k < (uncut never words t).tally.burns → (burns_of marks mask k words t).end ≡ Cut
  unfolding burns_of
  burns_early mask k never [] t l = λ early. absurd (omega arith)
  burns_early mask zero never (word ∷ words) t l = λ early. refl
  burns_early mask (suc k) zero (word ∷ words) t l = absurd (omega arith)
  burns_early mask (suc k) (suc never) (word ∷ words) t l =
      either (λ (r q : Ran). t.burns + suc k < q.tally.burns → r.end ≡ Cut) (stops_after _ _) _ _ _ _
      (λ early. absurd (omega arith)) (λ early. burns_early mask k never words (carry marks word all_ones t) (omega arith) (omega arith))

  burns_never : (mask never : ℕ) (words : List Word) (t : Tally) → length words ≤ never → (burns_of marks mask never words t).end ≡ Cut → ⊥
  unfolding burns_of
  burns_never mask never [] t l = λ e. cut_not_whole (sym e)
  burns_never mask zero (word ∷ words) t l = absurd (omega arith)
  burns_never mask (suc never) (word ∷ words) t l =
      turn_keeps (λ (r : Ran). r.end ≡ Cut → ⊥) marks mask never word words t
      (λ _ e. cut_not_stopped (sym e)) (λ _. burns_never mask never words (carry marks word all_ones t) (omega arith))

-- where the cut lies past the order, the run is not cut
module _ (marks : List ℕ) (software : Bool) (s : List ℕ) (never : ℕ) (l : length (order software (length s)) ≤ never) where
  pub never_cut : (mask : ℕ) → (run marks software never mask s).end ≡ Cut → ⊥
  never_cut mask = burns_never marks mask never (order software (length s)) (start s) l

  -- a run that would end before its cut, by its order or by the indicator, is the one that is not cut; any other is cut
  pub run_late : (k mask : ℕ) → (run marks software never 0 s).tally.burns ≤ k → run marks software k mask s ≡ run marks software never 0 s
  run_late k mask late = burns_late marks mask k never (order software (length s)) (start s) l (omega arith)

  pub run_early : (k mask : ℕ) → k < (run marks software never 0 s).tally.burns → (run marks software k mask s).end ≡ Cut
  run_early k mask early = burns_early marks mask k never (order software (length s)) (start s) l (omega arith)

-- ---- how many burns a run carries out

burns_counted : (marks : List ℕ) (mask k : ℕ) (words : List Word) (t : Tally) → BurnCount (t.burns + length words) (t.burns + (k + 1)) (burns_of marks mask k words t)
unfolding burns_of stops_after
burns_counted marks mask k [] t = record { whole = λ e. omega arith; cut = λ e. absurd (cut_not_whole (sym e)); stopped = λ e. absurd (stopped_not_whole (sym e)) }
burns_counted marks mask zero (word ∷ words) t = record { whole = λ e. absurd (cut_not_whole e); cut = λ e. omega arith; stopped = λ e. absurd (cut_not_stopped e) }
burns_counted marks mask (suc k) (word ∷ words) t =
    let next = burns_counted marks mask k words (carry marks word all_ones t) in
    turn_keeps (BurnCount (t.burns + length (word ∷ words)) (t.burns + (suc k + 1))) marks mask k word words t
    (λ b. record { whole = λ e. absurd (stopped_not_whole e); cut = λ e. absurd (cut_not_stopped (sym e)); stopped = λ e. eqb-true _ _ (and _ _ b).0 })
    (λ b. record { whole = λ e. next.whole e ∙ omega arith; cut = λ e. next.cut e ∙ omega arith; stopped = next.stopped })

pub run_burns : (marks : List ℕ) (software : Bool) (k mask : ℕ) (s : List ℕ) → BurnCount (length (order software (length s))) (k + 1) (run marks software k mask s)
run_burns marks software k mask s =
    let r = burns_counted marks mask k (order software (length s)) (start s) in
    record { whole = λ e. r.whole e ∙ omega arith; cut = λ e. r.cut e ∙ omega arith; stopped = r.stopped }
