-- What document 01 says of erasures and cuts, from their definition: the lowest refusal is given, a cut that comes too late is none, and
-- each answer tells the burns that the order reaches. Assumes nothing.
-- The definitions stand in specs/Cuts.antt.
use Rattle.std.specs.Prelude.{ℕ, ◌≤◌, ◌<◌, ◌≡◌, Bool, true, false, List, length}
use Rattle.std.proofs.Math.Path.{refl, ap}
use Rattle.std.proofs.Common.{◌∙◌, arith, leb-false, eqb-true, ne_eqb}
use Rattle.std.proofs.lemmas.Bool.{not-false}
use Rattle.laws.specs.Tests.{and}
use Rattle.refusal.specs.Refusals.{first_elim, first_both, not_numbered, GivenFirst, given_first, GivenLowest, lowest_tells}
use Rattle.refusal.specs.declared.Refusal.{Refusal}
use Rattle.refusal.specs.Numbers.{number}
use Rattle.context.specs.State.{State, Outcome, refusing, on_cells}
use Rattle.map.specs.Map.{header_of, entry_of, software, map_good}
use Rattle.map.proofs.Laws.{map_entry}
use Rattle.burns.specs.declared.End.{End}
use Rattle.burns.specs.declared.End.TheVariants.{Whole, Stopped, Cut as CutEnd}
use Rattle.burns.specs.Run.{Tally, Ran, order}
use Rattle.burns.proofs.Turns.{order_fewer}
use Rattle.burns.proofs.Ends.{run_late, run_early, run_burns, never_cut}
use Rattle.drive.specs.Drive.{Whole as WholeDrive, whole_arrays, cells_of}
use Rattle.erasure.specs.declared.Answer.{Answer}
use Rattle.erasure.specs.Erasure.{erase_tests, in_whole, run_on, never, answer_by, ran_of, unburned, burning, erase_of, erasure_of, is_cut, Told}
use Rattle.erasure.proofs.Laws.{part_long, part_small}
use Rattle.erasure.specs.Cuts.{burns_in, BurnsTold}

-- "Checked in ascending order; the lowest that applies is given, and none is given otherwise"
module _ (image marks : List ℕ) (i k mask : ℕ) (s : State) where
  pub erase_first : GivenFirst (refusing unburned s) (erase_tests image marks i s) (burning image marks i k mask s) (erase_of image marks i k mask s)
  unfolding erase_of
  erase_first = given_first (refusing unburned s) (burning image marks i k mask s) (erase_tests image marks i s)

  pub erase_lowest : GivenLowest (refusing unburned s) (erase_tests image marks i s) (burning image marks i k mask s) (erase_of image marks i k mask s)
  unfolding erase_of
  erase_lowest = lowest_tells (refusing unburned s) (burning image marks i k mask s) 1 (erase_tests image marks i s) refl

-- ---- the order of a partition is shorter than any cut that an erasure names which is not cut

module _ (image cells : List ℕ) (i : ℕ) (whole : WholeDrive image cells) (l : i < (header_of image).partitions) where
  order_ends : length (order (software (entry_of image i)) (length (cells_of image cells i))) ≤ never
  order_ends =
      let long = part_long image cells i whole l in
      let rules = map_entry image whole.good i l in
      omega (arith, order_fewer (software (entry_of image i)) (length (cells_of image cells i)) (omega (arith, rules.n_least)), part_small image cells i whole l)

  -- so an erasure that is not to be cut is not
  pub uncut_judged : (marks : List ℕ) (mask : ℕ) → (run_on image cells marks i never mask).end ≡ CutEnd → ⊥
  unfolding run_on
  uncut_judged marks mask e = never_cut (cells_of image marks i) (software (entry_of image i)) (cells_of image cells i) never order_ends mask e

  -- and a run that would end before its cut is that erasure's, any other is cut
  module _ (marks : List ℕ) (k mask : ℕ) where
    late_run : (run_on image cells marks i never 0).tally.burns ≤ k → run_on image cells marks i k mask ≡ run_on image cells marks i never 0
    unfolding run_on
    late_run late = ap (in_whole image cells i) (run_late (cells_of image marks i) (software (entry_of image i)) (cells_of image cells i) never order_ends k mask late)

    early_run : k < (run_on image cells marks i never 0).tally.burns → (run_on image cells marks i k mask).end ≡ CutEnd
    unfolding run_on
    early_run early = run_early (cells_of image marks i) (software (entry_of image i)) (cells_of image cells i) never order_ends k mask early

    -- in any case it is not cut where its order has at most k burns
    pub past_order : length (order (software (entry_of image i)) (entry_of image i).n) ≤ k → (run_on image cells marks i k mask).end ≡ CutEnd → ⊥
    unfolding run_on
    past_order past e = never_cut (cells_of image marks i) (software (entry_of image i)) (cells_of image cells i) k (rw (part_long image cells i whole l) past) mask e

burns_in_lem : (image : List ℕ) (i : ℕ) (t : Tally) (end : End) → burns_in (answer_by end image i t) ≡ t.burns
burns_in_lem image i t Whole = refl
burns_in_lem image i t Stopped = refl
burns_in_lem image i t CutEnd = refl

-- a drive that 1 and 2 do not concern
pub whole_by : (image cells marks : List ℕ) → map_good image ≡ true → whole_arrays image cells marks ≡ true → WholeDrive image cells
unfolding whole_arrays
whole_by image cells marks good arrays = record { good = good; long = eqb-true _ _ (and _ _ arrays).0 }

module _ (image marks : List ℕ) (i k mask : ℕ) (s : State) where
  abbrev tests : List (Bool × Refusal)
  tests = erase_tests image marks i s

  -- "If the erasure would end before burn k, it runs as uncut", and is then "uncut" though it names a cut
  pub late_is_uncut : burns_in (erasure_of image marks i s).told ≤ k → erase_of image marks i k mask s ≡ erasure_of image marks i s
  unfolding erase_of
  late_is_uncut =
      first_both (λ (o u : Outcome Told State). burns_in u.told ≤ k → o ≡ u)
      (refusing unburned s) (refusing unburned s) tests (burning image marks i k mask s) (burning image marks i never 0 s)
      (λ n _ late. refl)
      (λ none late.
      let r = run_on image s.cells marks i never 0 in
      ap (λ (x : Ran). on_cells s (ran_of image i x))
      (late_run image s.cells i (whole_by image s.cells marks (not-false _ (none 0)) (not-false _ (none 1))) (leb-false _ _ (none 2)) marks k mask
      (rw (burns_in_lem image i r.tally r.end) at late)))

  -- otherwise it is cut
  pub early_is_cut : k < burns_in (erasure_of image marks i s).told → is_cut (erase_of image marks i k mask s).told ≡ true
  unfolding erase_of
  early_is_cut =
      first_both (λ (o u : Outcome Told State). k < burns_in u.told → is_cut o.told ≡ true)
      (refusing unburned s) (refusing unburned s) tests (burning image marks i k mask s) (burning image marks i never 0 s)
      (λ n _ early. absurd (omega arith))
      (λ none early.
      let r = run_on image s.cells marks i never 0 in
      rw
      (early_run image s.cells i (whole_by image s.cells marks (not-false _ (none 0)) (not-false _ (none 1))) (leb-false _ _ (none 2)) marks k mask
      (rw (burns_in_lem image i r.tally r.end) at early)))

-- an erasure that names no cut is not cut
pub erasure_uncut : (image marks : List ℕ) (i : ℕ) (s : State) → is_cut (erasure_of image marks i s).told ≡ false
unfolding erase_of
erasure_uncut image marks i s =
    first_elim (λ (o : Outcome Told State). is_cut o.told ≡ false) (refusing unburned s) (erase_tests image marks i s) (burning image marks i never 0 s)
    (λ n _. refl)
    (λ none. by (run_on image s.cells marks i never 0).end
    (λ e. uncut_judged image s.cells i (whole_by image s.cells marks (not-false _ (none 0)) (not-false _ (none 1))) (leb-false _ _ (none 2)) marks 0 e))
  where
    by : (end : End) → (end ≡ CutEnd → ⊥) → is_cut (answer_by end image i (run_on image s.cells marks i never 0).tally) ≡ false
    by Whole o = refl
    by Stopped o = refl
    by CutEnd o = absurd (o refl)

run_tells : (image cells marks : List ℕ) (i k mask : ℕ) → WholeDrive image cells → (l : i < (header_of image).partitions) → (end : End)
    → (run_on image cells marks i k mask).end ≡ end → BurnsTold image i k (answer_by end image i (run_on image cells marks i k mask).tally)
unfolding run_on
run_tells image cells marks i k mask whole l Whole e =
    (run_burns (cells_of image marks i) (software (entry_of image i)) k mask (cells_of image cells i)).whole e
    ∙ ap (λ (n : ℕ). length (order (software (entry_of image i)) n)) (part_long image cells i whole l)
run_tells image cells marks i k mask whole l Stopped e = (run_burns (cells_of image marks i) (software (entry_of image i)) k mask (cells_of image cells i)).stopped e
run_tells image cells marks i k mask whole l CutEnd e = (run_burns (cells_of image marks i) (software (entry_of image i)) k mask (cells_of image cells i)).cut e

pub burns_told : (image marks : List ℕ) (i k mask : ℕ) (s : State) → BurnsTold image i k (erase_of image marks i k mask s).told
unfolding erase_of
burns_told image marks i k mask s =
    let tests = erase_tests image marks i s in
    first_elim (λ (o : Outcome Told State). BurnsTold image i k o.told) (refusing unburned s) tests (burning image marks i k mask s)
    (λ r a. rw (ne_eqb (number r) 15 (λ e. not_numbered 15 tests refl r a e)))
    (λ none. run_tells image s.cells marks i k mask (whole_by image s.cells marks (not-false _ (none 0)) (not-false _ (none 1))) (leb-false _ _ (none 2))
    (run_on image s.cells marks i k mask).end refl)
