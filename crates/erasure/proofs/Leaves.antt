-- What an erasure leaves of its partition, told by its own answer: one that ended leaves it erased or torn, and 15, which is given exactly
-- when no indicator fuse is set, leaves every cell. Assumes nothing.
-- The definitions stand in specs/Ends.antt.
use Rattle.std.specs.Prelude.{ℕ, ◌<◌, ◌≡◌, refl}
use Rattle.std.proofs.Common.{leb-false}
use Rattle.std.proofs.Math.Bool.{true}
use mathlib.Core.List.{List}
use Rattle.std.proofs.lemmas.Bool.{not-false}
use Rattle.refusal.specs.Refusals.{first_elim}
use Rattle.context.specs.State.{State, Outcome, refusing}
use Rattle.map.specs.Map.{header_of, entry_of, zeroizable}
use Rattle.burns.specs.declared.End.{End}
use Rattle.burns.specs.declared.End.TheVariants.{Whole, Stopped, Cut as CutEnd}
use Rattle.drive.specs.Drive.{Whole as WholeDrive}
use Rattle.erasure.specs.declared.Answer.{Answer}
use Rattle.erasure.specs.Erasure.{erase_tests, run_on, answer_by, unburned, burning, erase_of, erasure_of, cut_erasure_of, Told}
use Rattle.erasure.proofs.Cuts.{whole_by}
use Rattle.erasure.specs.Ends.{LeftAs}
use Rattle.erasure.proofs.Ends.{run_leaves}

-- ---- what an answer says of the partition: one that ended tells its short pairs and the first, any other nothing

-- of a run on a drive that was judged, as FERS makes it
pub run_left_as : (image cells marks : List ℕ) (i k mask : ℕ) → WholeDrive image cells → i < (header_of image).partitions → zeroizable (entry_of image i) ≡ true
    → (end : End) → (run_on image cells marks i k mask).end ≡ end
    → let t = (run_on image cells marks i k mask).tally in LeftAs image i (answer_by end image i t) t.cells
run_left_as image cells marks i k mask whole l may Whole e = run_leaves image cells marks i k mask whole l may e
run_left_as image cells marks i k mask whole l may Stopped e = tt
run_left_as image cells marks i k mask whole l may CutEnd e = tt

module _ (image marks : List ℕ) (i : ℕ) (s : State) where
  any_leaves : (k mask : ℕ) → let o = erase_of image marks i k mask s in LeftAs image i o.told o.after.cells
  unfolding erase_of
  any_leaves k mask =
      first_elim (λ (o : Outcome Told State). LeftAs image i o.told o.after.cells)
      (refusing unburned s) (erase_tests image marks i s) (burning image marks i k mask s)
      (λ n _. tt)
      (λ none.
      run_left_as image s.cells marks i k mask (whole_by image s.cells marks (not-false _ (none 0)) (not-false _ (none 1)))
      (leb-false _ _ (none 2)) (not-false _ (none 3)) (run_on image s.cells marks i k mask).end refl)

  -- the erasure, and the cut erasure, which may have ended before its cut
  pub erasure_leaves : let o = erasure_of image marks i s in LeftAs image i o.told o.after.cells
  erasure_leaves = any_leaves _ 0

  pub cut_erasure_leaves : (k mask : ℕ) → let o = cut_erasure_of image marks i k mask s in LeftAs image i o.told o.after.cells
  cut_erasure_leaves = any_leaves
