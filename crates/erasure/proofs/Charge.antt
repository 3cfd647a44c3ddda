-- Request P8, of an erasure: the fuses newly set that it reports are those by which the set fuses of the whole array have grown, since nothing
-- outside the partition changes; a refusal reports 0, and so does 15, "as its burn sets nothing". Assumes nothing.
use Rattle.std.specs.Prelude.{ℕ, ◌+◌, ◌<◌, ◌≡◌, refl, List, ◌++◌, take, drop}
use Rattle.std.proofs.Common.{ap, arith, leb-false}
use Rattle.std.proofs.lemmas.Bool.{not-false}
use Rattle.refusal.specs.Refusals.{first_elim}
use Rattle.context.specs.State.{State, Outcome, refusing}
use Rattle.map.specs.Map.{header_of, entry_of, software}
use Rattle.fuse.specs.Fuse.{set_fuses}
use Rattle.fuse.proofs.Charge.{set_append, set_split}
use Rattle.burns.specs.declared.End.{End}
use Rattle.burns.specs.declared.End.TheVariants.{Whole, Stopped, Cut as CutEnd}
use Rattle.burns.proofs.Charge.{run_charge}
use Rattle.drive.specs.Drive.{Whole as WholeDrive, cells_of}
use Rattle.erasure.specs.declared.Answer.{Answer}
use Rattle.erasure.specs.Erasure.{erase_tests, put_part, run_on, answer_by, told_new, ran_of, unburned, burning, erase_of, Told}
use Rattle.erasure.proofs.Cuts.{whole_by}
use Rattle.erasure.proofs.Ends.{stops_same}

-- other cells in the place of a partition's
put_charge : (image cells : List ℕ) (i : ℕ) (part : List ℕ) (new : ℕ) → set_fuses part ≡ set_fuses (cells_of image cells i) + new
    → set_fuses (put_part image cells i part) ≡ set_fuses cells + new
put_charge image cells i part new e =
    let x = entry_of image i in
    let rest : List ℕ = drop x.first cells in
    omega (
      arith,
      e,
      set_append (take x.first cells) (part ++ drop x.n rest),
      set_append part (drop x.n rest),
      set_split x.first cells,
      set_split x.n rest,
    )

module _ (image cells marks : List ℕ) (i k mask : ℕ) where
  run_on_charge : let t = (run_on image cells marks i k mask).tally in set_fuses t.cells ≡ set_fuses cells + t.new
  unfolding run_on
  run_on_charge = put_charge image cells i _ _ (run_charge (cells_of image marks i) (software (entry_of image i)) k mask (cells_of image cells i))

  -- a run on a drive that was judged, as FERS makes it
  pub ran_charge : WholeDrive image cells → i < (header_of image).partitions
      → let o = ran_of image i (run_on image cells marks i k mask) in set_fuses o.after ≡ set_fuses cells + told_new o.told
  ran_charge whole l = by (run_on image cells marks i k mask).end refl
    where
      by : (end : End) → (run_on image cells marks i k mask).end ≡ end
          → let t = (run_on image cells marks i k mask).tally in set_fuses t.cells ≡ set_fuses cells + told_new (answer_by end image i t)
      by Whole e = run_on_charge
      by Stopped e = omega (arith, ap set_fuses (stops_same image cells marks i k mask whole l e))
      by CutEnd e = run_on_charge

-- the erasure and the cut erasure, which leave the same cells
pub erase_charge : (image marks : List ℕ) (i k mask : ℕ) (s : State)
    → let o = erase_of image marks i k mask s in set_fuses o.after.cells ≡ set_fuses s.cells + told_new o.told
unfolding erase_of
erase_charge image marks i k mask s =
    first_elim (λ (o : Outcome Told State). set_fuses o.after.cells ≡ set_fuses s.cells + told_new o.told)
    (refusing unburned s) (erase_tests image marks i s) (burning image marks i k mask s)
    (λ n _. omega arith)
    (λ none. ran_charge image s.cells marks i k mask (whole_by image s.cells marks (not-false _ (none 0)) (not-false _ (none 1))) (leb-false _ _ (none 2)))
