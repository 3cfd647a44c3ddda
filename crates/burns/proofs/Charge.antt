-- Request P8, of a run: whatever the cut, its burns add to the set fuses what they report together. Assumes nothing.
use Rattle.std.specs.Prelude.{ℕ, zero, suc, ◌+◌, ◌≡◌, Bool, List, [], ◌∷◌, length}
use Rattle.std.proofs.Common.{arith}
use Rattle.fuse.specs.Fuse.{all_ones, set_fuses}
use Rattle.fuse.proofs.Charge.{burn_charge}
use Rattle.burns.specs.declared.Word.{Word}
use Rattle.burns.specs.Run.{order, Tally, start, carry, Ran, burns_of, run}
use Rattle.burns.proofs.Cells.{turn_keeps}

-- from t on
abbrev Adds : Tally → Ran → Type 0
Adds t r = set_fuses r.tally.cells + t.new ≡ set_fuses t.cells + r.tally.new

burns_add : (marks : List ℕ) (mask k : ℕ) (words : List Word) (t : Tally) → Adds t (burns_of marks mask k words t)
unfolding burns_of
burns_add marks mask k [] t = omega arith
burns_add marks mask zero (word ∷ words) t = omega (arith, burn_charge marks word.at word.wide mask t.cells)
burns_add marks mask (suc k) (word ∷ words) t =
    let one = burn_charge marks word.at word.wide all_ones t.cells in
    turn_keeps (Adds t) marks mask k word words t (λ _. omega (arith, one)) (λ _. omega (arith, one, burns_add marks mask k words (carry marks word all_ones t)))

pub run_charge : (marks : List ℕ) (software : Bool) (k mask : ℕ) (cells : List ℕ)
    → let t = (run marks software k mask cells).tally in set_fuses t.cells ≡ set_fuses cells + t.new
run_charge marks software k mask cells = omega (arith, burns_add marks mask k (order software (length cells)) (start cells))
