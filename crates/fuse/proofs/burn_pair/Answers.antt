-- `fuse::burn_pair` meets its contract: both cells as one number, by `pair_burned`. Assumes nothing.
use Prim.Native.Nat.{ℕ, ◌-◌}
use mathlib.Core.Path.{ap, ap₂, ◌∙◌}
use native.Mathlib.Omega.{arith}
use lib.Bits.{bit_and, bit_or}
use lib.Count.{ones}
use Rattle.fuse.specs.Fuse.{all_ones}
use Rattle.fuse.specs.Charge.{PairBurned}
use Rattle.fuse.proofs.Charge.{pair_burned}
use Rattle.fuse.proofs.burn_pair.Goals as goal
use Rattle.fuse.proofs.burn_pair.Goals.{After-pair-stuck}

-- what the burn leaves in the pair that was read
abbrev after : After-pair-stuck → ℕ
after c = bit_or c.pair-before.result (bit_and c.args.value (all_ones - c.pair-stuck.result))

burned : (c : After-pair-stuck) → let a = c.args in PairBurned a.marks.now a.at a.value a.cells.now (after c)
burned c =
    let a = c.args in
    pair_burned a.marks.now a.at a.value a.cells.now c.ranges.value.fits c.requires.0
    (omega arith) (omega arith) (omega arith) (omega arith)
    (ap₂ (λ (x y : ℕ). bit_or x (bit_and a.value (all_ones - y))) c.pair-before.ensures c.pair-stuck.ensures)

pub overflow_cast-cells-2 : goal.overflow_cast-cells-2
overflow_cast-cells-2 c = record { fits = (burned (goal.at.overflow_cast-cells-2 c).After-pair-stuck).high }

pub overflow_sub-result : goal.overflow_sub-result
overflow_sub-result c = omega (arith, (burned (goal.at.overflow_sub-result c).After-pair-stuck).grows, c.pair-before.ensures)

pub returns : goal.returns
returns c =
    let said = burned (goal.at.returns c).After-pair-stuck in
    (said.stored, ap (λ (x : ℕ). ones (after (goal.at.returns c).After-pair-stuck - x)) c.pair-before.ensures ∙ said.new)
