-- `report::read_cells` meets its contract: one more number is stored. Assumes nothing.
use Prim.Native.Nat.{◌+◌, ◌*◌}
use mathlib.Core.Path.{◌≡◌, ap, ◌∙◌}
use native.Mathlib.Omega.{arith}
use Rattle.laws.specs.Below.{join_below}
use Rattle.endian.specs.Endian.{u32_at}
use Rattle.report.proofs.Laws.{stored}
use Rattle.std.proofs.Common.{rules}
use Rattle.report.proofs.read_cells.Goals as goal

pub loop-k-init : goal.loop-k-init
unfolding join_below
loop-k-init c = search rules

pub loop-k-preserved : goal.loop-k-preserved
loop-k-preserved c =
    let e : 4 * c.loop-k.k ≡ 0 + 4 * c.loop-k.k = omega arith in
    stored _ _ _ _ _ _ (omega arith) (c.u32_at.ensures ∙ ap (u32_at c.args.arrays.now) e) c.loop-k.invariant
