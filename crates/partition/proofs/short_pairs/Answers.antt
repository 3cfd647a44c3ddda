-- `partition::short_pairs` meets its contract: a pair more is counted if it is short. Assumes nothing.
use mathlib.Core.Path.{refl, sym, ◌∙◌}
use mathlib.Core.Bool.{true, false}
use native.Mathlib.Omega.{arith}
use Rattle.laws.specs.Below.{count_below}
use Rattle.laws.proofs.Below.{count_step, count_le}
use Rattle.partition.specs.Partition.{short_at}
use Rattle.partition.proofs.short_pairs.Goals as goal
use Rattle.partition.proofs.short_pairs.Goals.{else-short_at, then-short_at}

pub loop-j-init : goal.loop-j-init
unfolding count_below
loop-j-init c = refl

pub overflow_add-short : goal.overflow_add-short
overflow_add-short c =
    let a = c.args in
    omega (arith, count_le (short_at a.bound a.part.now) c.loop-j.j)

pub loop-j-preserved : goal.loop-j-preserved
loop-j-preserved c =
    let a = c.args in
    let said = c.short_at.ensures in
    let turn = count_step (short_at a.bound a.part.now) c.loop-j.j in
    elim c.if-short_at.branch [ then-short_at w ↦ omega (arith, turn true (sym said ∙ w.if-short_at.true)) | else-short_at w ↦ omega (arith, turn false (sym said ∙ w.if-short_at.false)) ]
