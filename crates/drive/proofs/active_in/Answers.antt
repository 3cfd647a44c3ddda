-- `drive::active_in` meets its contract: the loop's invariant: the search from the next on answers for the whole. Assumes nothing.
use mathlib.Core.Path.{sym, ap, ◌∙◌}
use native.Mathlib.Omega.{arith}
use Rattle.laws.proofs.Below.{first_here, first_next, first_end}
use Rattle.drive.specs.Drive.{open_slot}
use Rattle.drive.specs.Laws.{active_at, active_none, open_is}
use Rattle.drive.proofs.active_in.Goals as goal

pub loop-i-preserved : goal.loop-i-preserved
loop-i-preserved c =
    let s = c.in-Some.ensures.steps in
    let t = ap (open_slot c.args.image.now c.args.cells.now) (sym s.1.1) ∙ sym (open_is _ _ _ _ _ c.slot-slot.ensures c.is_present.ensures) ∙ c.if-is_present.false in
    rw (s.0, s.1.2) (c.loop-i.invariant.0 ∙ first_next _ _ _ (omega (arith, s.1.0)) t, c.loop-i.invariant.1, omega (arith, s.1.0))

pub returns-in_default : goal.returns-in_default
returns-in_default c =
    let s = c.in_default.ensures.steps in
    sym (active_none _ _ (c.loop-i.invariant.0 ∙ first_end _ _ _ (omega (arith, s.1.0, c.loop-i.invariant.2)) ∙ c.loop-i.invariant.1))

pub returns-then-is_present : goal.returns-then-is_present
returns-then-is_present c =
    let s = c.in-Some.ensures.steps in
    let t = ap (open_slot c.args.image.now c.args.cells.now) (sym s.1.1) ∙ sym (open_is _ _ _ _ _ c.slot-slot.ensures c.is_present.ensures) ∙ c.if-is_present.true in
    let found = c.loop-i.invariant.0 ∙ first_here _ _ _ (omega (arith, s.1.0)) t ∙ sym s.1.1 in
    c.slot-slot.ensures ∙ sym (active_at _ _ _ (omega (arith, s, c.loop-i.invariant.1)) found)
