-- `drive::check_drive` meets its contract: refusal 1, refusal 2, or neither. Assumes nothing.
use mathlib.Core.Path.{sym, ap, ◌∙◌}
use mathlib.Core.Bool.{not}
use Rattle.drive.specs.Laws.{check_at, check_past, arrays_are}
use Rattle.drive.proofs.check_drive.Goals as goal

pub returns-then-not-is_good : goal.returns-then-not-is_good
returns-then-not-is_good c = check_at _ _ _ 0 tt (ap not (sym c.is_good.ensures) ∙ c.if-not-is_good.true-raw)

pub returns-then-cells-c : goal.returns-then-cells-c
returns-then-cells-c c =
    let good = ap not (sym c.is_good.ensures) ∙ c.if-not-is_good.false-raw in
    check_past _ _ _ (good, (ap not (sym (arrays_are _ _ _ _ c.read_header-header.ensures) ∙ c.if-cells-c.true), tt)) c.read_header-header.ensures

pub returns : goal.returns
returns c =
    let good = ap not (sym c.is_good.ensures) ∙ c.if-not-is_good.false-raw in
    check_at _ _ _ 1 (good, tt) (ap not (sym (arrays_are _ _ _ _ c.read_header-header.ensures) ∙ c.if-cells-c.false))
