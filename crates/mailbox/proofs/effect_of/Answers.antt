-- `mailbox::effect_of` meets its contract: by where the judging ends. Assumes nothing.
use mathlib.Core.Path.{sym, ◌∙◌}
use Rattle.std.proofs.lemmas.Result.{err_from_is_err_and}
use Rattle.context.specs.State.{state}
use Rattle.drive.specs.Laws.{judged}
use Rattle.mailbox.proofs.Laws.{judged_drive, judged_lent, judged_request, judged_own, judged_passed, judged_done, lent_table, own_allowed}
use Rattle.mailbox.proofs.effect_of.Goals as goal

pub returns-in_err-check_drive : goal.returns-in_err-check_drive
returns-in_err-check_drive c =
    let a = c.args in
    let told = err_from_is_err_and c.from_residual.result c.from_residual.ensures.1 in
    rw (told.1, told.2) (judged_drive _ _ _ _ _ _ (state a.cells.now a.context.now) _ c.in_err-check_drive.ensures)

pub returns-then-is_lent_bad : goal.returns-then-is_lent_bad
returns-then-is_lent_bad c =
    let a = c.args in
    judged_lent _ _ _ _ _ _ (state a.cells.now a.context.now) c.in_ok-check_drive.ensures (sym c.is_lent_bad.ensures ∙ c.if-is_lent_bad.true)

pub returns-in_err-check_request : goal.returns-in_err-check_request
returns-in_err-check_request c =
    let a = c.args in
    let told = err_from_is_err_and c.from_residual-in_err-check_request.result c.from_residual-in_err-check_request.ensures.1 in
    rw (told.1, told.2) (judged_request _ _ _ _ _ _ (state a.cells.now a.context.now) c.in_ok-check_drive.ensures (sym c.is_lent_bad.ensures ∙ c.if-is_lent_bad.false) _ c.from-command.ensures _ c.in_err-check_request.ensures)

pub invariant_of-check_own : goal.invariant_of-check_own
invariant_of-check_own c = record { whole = (judged _ _ _ _ c.in_ok-check_drive.ensures).whole }

pub returns-in_err-check_own : goal.returns-in_err-check_own
returns-in_err-check_own c =
    let a = c.args in
    let told = err_from_is_err_and c.from_residual-in_err-check_own.result c.from_residual-in_err-check_own.ensures.1 in
    rw (told.1, told.2) (judged_own _ _ _ _ _ _ (state a.cells.now a.context.now) c.in_ok-check_drive.ensures (sym c.is_lent_bad.ensures ∙ c.if-is_lent_bad.false) _ c.from-command.ensures c.in_ok-check_request.ensures _ c.in_err-check_own.ensures)

pub carry_out-requires : goal.carry_out-requires
carry_out-requires c =
    let a = c.args in
    let drive = judged _ _ _ _ c.in_ok-check_drive.ensures in
    let good = sym c.is_lent_bad.ensures ∙ c.if-is_lent_bad.false in
    own_allowed _ a.image.now a.marks.now a.request.now (state a.cells.now a.context.now) drive.whole (drive.marks_long ∙ sym drive.whole.long) (lent_table a.room a.block a.context.now good)
    (judged_passed _ _ _ _ a.room a.block (state a.cells.now a.context.now) c.in_ok-check_drive.ensures good _ c.from-command.ensures c.in_ok-check_request.ensures c.in_ok-check_own.ensures)

pub returns : goal.returns
returns c =
    let a = c.args in
    judged_done _ _ _ _ _ _ (state a.cells.now a.context.now) c.in_ok-check_drive.ensures (sym c.is_lent_bad.ensures ∙ c.if-is_lent_bad.false) _ c.from-command.ensures c.in_ok-check_request.ensures c.in_ok-check_own.ensures c.carry_out.ensures
