-- `mailbox::judge::check_own` meets its contract: the command's refusal comes first. Assumes nothing.
use Rattle.std.proofs.lemmas.Result.{err_from_is_err_and}
use Rattle.context.specs.State.{state}
use Rattle.mailbox.proofs.Judging.{own_first}
use Rattle.mailbox.proofs.judge.check_own.Goals as goal

pub returns-in_err-check_command : goal.returns-in_err-check_command
returns-in_err-check_command c =
    let a = c.args in
    let told = err_from_is_err_and c.from_residual.result c.from_residual.ensures.1 in
    rw (told.1, told.2) (own_first a.command a.drive.image.now a.request.now (state a.drive.cells.now a.context.now) c.in_err-check_command.ensures)
