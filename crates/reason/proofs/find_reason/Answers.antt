-- `reason::find_reason` meets its contract: by the answer of `check_drive`. Assumes nothing.
use Rattle.std.proofs.lemmas.Result.{err_from_is_err_and}
use Rattle.drive.specs.Laws.{judged}
use Rattle.reason.proofs.Laws.{reason_refused, reason_given}
use Rattle.reason.proofs.find_reason.Goals as goal

pub returns-in_err-check_drive : goal.returns-in_err-check_drive
returns-in_err-check_drive c =
    let told = err_from_is_err_and c.from_residual.result c.from_residual.ensures.1 in
    rw (told.1, told.2) (reason_refused _ _ _ c.in_err-check_drive.ensures)

pub invariant_of-reason_in : goal.invariant_of-reason_in
invariant_of-reason_in c = record { whole = (judged _ _ _ _ c.in_ok-check_drive.ensures).whole }

pub returns : goal.returns
returns c = reason_given _ _ _ c.in_ok-check_drive.ensures c.reason_in.ensures
