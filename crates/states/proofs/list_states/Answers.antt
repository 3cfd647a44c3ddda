-- `states::list_states` meets its contract: by the answer of `check_drive`. Assumes nothing.
use Rattle.std.proofs.lemmas.Result.{err_from_is_err_and}
use Rattle.drive.specs.Laws.{judged}
use Rattle.states.specs.Laws.{lists_none, lists_all}
use Rattle.states.proofs.list_states.Goals as goal

pub returns-in_err-check_drive : goal.returns-in_err-check_drive
returns-in_err-check_drive c =
    let told = err_from_is_err_and c.from_residual.result c.from_residual.ensures.1 in
    rw (told.1, told.2) (lists_none _ _ _ _ c.in_err-check_drive.ensures)

pub invariant_of-put_states : goal.invariant_of-put_states
invariant_of-put_states c = record { whole = (judged _ _ _ _ c.in_ok-check_drive.ensures).whole }

pub returns : goal.returns
returns c = lists_all _ _ _ _ c.in_ok-check_drive.ensures c.put_states.ensures
