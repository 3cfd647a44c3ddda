-- `erasure::erase` meets its contract: judged, then run and not cut. Assumes nothing.
use Rattle.std.proofs.lemmas.Result.{err_from_is_err_and}
use Rattle.context.specs.State.{state}
use Rattle.erasure.proofs.Laws.{erase_unchecked, erase_refused, erase_runs, erasable}
use Rattle.erasure.proofs.erase.Goals as goal

pub returns-in_err-check_drive : goal.returns-in_err-check_drive
returns-in_err-check_drive c =
    let told = err_from_is_err_and c.from_residual.result c.from_residual.ensures.1 in
    rw (told.1, told.2) (erase_unchecked _ _ _ _ _ _ _ c.in_err-check_drive.ensures)

pub returns-in_err-check_partition : goal.returns-in_err-check_partition
returns-in_err-check_partition c =
    let told = err_from_is_err_and c.from_residual-in_err-check_partition.result c.from_residual-in_err-check_partition.ensures.1 in
    rw (told.1, told.2) (erase_refused _ _ _ _ _ _ c.in_ok-check_drive.ensures _ c.in_err-check_partition.ensures)

pub erase_judged-requires : goal.erase_judged-requires
erase_judged-requires c =
    let a = c.args in
    erasable _ _ _ (state a.cells.now a.context.now) c.in_ok-check_drive.ensures c.in_ok-check_partition.ensures

pub returns : goal.returns
returns c = erase_runs _ _ _ _ _ _ c.in_ok-check_drive.ensures c.in_ok-check_partition.ensures c.erase_judged.ensures
