-- `erasure::erase_cut` meets its contract: judged, then run; the cache is emptied where the erasure was cut. Assumes nothing.
use Rattle.std.proofs.Common.{refl, sym, ◌∙◌}
use Rattle.std.proofs.lemmas.Result.{err_from_is_err_and}
use Rattle.context.specs.State.{state}
use Rattle.erasure.proofs.Laws.{erase_unchecked, erase_refused, erase_runs, erasable, cut_left, uncut_left}
use Rattle.erasure.proofs.erase_cut.Goals as goal

pub returns-in_err-check_drive : goal.returns-in_err-check_drive
returns-in_err-check_drive c =
    let told = err_from_is_err_and c.from_residual.result c.from_residual.ensures.1 in
    rw (told.1, told.2) (uncut_left (erase_unchecked _ _ _ _ _ _ _ c.in_err-check_drive.ensures) refl)

pub returns-in_err-check_partition : goal.returns-in_err-check_partition
returns-in_err-check_partition c =
    let told = err_from_is_err_and c.from_residual-in_err-check_partition.result c.from_residual-in_err-check_partition.ensures.1 in
    rw (told.1, told.2) (uncut_left (erase_refused _ _ _ _ _ _ c.in_ok-check_drive.ensures _ c.in_err-check_partition.ensures) refl)

pub run_judged-answer-requires : goal.run_judged-answer-requires
run_judged-answer-requires c =
    let a = c.args in
    erasable _ _ _ (state a.cells.now a.context.now) c.in_ok-check_drive.ensures c.in_ok-check_partition.ensures

pub returns-then-is_cut : goal.returns-then-is_cut
returns-then-is_cut c =
    cut_left (erase_runs _ _ _ _ _ _ c.in_ok-check_drive.ensures c.in_ok-check_partition.ensures c.run_judged-answer.ensures)
    (sym c.is_cut.ensures ∙ c.if-is_cut.true) c.clear.ensures

pub returns-else-is_cut : goal.returns-else-is_cut
returns-else-is_cut c =
    uncut_left (erase_runs _ _ _ _ _ _ c.in_ok-check_drive.ensures c.in_ok-check_partition.ensures c.run_judged-answer.ensures)
    (sym c.is_cut.ensures ∙ c.if-is_cut.false)
