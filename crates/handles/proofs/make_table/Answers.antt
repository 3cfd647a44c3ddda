-- `handles::make_table` meets its contract: refused by the tests, else its five words are stored. Assumes nothing.
use Rattle.std.proofs.Common.{rules}
use Rattle.std.proofs.lemmas.Result.{err_from_is_err_and}
use Rattle.handles.specs.Making.{made}
use Rattle.handles.specs.Laws.{making_refused, making_made}
use Rattle.handles.proofs.make_table.Goals as goal

pub returns-in_err-check_making : goal.returns-in_err-check_making
returns-in_err-check_making c =
    let a = c.args in
    let told = err_from_is_err_and c.from_residual.result c.from_residual.ensures.1 in
    rw (told.1, told.2) (making_refused a.handles.now a.algorithms.now a.context.now _ c.in_err-check_making.ensures)

pub returns : goal.returns
unfolding made
returns c =
    let a = c.args in
    rw (c.entry_from.ensures, c.entry_from-2.ensures, c.entry_from-3.ensures, c.largest_of.ensures)
    (making_made a.handles.now a.algorithms.now a.context.now c.in_ok-check_making.ensures)
