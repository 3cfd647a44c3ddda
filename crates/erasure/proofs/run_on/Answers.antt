-- `erasure::run_on` meets its contract: the partition's part lies in the arrays, and is put back. Assumes nothing.
use Rattle.erasure.proofs.Laws.{cells_end, marks_end, fits_run, burns_fit, ran_on}
use Rattle.erasure.proofs.run_on.Goals as goal

pub slice_bounds-run-end : goal.slice_bounds-run-end
slice_bounds-run-end c = cells_end _ _ _ _ c.requires c.read_entry-x.ensures

pub slice_bounds-run-end-2 : goal.slice_bounds-run-end-2
slice_bounds-run-end-2 c = marks_end _ _ _ _ c.requires c.read_entry-x.ensures

pub run-requires : goal.run-requires
run-requires c = fits_run _ _ _ _ c.requires c.read_entry-x.ensures

pub returns : goal.returns
returns c =
    let ok = c.requires in
    let e = c.read_entry-x.ensures in
    (ran_on _ _ _ _ ok e c.is_software.ensures _ _ c.run.ensures.0, burns_fit _ _ _ _ ok e c.run.ensures.1)
