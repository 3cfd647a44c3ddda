-- `fuse::burn_cell` meets its contract: one store, and the ones of what that adds, by `cell_adds`. Assumes nothing.
use mathlib.Core.Path.{refl}
use Rattle.fuse.specs.Fuse.{burn_cell}
use Rattle.fuse.proofs.Charge.{cell_adds}
use Rattle.fuse.proofs.burn_cell.Goals as goal

pub overflow_sub-result : goal.overflow_sub-result
overflow_sub-result c = (cell_adds c.args.marks.now c.args.at c.args.value c.args.cells.now c.ranges.value.fits c.requires.0 refl refl).0

pub returns : goal.returns
unfolding burn_cell
returns c = (refl, (cell_adds c.args.marks.now c.args.at c.args.value c.args.cells.now c.ranges.value.fits c.requires.0 refl refl).1)
