-- `fuse::burn_word` meets its contract: a pair, or a cell. Assumes nothing.
use Rattle.fuse.specs.Fuse.{burn_word}
use Rattle.fuse.proofs.Charge.{narrow_adds}
use Rattle.fuse.proofs.burn_word.Goals as goal

pub returns-else-wide : goal.returns-else-wide
unfolding burn_word
returns-else-wide c = rw c.if-wide.false (c.burn_cell.ensures.0, narrow_adds _ _ _ _ c.burn_cell.ensures.1)
