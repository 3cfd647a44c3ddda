-- `fuse::ones` meets its contract: the language's count is `ones_of`. Assumes nothing.
use mathlib.Core.Path.{sym}
use Rattle.fuse.proofs.Burn.{ones_counted}
use Rattle.fuse.proofs.ones.Goals as goal

pub returns : goal.returns
returns c = sym (ones_counted c.ranges.fuses.fits)
