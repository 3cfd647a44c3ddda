-- `partition::short_at` meets its contract: by `is_short` of the pair. Assumes nothing.
use mathlib.Core.Path.{ap, ◌∙◌}
use Rattle.fuse.specs.Fuse.{short}
use Rattle.partition.specs.Partition.{short_at}
use Rattle.partition.proofs.short_at.Goals as goal

pub returns : goal.returns
unfolding short_at
returns c = c.is_short.ensures ∙ ap (short _) c.pair_at.ensures
