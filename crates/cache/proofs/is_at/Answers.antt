-- `cache::is_at` meets its contract: by the words of the place. Assumes nothing.
use mathlib.Core.Path.{◌∙◌}
use Rattle.cache.proofs.Laws.{is_read}
use Rattle.cache.proofs.is_at.Goals as goal

pub returns : goal.returns
returns c = c.kind_is.ensures ∙ is_read c.args.context.now c.args.k c.requires c.args.sought
