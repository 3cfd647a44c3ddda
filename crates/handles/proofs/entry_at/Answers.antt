-- `handles::entry_at` meets its contract: by the word that was read. Assumes nothing.
use mathlib.Core.Path.{◌∙◌}
use Rattle.handles.specs.Laws.{handle_read, algorithm_read}
use Rattle.handles.proofs.entry_at.Goals as goal

pub returns-clause-handle : goal.returns-clause-handle
returns-clause-handle c = c.from.ensures.0 ∙ handle_read c.args.context.now c.args.k c.requires

pub returns-clause-algorithm : goal.returns-clause-algorithm
returns-clause-algorithm c = c.from.ensures.1 ∙ algorithm_read c.args.context.now c.args.k c.requires
