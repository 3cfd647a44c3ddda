-- `handles::holds_at` meets its contract: by the count and the handle. Assumes nothing.
use Rattle.handles.specs.Laws.{holds_read}
use Rattle.handles.proofs.holds_at.Goals as goal

pub returns : goal.returns
returns c = holds_read c.args.context.now c.args.handle c.args.k c.entry_at.ensures.handle
