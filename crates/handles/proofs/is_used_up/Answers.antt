-- `handles::is_used_up` meets its contract: by the greatest. Assumes nothing.
use Rattle.handles.specs.Laws.{greatest_read}
use Rattle.handles.proofs.is_used_up.Goals as goal

pub returns : goal.returns
returns c = rw (greatest_read _)
