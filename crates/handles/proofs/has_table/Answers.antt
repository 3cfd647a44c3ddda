-- `handles::has_table` meets its contract: by the count. Assumes nothing.
use mathlib.Core.Path.{ap, ◌∙◌}
use Rattle.handles.specs.Handles.{count_good}
use Rattle.handles.specs.Laws.{count_read}
use Rattle.handles.proofs.has_table.Goals as goal

pub returns : goal.returns
returns c = c.is_count.ensures ∙ ap count_good (count_read _)
