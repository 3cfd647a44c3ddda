-- `handles::count_of` meets its contract: a table has at most three handles. Assumes nothing.
use Rattle.handles.specs.Handles.{table_of}
use native.Mathlib.Omega.{arith}
use Rattle.handles.specs.Laws.{count_read, good_most}
use Rattle.handles.proofs.count_of.Goals as goal

pub overflow_cast-result : goal.overflow_cast-result
overflow_cast-result c = let context = c.args.context.now in omega (arith, good_most (table_of context).count c.requires, count_read context)

pub returns : goal.returns
returns c = count_read c.args.context.now
