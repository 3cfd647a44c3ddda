-- `handles::next_number` meets its contract: a number is left. Assumes nothing.
use Rattle.handles.specs.Handles.{table_of}
use native.Mathlib.Omega.{arith}
use Rattle.handles.specs.Laws.{greatest_read, next_fits}
use Rattle.handles.proofs.next_number.Goals as goal

pub overflow_add-result : goal.overflow_add-result
overflow_add-result c = let context = c.args.context.now in omega (arith, next_fits (table_of context) c.requires, greatest_read context)

pub overflow_cast-result : goal.overflow_cast-result
overflow_cast-result c = let context = c.args.context.now in omega (arith, next_fits (table_of context) c.requires, greatest_read context)

pub returns : goal.returns
returns c = rw (greatest_read c.args.context.now)
