-- `handles::are_distinct` meets its contract: fewer than two handles are distinct. Assumes nothing.
use Rattle.std.proofs.Common.{arith}
use Rattle.handles.specs.Laws.{distinct_one}
use Rattle.handles.proofs.are_distinct.Goals as goal

pub returns-in_default : goal.returns-in_default
returns-in_default c = distinct_one c.args.handles.now (omega (arith, c.in_default.len_below, c.requires))
