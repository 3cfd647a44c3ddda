-- `report::put_refused` meets its contract: two pieces are one line. Assumes nothing.
use mathlib.Core.Path.{ap}
use Rattle.laws.specs.Put.{then, retext}
use Rattle.report.specs.Status.{refused_line}
use Rattle.report.proofs.put_refused.Goals as goal

pub returns : goal.returns
returns c = retext (ap refused_line c.from.ensures) (then c.put_refused-at.ensures.0 c.put.ensures)
