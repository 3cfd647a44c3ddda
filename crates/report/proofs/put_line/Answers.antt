-- `report::put_line` meets its contract: eight pieces, one after the other, are one line. Assumes nothing.
use native.Mathlib.Omega.{arith}
use Rattle.laws.specs.Put.{then, retext}
use Rattle.report.specs.Status.{line_of}
use Rattle.report.proofs.put_line.Goals as goal

pub returns : goal.returns
unfolding line_of
returns c = (
  then (then (then (then (then (then (then c.put_decimal-at.ensures.0 c.put-at.ensures) c.put_decimal-at-2.ensures.0) c.put-at-2.ensures)
      (retext c.state_name.ensures.0 c.put-at-3.ensures)) c.put-at-4.ensures) c.put_decimal-at-3.ensures.0) c.put.ensures,
  omega (
    arith,
    c.put_decimal-at.ensures.1,
    c.put-at.ensures.is_next,
    c.put_decimal-at-2.ensures.1,
    c.put-at-2.ensures.is_next,
    c.state_name.ensures.1,
    c.put-at-3.ensures.is_next,
    c.put-at-4.ensures.is_next,
    c.put_decimal-at-3.ensures.1,
    c.put.ensures.is_next,
  ),
)
