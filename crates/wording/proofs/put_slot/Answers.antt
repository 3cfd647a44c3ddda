-- `wording::put_slot` meets its contract: three pieces are one. Assumes nothing.
use native.Mathlib.Omega.{arith}
use Rattle.laws.specs.Put.{then}
use Rattle.wording.proofs.put_slot.Goals as goal

pub returns : goal.returns
returns c = (
  then (then c.put_numbered-at.ensures.0 c.put-at.ensures) c.put.ensures,
  omega (arith, c.put_numbered-at.ensures.1, c.put-at.ensures.is_next, c.put.ensures.is_next),
)
