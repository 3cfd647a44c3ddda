-- `text::put_numbered` meets its contract: two pieces are one. Assumes nothing.
use native.Mathlib.Omega.{arith}
use Rattle.laws.specs.Put.{then}
use Rattle.text.proofs.put_numbered.Goals as goal

pub returns : goal.returns
returns c = (then c.put-at.ensures c.put_decimal.ensures.0, omega (arith, c.put-at.ensures.is_next, c.put_decimal.ensures.1))
