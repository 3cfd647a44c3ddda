-- `report::put_hek` meets its contract: the two cases of the last line. Assumes nothing.
use native.Mathlib.Omega.{arith}
use Rattle.laws.specs.Put.{then}
use Rattle.report.proofs.Laws.{hek_none, hek_some}
use Rattle.report.proofs.put_hek.Goals as goal

pub returns-in_default : goal.returns-in_default
returns-in_default c = rw (hek_none _ c.in_default.not-Programmed) (c.put.ensures, omega (arith, c.put.ensures.is_next))

pub returns : goal.returns
returns c =
    rw (hek_some c.in-Programmed.is)
    (then c.put_numbered-at.ensures.0 c.put-2.ensures, omega (arith, c.put_numbered-at.ensures.1, c.put-2.ensures.is_next))
