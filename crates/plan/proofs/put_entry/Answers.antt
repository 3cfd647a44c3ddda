-- `plan::put_entry` meets its contract: first and cells, then kind and flags as one u16. Assumes nothing.
use native.Mathlib.Omega.{arith}
use Rattle.laws.specs.Put.{then, retext}
use Rattle.plan.proofs.Images.{entry_is}
use Rattle.plan.proofs.put_entry.Goals as goal

pub returns : goal.returns
returns c =
    let rest = rw (c.from.ensures, c.from-2.ensures) at c.put_two.ensures in
    retext (entry_is _ _ _ _ (omega (arith, c.ranges.kind.fits)) (omega (arith, c.ranges.flags.fits))) (then c.put_two-at.ensures rest)
