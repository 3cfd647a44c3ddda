-- `partition::lowest_short` meets its contract: by where the search ended. Assumes nothing.
use mathlib.Core.Path.{◌≡◌, sym}
use native.Mathlib.Omega.{arith}
use Rattle.laws.proofs.Below.{first_tells}
use Rattle.partition.specs.Partition.{pairs, short_at, lowest_pair}
use Rattle.partition.proofs.Laws.{lowest_cell, lowest_none}
use Rattle.partition.proofs.lowest_short.Goals as goal

pub returns-then-j-part : goal.returns-then-j-part
returns-then-j-part c = lowest_cell _ _ _ c.if-j-part.true (sym c.lowest_pair-j.ensures)

pub returns-else-j-part : goal.returns-else-j-part
returns-else-j-part c =
    let a = c.args in
    let end : lowest_pair a.bound a.part.now ≡ pairs a.part.now =
    omega (arith, c.lowest_pair-j.ensures, (first_tells (short_at a.bound a.part.now) 0 (pairs a.part.now)).most) in
    lowest_none _ _ end
