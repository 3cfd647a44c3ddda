-- `reason::torn_reason` meets its contract: at the header, the entry and the pair that were read. Assumes nothing.
use Prim.Native.Nat.{◌+◌, ◌≤◌, ◌<◌}
use native.Mathlib.Omega.{arith}
use Rattle.reason.proofs.Laws.{some_here, torn_fits}
use Rattle.reason.proofs.torn_reason.Goals as goal
use Rattle.reason.proofs.torn_reason.Goals.{After-torn_pair-pair}

pub torn_pair-pair-requires : goal.torn_pair-pair-requires
torn_pair-pair-requires c = some_here _ _ _ c.requires c.read_header-header.ensures c.part.ensures

-- the pair lies in the array, and has at most 64 ones
small : (c : After-torn_pair-pair) → let pair = c.torn_pair-pair.result in
    (c.read_entry-entry.result.first + pair.cell < 2048) × (pair.ones ≤ 64)
small c =
    torn_fits _ _ _ c.requires c.read_header-header.ensures c.part.ensures c.read_entry-entry.ensures c.torn_pair-pair.ensures
    c.args.drive.whole.good

pub overflow_cast-result-2 : goal.overflow_cast-result-2
overflow_cast-result-2 c = omega (arith, (small (goal.at.overflow_cast-result-2 c).After-torn_pair-pair).0)

pub overflow_add-result : goal.overflow_add-result
overflow_add-result c = omega (arith, (small (goal.at.overflow_add-result c).After-torn_pair-pair).0)

pub overflow_cast-result-3 : goal.overflow_cast-result-3
overflow_cast-result-3 c = omega (arith, (small (goal.at.overflow_cast-result-3 c).After-torn_pair-pair).1)
