-- `partition::torn_pair` meets its contract: where some pair besides the indicator is short, the lowest of all is one of these. Assumes
-- nothing.
use Prim.Native.Nat.{◌+◌, ◌*◌, ◌<◌}
use native.Mathlib.Omega.{arith}
use lib.ListN.{length}
use Rattle.partition.proofs.Marked.{torn_within, torn_first}
use Rattle.partition.proofs.torn_pair.Goals as goal
use Rattle.partition.proofs.torn_pair.Goals.{After-lowest_pair-j}

within : (c : After-lowest_pair-j) → 2 * c.lowest_pair-j.result + 1 < length c.args.part.now
within c =
    let bound = c.args.bound in
    let part = c.args.part.now in
    omega (arith, c.lowest_pair-j.ensures, torn_first bound part c.requires, torn_within bound part c.requires)

pub overflow_mul-result : goal.overflow_mul-result
overflow_mul-result c = omega (arith, within (goal.at.overflow_mul-result c).After-lowest_pair-j)

pub pair_at-requires : goal.pair_at-requires
pair_at-requires c = within (goal.at.pair_at-requires c).After-lowest_pair-j

pub returns : goal.returns
returns c = rw (c.ones.ensures, c.pair_at.ensures, c.lowest_pair-j.ensures, torn_first c.args.bound c.args.part.now c.requires)
