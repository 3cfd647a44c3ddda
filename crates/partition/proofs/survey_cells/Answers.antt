-- `partition::survey_cells` meets its contract: one law for each of the four states. Assumes nothing.
use Prim.Native.Nat.{◌≤◌}
use mathlib.Core.Path.{sym, ◌∙◌}
use native.Mathlib.Omega.{arith}
use borrow.Author.Tests.{eqb-true, eqb-false}
use Rattle.partition.specs.Partition.{pairs}
use Rattle.partition.proofs.StateIs.{erased_is}
use Rattle.partition.proofs.Laws.{torn_is, blank_is, programmed_is}
use Rattle.partition.proofs.Marked.{marked_tells, besides_by}
use Rattle.partition.proofs.survey_cells.Goals as goal
use Rattle.partition.proofs.survey_cells.Goals.{Then-is_marked}

-- a marked partition has its indicator
some : (c : Then-is_marked) → 1 ≤ pairs c.args.part.now
some c = (marked_tells _ _ (sym c.is_marked.ensures ∙ c.if-is_marked.true)).1

pub overflow_sub-part : goal.overflow_sub-part
overflow_sub-part c = omega (arith, some (goal.at.overflow_sub-part c).Then-is_marked)

pub short_at-requires : goal.short_at-requires
short_at-requires c = omega (arith, some (goal.at.short_at-requires c).Then-is_marked)

pub returns-then-short-short_at : goal.returns-then-short-short_at
returns-then-short-short_at c =
    let test = besides_by _ _ (some (goal.at.returns-then-short-short_at c).Then-is_marked) c.short_pairs-short.ensures c.short_at.ensures in
    cc (erased_is _ _ _ (sym c.is_marked.ensures ∙ c.if-is_marked.true) (eqb-true _ _ (sym test ∙ c.if-short-short_at.true)))

pub returns-else-short-short_at : goal.returns-else-short-short_at
returns-else-short-short_at c =
    let test = besides_by _ _ (some (goal.at.returns-else-short-short_at c).Then-is_marked) c.short_pairs-short.ensures c.short_at.ensures in
    cc (torn_is _ _ _ (sym c.is_marked.ensures ∙ c.if-is_marked.true) (eqb-false _ _ (sym test ∙ c.if-short-short_at.false)))

pub returns-then-no_data : goal.returns-then-no_data
returns-then-no_data c = cc (blank_is _ _ _ (sym c.is_marked.ensures ∙ c.if-is_marked.false) (sym c.no_data.ensures ∙ c.if-no_data.true))

pub returns-else-no_data : goal.returns-else-no_data
returns-else-no_data c = cc (programmed_is _ _ _ (sym c.is_marked.ensures ∙ c.if-is_marked.false) (sym c.no_data.ensures ∙ c.if-no_data.false))
