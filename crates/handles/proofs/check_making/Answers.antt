-- `handles::check_making` meets its contract: by the place of the first test that applies. Assumes nothing.
use mathlib.Core.Path.{◌≡◌, sym, ap, ◌∙◌}
use mathlib.Core.Bool.{false, not}
use lib.Dec.{eqb}
use lib.ListN.{length}
use borrow.Author.Tests.{eq-eqb, ne_eqb}
use Rattle.handles.specs.Handles.{count_good, table_of}
use Rattle.handles.specs.Laws.{count_read, making_at, making_past}
use Rattle.handles.proofs.check_making.Goals as goal
use Rattle.handles.proofs.check_making.Goals.{Else-algorithms-handles, Else-context-ne0, Else-not-is_count}

-- the tests that have passed: there is no table, the count is good, there are as many algorithms
new : (c : Else-context-ne0) → let a = c.args in not (eqb (table_of a.context.now).count 0) ≡ false
new c = let a = c.args in ap not (eq-eqb _ _ (sym (count_read a.context.now) ∙ c.if-context-ne0.false))

counted : (c : Else-not-is_count) → let a = c.args in not (count_good (length a.handles.now)) ≡ false
counted c = ap not (sym c.is_count.ensures) ∙ c.if-not-is_count.false-raw

paired : (c : Else-algorithms-handles) → let a = c.args in not (eqb (length a.algorithms.now) (length a.handles.now)) ≡ false
paired c = ap not (eq-eqb _ _ c.if-algorithms-handles.false)

pub returns-then-context-ne0 : goal.returns-then-context-ne0
returns-then-context-ne0 c =
    let a = c.args in
    making_at a.handles.now a.algorithms.now a.context.now 0 tt (ap not (ne_eqb _ _ (λ e. c.if-context-ne0.true (count_read a.context.now ∙ e))))

pub returns : goal.returns
returns c =
    let a = c.args in
    making_past a.handles.now a.algorithms.now a.context.now
    (new (goal.at.returns c).Else-context-ne0, (counted (goal.at.returns c).Else-not-is_count, (paired (goal.at.returns c).Else-algorithms-handles, (ap not (sym c.are_distinct.ensures) ∙ c.if-not-are_distinct.false-raw, tt))))
