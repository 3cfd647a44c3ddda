-- `partition::shorts_of` meets its contract: no lowest where none is short. Assumes nothing.
use mathlib.Core.Path.{sym, ◌∙◌}
use Rattle.partition.proofs.Laws.{no_lowest}
use Rattle.partition.proofs.shorts_of.Goals as goal

pub returns-then-count-eq0 : goal.returns-then-count-eq0
returns-then-count-eq0 c =
    let none = sym c.short_pairs-count.ensures ∙ c.if-count-eq0.true in
    rw (c.if-count-eq0.true, none, ← no_lowest _ _ none)
