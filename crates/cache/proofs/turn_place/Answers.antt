-- `cache::turn_place` meets its contract: a place that is sought is set, any other stays. Assumes nothing.
use mathlib.Core.Path.{sym, ◌∙◌}
use Rattle.cache.proofs.Laws.{turn_sets}
use Rattle.cache.proofs.turn_place.Goals as goal

pub returns-then-is_at : goal.returns-then-is_at
returns-then-is_at c =
    let a = c.args in
    rw (c.put_place.ensures, c.kept_tag-tag.ensures)
    (turn_sets a.sought a.kind a.k a.context.now c.requires
    (sym c.is_at.ensures ∙ c.if-is_at.true))
