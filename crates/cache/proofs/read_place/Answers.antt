-- `cache::read_place` meets its contract: there is no place past 15. Assumes nothing.
use mathlib.Core.Path.{◌∙◌}
use Rattle.cache.proofs.Laws.{place_read}
use Rattle.cache.proofs.read_place.Goals as goal

pub returns : goal.returns
returns c =
    let a = c.args in
    c.place_by.ensures ∙ place_read a.context.now a.k c.if-k-ge-PLACES.false
