-- `cache::put_place` meets its contract: there is no place past 15. Assumes nothing.
use Rattle.cache.proofs.Laws.{placed_in, placed_past}
use Rattle.cache.proofs.put_place.Goals as goal

pub returns-then-k-lt-PLACES : goal.returns-then-k-lt-PLACES
returns-then-k-lt-PLACES c = let a = c.args in placed_in a.context.now a.k a.kind a.tag c.if-k-lt-PLACES.true

pub returns-else-k-lt-PLACES : goal.returns-else-k-lt-PLACES
returns-else-k-lt-PLACES c = let a = c.args in placed_past a.context.now a.k a.kind a.tag c.if-k-lt-PLACES.false
