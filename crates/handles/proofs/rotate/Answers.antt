-- `handles::rotate` meets its contract: there is no place past the last. Assumes nothing.
use Rattle.handles.specs.Laws.{rotated_in}
use Rattle.handles.proofs.rotate.Goals as goal

pub returns-then-k-lt-MOST : goal.returns-then-k-lt-MOST
returns-then-k-lt-MOST c =
    let a = c.args in
    rw (c.from.ensures, c.entry_at-algorithm.ensures.algorithm) (rotated_in a.k a.number a.context.now c.if-k-lt-MOST.true)
