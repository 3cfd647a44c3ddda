-- `cache::clear` meets its contract: the loop empties the places, and the awaited reply, the next word, is dropped. Assumes nothing.
use mathlib.Core.Path.{sym, ◌∙◌}
use Rattle.std.proofs.Common.{rules}
use Rattle.cache.specs.Cache.{emptied}
use Rattle.cache.proofs.Laws.{zeros_next, zeros_end, none_dropped}
use Rattle.cache.proofs.clear.Goals as goal

pub loop-word-preserved : goal.loop-word-preserved
loop-word-preserved c = zeros_next _ _ _ (search rules) c.loop-word.invariant

pub returns-then-awaited-ne-NO_REPLY : goal.returns-then-awaited-ne-NO_REPLY
unfolding emptied
returns-then-awaited-ne-NO_REPLY c =
    let a = c.args in
    zeros_next 32 _ a.context.now (search rules) (zeros_end 32 _ _ a.context.now (search rules) (search rules) (search rules) c.loop-word.invariant)

pub returns-else-awaited-ne-NO_REPLY : goal.returns-else-awaited-ne-NO_REPLY
unfolding emptied
returns-else-awaited-ne-NO_REPLY c =
    let a = c.args in
    sym (none_dropped _ (sym c.awaited.ensures ∙ c.if-awaited-ne-NO_REPLY.false))
    ∙ zeros_next 32 _ a.context.now (search rules) (zeros_end 32 _ _ a.context.now (search rules) (search rules) (search rules) c.loop-word.invariant)
