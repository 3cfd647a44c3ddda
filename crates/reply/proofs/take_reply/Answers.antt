-- `reply::take_reply` meets its contract: refused where none is awaited, else the waiting places are settled. Assumes nothing.
use mathlib.Core.Path.{sym}
use Rattle.reply.specs.Laws.{reply_refused, reply_taken, none_read, some_read}
use Rattle.reply.proofs.take_reply.Goals as goal

pub returns-then-awaited-eq-NO_REPLY : goal.returns-then-awaited-eq-NO_REPLY
returns-then-awaited-eq-NO_REPLY c =
    let a = c.args in
    sym (reply_refused a.reply a.context.now (none_read a.context.now c.awaited-awaited.ensures c.if-awaited-eq-NO_REPLY.true))

pub returns : goal.returns
returns c =
    let a = c.args in
    rw (c.settle.ensures, c.kind_after.ensures, c.awaited-awaited.ensures)
    (sym (reply_taken a.reply a.context.now (some_read a.context.now c.awaited-awaited.ensures c.if-awaited-eq-NO_REPLY.false)))
