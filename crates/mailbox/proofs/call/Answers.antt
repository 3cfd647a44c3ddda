-- `mailbox::call` meets its contract: a refusal leaves all but the cells, which are as FERS's burn left them, else each part is as the
-- effect leaves it. Assumes nothing.
use Rattle.context.specs.State.{state}
use Rattle.mailbox.specs.Mailbox.{lent}
use Rattle.mailbox.proofs.Laws.{carried}
use Rattle.mailbox.proofs.call.Goals as goal

-- past the refusals, what is carried out finds the lengths that it asks for
pub update_block-requires : goal.update_block-requires
update_block-requires c =
    let a = c.args in
    (carried _ _ _ _ (lent (state a.cells.now a.context.now) a.response.now a.block.now) c.in_ok-effect.ensures).fits

pub write_response-length-requires : goal.write_response-length-requires
write_response-length-requires c =
    let a = c.args in
    (carried _ _ _ _ (lent (state a.cells.now a.context.now) a.response.now a.block.now) c.in_ok-effect.ensures).room
