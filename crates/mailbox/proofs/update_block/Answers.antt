-- `mailbox::update_block` meets its contract: by the order; a load's request is long enough for its MEK. Assumes nothing.
use Rattle.codec.specs.Fields.{request_fields}
use Rattle.codec.proofs.Laws.{mek_most}
use Rattle.codec.specs.declared.Command.TheVariants.{Klod}
use Rattle.mailbox.proofs.update_block.Goals as goal

pub write_block-requires-in-Load : goal.write_block-requires-in-Load
write_block-requires-in-Load c = (c.requires.block_long, rw c.mek_of.ensures (mek_most (request_fields Klod) c.args.request.now))
