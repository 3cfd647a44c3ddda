-- `chksum::chksum_of` meets its contract: bytes added one by one make their sum. Assumes nothing.
use Rattle.std.proofs.Common.{arith, drop}
use Rattle.chksum.specs.Laws.{adds_up}
use Rattle.chksum.proofs.chksum_of.Goals as goal

pub returns : goal.returns
returns c = omega (arith, c.sum_on.ensures, c.sum_on.type_inv, adds_up c.args.start (drop 4 c.args.message.now))
