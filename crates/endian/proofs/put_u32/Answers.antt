-- `endian::put_u32` meets its contract: four stores, one after the other. Assumes nothing.
use Rattle.endian.specs.Endian.{stored}
use Rattle.endian.proofs.put_u32.Goals as goal

pub returns : goal.returns
returns c = stored _ _ _ c.requires
