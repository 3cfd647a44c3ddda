-- `drive::Drive::is_marked` meets its contract: at the entry and the part that were read. Assumes nothing.
use Rattle.drive.specs.Laws.{marked_here}
use Rattle.drive.proofs.Drive.is_marked.Goals as goal

pub returns : goal.returns
returns c = marked_here _ _ _ c.read_entry.ensures c.is_zeroizable-zeroizable.ensures c.part.ensures _ c.is_marked.ensures
