-- `drive::Drive::part` meets its contract: the partition's cells lie in the array, since the map is good. Assumes nothing.
use Prim.Native.Nat.{◌+◌, ◌≤◌}
use lib.ListN.{length}
use Rattle.map.proofs.Laws.{map_entry}
use Rattle.drive.proofs.Drive.part.Goals as goal

pub slice_bounds-result-end : goal.slice_bounds-result-end
slice_bounds-result-end c =
    let whole = c.args.self.whole in
    let end : c.read_entry-x.result.first + c.read_entry-x.result.n ≤ length c.args.self.cells.now = rw (c.read_entry-x.ensures, whole.long) (map_entry _ whole.good _ c.requires).within in
    end
