-- `drive::active_in` meets its contract: the loop's invariant: the search from the next on answers for the whole. Assumes nothing.
use Prim.Native.Nat.{◌≤◌, ◌-◌}
use mathlib.Core.Path.{◌≡◌}
use Rattle.laws.specs.Below.{first_from}
use Rattle.map.specs.Map.{header_of}
use Rattle.drive.specs.Drive.{open_slot, active_place}
use Rattle.drive.proofs.active_in.Given as goal

abbrev pub invariant-loop-i : goal.invariant-loop-i
invariant-loop-i l =
    (active_place l.image l.cells ≡ first_from (open_slot l.image l.cells) l.partitions.start (l.partitions.end - l.partitions.start))
    × (l.partitions.end ≡ (header_of l.image).partitions)
    × (l.partitions.start ≤ l.partitions.end)
