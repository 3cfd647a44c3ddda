-- `report::report_map` meets its contract: by the answer of `write_map`, lent the front of the buffer. Assumes nothing.
use native.Mathlib.Omega.{arith}
use lib.ListN.{length-take}
use Rattle.report.proofs.Maps.{image_told, refusal_told}
use Rattle.report.proofs.report_map.Goals as goal

pub slice_bounds-write_map-end-2 : goal.slice_bounds-write_map-end-2
slice_bounds-write_map-end-2 c = simp length-take (omega (arith, c.requires))

pub returns-in-Ok : goal.returns-in-Ok
returns-in-Ok c = image_told _ _ c.requires _ _ c.in-Ok.ensures

pub returns-in-Err : goal.returns-in-Err
returns-in-Err c = refusal_told _ _ c.requires _ _ c.in-Err.ensures c.put_refused.ensures
