-- `erasure::answer_of` meets its contract: by how the run ended; its numbers fit, since the map is good. Assumes nothing.
use native.Mathlib.Omega.{arith}
use Rattle.erasure.proofs.Laws.{count_fits, first_short_fits}
use Rattle.erasure.proofs.answer_of.Goals as goal

pub overflow_cast-result : goal.overflow_cast-result
overflow_cast-result c = omega (arith, count_fits _ _ _ c.args.drive.whole c.requires.0 _ c.part-part.ensures c.shorts_of-shorts.ensures)

pub first_short-requires : goal.first_short-requires
first_short-requires c = first_short_fits _ _ _ c.args.drive.whole c.requires.0 _ c.part-part.ensures c.shorts_of-shorts.ensures c.read_entry-x.ensures
