-- `plan::put_image` meets its contract: the loop's invariant: the lines so far are written behind the header, and all of them fit. Assumes nothing.
use Rattle.std.proofs.Common.{◌+◌, ◌*◌, ◌≤◌, ◌≡◌, true, length, drop}
use Rattle.std.specs.Slice.Iter.{chunks_exact_rest, chunks_exact_size}
use Rattle.laws.specs.Below.{all_below}
use Rattle.laws.specs.Put.{Put}
use Rattle.plan.specs.Reading.{plan_by}
use Rattle.plan.specs.Images.{fits_at}
use Rattle.plan.proofs.Images.{entries_below}
use Rattle.plan.proofs.put_image.Given as goal

abbrev pub invariant-loop-line : goal.invariant-loop-line
invariant-loop-line l =
    let p = plan_by l.numbers in
    let i = length l.yielded in
    (chunks_exact_size l.line-iterator ≡ 4) × (chunks_exact_rest l.line-iterator ≡ drop (2 + 4 * i) l.numbers) × (2 + 4 * i ≤ length l.numbers)
    × (l.at ≡ 8 + 8 * i) × (all_below (fits_at p) i ≡ true) × Put l.initial.at (entries_below p i) l.initial.image l.image l.at
