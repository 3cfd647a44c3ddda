-- `plan::put_image` meets its contract: the loop's invariant: the lines so far are written behind the header, and all of them fit. Assumes nothing.
use Rattle.std.proofs.Common.{◌+◌, ◌≤◌, ◌<◌, ◌≡◌, refl, sym, ap, ◌∙◌, arith, [], ◌∷◌, ◌++◌, length, get_or, length-append, length-drop, take_all}
use Rattle.std.proofs.lemmas.Result.{err_from_is_err_and}
use Rattle.std.specs.Slice.Iter.{chunks_exact_rest, chunks_exact_size}
use Rattle.refusal.specs.declared.Refusal.TheVariants.{BadMap}
use Rattle.laws.specs.Below.{all_below}
use Rattle.laws.proofs.Below.{all_step}
use Rattle.laws.specs.Put.{then, retext, nothing}
use Rattle.plan.specs.Reading.{plan_by}
use Rattle.plan.proofs.Images.{entries_start, here, behind, line_fits, line_more, not_imaged, imaged}
use Rattle.plan.proofs.put_image.Goals as goal

pub loop-line-init : goal.loop-line-init
unfolding all_below
loop-line-init c =
    let header = c.put_header-at.ensures in
    let chunks = c.chunks_exact-line-items.ensures in
    let same = c.into_iter-line-iterator.ensures.into_iter_gives in (
      ap chunks_exact_size same ∙ chunks.size,
      ap chunks_exact_rest same ∙ chunks.rest ∙ take_all _ _ (omega (arith, length-drop 2 c.args.numbers.now)),
      omega (arith, c.requires.1),
      header.is_next,
      refl,
      retext (entries_start (plan_by c.args.numbers.now)) (nothing _ _ (omega (arith, header.is_next, header.same, c.requires.0))),
    )

pub returns-in_err-kind : goal.returns-in_err-kind
returns-in_err-kind c =
    let p = err_from_is_err_and c.from_residual.result c.from_residual.ensures.1 in
    let loop = c.loop-line in
    let item = c.in-Some.ensures.steps in
    let is : c.in_err-kind.field-0.0 ≡ BadMap = grind arith in
    let large : 255 < get_or c.in-Some.line.now 2 0 = grind arith in
    rw (p.1, p.2, is) (not_imaged c.args.numbers.now c.requires.1 (length loop.yielded) c.in-Some.line.now _ (sym loop.invariant.1 ∙ item.1.0)
    (item.1.1 ∙ loop.invariant.0) c.args.image.now loop.image (λ m. absurd (omega (arith, m, large))))

pub returns-in_err-flags : goal.returns-in_err-flags
returns-in_err-flags c =
    let p = err_from_is_err_and c.from_residual-in_err-flags.result c.from_residual-in_err-flags.ensures.1 in
    let loop = c.loop-line in
    let item = c.in-Some.ensures.steps in
    let is : c.in_err-flags.field-0.0 ≡ BadMap = grind arith in
    let large : 255 < get_or c.in-Some.line.now 3 0 = grind arith in
    rw (p.1, p.2, is) (not_imaged c.args.numbers.now c.requires.1 (length loop.yielded) c.in-Some.line.now _ (sym loop.invariant.1 ∙ item.1.0)
    (item.1.1 ∙ loop.invariant.0) c.args.image.now loop.image (λ m. large))

pub loop-line-preserved : goal.loop-line-preserved
loop-line-preserved c =
    let loop = c.loop-line in
    let numbers = c.args.numbers.now in
    let i = length loop.yielded in
    let item = c.in-Some.ensures.steps in
    let is = sym loop.invariant.1 ∙ item.1.0 in
    let long = item.1.1 ∙ loop.invariant.0 in
    let line = c.in-Some.line.now in
    let kind : c.in_ok-kind.kind ≡ get_or line 2 0 = grind arith in
    let flags : c.in_ok-flags.flags ≡ get_or line 3 0 = grind arith in
    let kind_most : get_or line 2 0 ≤ 255 = grind arith in
    let flags_most : get_or line 3 0 ≤ 255 = grind arith in
    let next : length (loop.yielded ++ (c.in-Some.line ∷ [])) ≡ i + 1 = length-append _ _ in
    rw next (
      item.0 ∙ loop.invariant.0,
      behind numbers c.requires.1 i line _ is long,
      here numbers c.requires.1 i line _ is long,
      omega (arith, c.put_entry-at.ensures.is_next, loop.invariant.3),
      all_step _ _ loop.invariant.4 (line_fits numbers c.requires.1 i line _ is long kind_most flags_most),
      retext (line_more numbers c.requires.1 i line _ is long) (then loop.invariant.5 (rw (kind, flags) at c.put_entry-at.ensures)),
    )

pub returns : goal.returns
returns c =
    let loop = c.loop-line in
    let short = c.in-None.ensures.steps in
    imaged c.args.numbers.now c.requires.1 _ _ (length loop.yielded) _ loop.invariant.2 (rw (loop.invariant.0, loop.invariant.1) at short.1.0) loop.invariant.4
    (then c.put_header-at.ensures loop.invariant.5) loop.invariant.3
