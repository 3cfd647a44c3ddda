-- `plan::write_map` meets its contract: each refusal is that of the first test that applies, and the image is judged last. Assumes nothing.
use Rattle.std.proofs.Common.{◌-◌, ◌≡◌, ◌≤◌, ◌<◌, sym, ◌∙◌, arith, take, replicate, Some, None, Ok}
use Rattle.std.proofs.lemmas.Result.{err_from_is_err_and}
use Rattle.refusal.specs.declared.Refusal.TheVariants.{BadMap, BadText}
use Rattle.plan.specs.Reading.{plan_by}
use Rattle.plan.specs.Images.{Imaged}
use Rattle.plan.specs.Steps.{reading_of}
use Rattle.plan.proofs.Answers.{found_formless, found_short, found_many, found_large, found_bad, found_good}
use Rattle.plan.proofs.write_map.Goals as goal
use Rattle.plan.proofs.write_map.Goals.{In_ok-count, In_ok-numbers, In_ok-put_image}

-- so many numbers, those that were kept, and the image that was written of them
counted : (c : In_ok-count) → Some c.in_ok-count.count ≡ reading_of c.args.text.now
counted c = let some : c.read_numbers.result ≡ Some c.in_ok-count.count = grind arith in sym some ∙ c.read_numbers.ensures.0

part : (c : In_ok-numbers) → (c.in_ok-count.count ≤ 66) × (c.in_ok-numbers.numbers.now ≡ take c.in_ok-count.count c.read_numbers.new.numbers)
part c =
    let some : c.get.result ≡ Some c.in_ok-numbers.numbers = grind arith in
    let r = rw some at c.get.ensures.lookup in
    let all : c.in_ok-count.count - 0 ≡ c.in_ok-count.count = omega arith in
    (omega (arith, r.0.1), r.0.2 ∙ rw all)

imaged : (c : In_ok-put_image) → Imaged (plan_by c.in_ok-numbers.numbers.now) (replicate 136 0) c.put_image.new.image (Ok tt)
imaged c = c.in_ok-put_image.ensures

pub returns-in_err-count : goal.returns-in_err-count
returns-in_err-count c =
    let p = err_from_is_err_and c.from_residual.result c.from_residual.ensures.1 in
    let none : c.read_numbers.result ≡ None = grind arith in
    let is : c.in_err-count.field-0.0 ≡ BadText = grind arith in
    rw (p.1, p.2, is) (found_formless _ _ (sym none ∙ c.read_numbers.ensures.0))

pub returns-then-out-lines : goal.returns-then-out-lines
returns-then-out-lines c = found_short c.args.text.now c.args.out.now c.in_ok-count.count (counted (goal.at.returns-then-out-lines c).In_ok-count) (omega (arith, c.if-out-lines.true))

pub returns-in_err-numbers : goal.returns-in_err-numbers
returns-in_err-numbers c =
    let p = err_from_is_err_and c.from_residual-in_err-numbers.result c.from_residual-in_err-numbers.ensures.1 in
    let none : c.get.result ≡ None = grind arith in
    let is : c.in_err-numbers.field-0.0 ≡ BadMap = grind arith in
    let many : 66 < c.in_ok-count.count = let r = (rw none at c.get.ensures.lookup).0 in omega (arith, r) in
    rw (p.1, p.2, is) (found_many c.args.text.now c.args.out.now c.in_ok-count.count (counted (goal.at.returns-in_err-numbers c).In_ok-count) (omega (arith, c.if-out-lines.false)) many)

pub returns-in_err-put_image : goal.returns-in_err-put_image
returns-in_err-put_image c =
    let p = err_from_is_err_and c.from_residual-in_err-put_image.result c.from_residual-in_err-put_image.ensures.1 in
    let part = part (goal.at.returns-in_err-put_image c).In_ok-numbers in
    rw (p.1, p.2) (found_large c.args.text.now c.args.out.now c.in_ok-count.count (counted (goal.at.returns-in_err-put_image c).In_ok-count) (omega (arith, c.if-out-lines.false)) _ _ c.read_numbers.ensures.1 part.0 part.1
    c.args.out.now c.args.out.now _ c.in_err-put_image.ensures)

pub returns-then-not-is_good : goal.returns-then-not-is_good
returns-then-not-is_good c =
    let part = part (goal.at.returns-then-not-is_good c).In_ok-numbers in
    found_bad c.args.text.now c.args.out.now c.in_ok-count.count (counted (goal.at.returns-then-not-is_good c).In_ok-count) (omega (arith, c.if-out-lines.false)) _ _ c.read_numbers.ensures.1 part.0 part.1
    _ _ (imaged (goal.at.returns-then-not-is_good c).In_ok-put_image) (sym c.is_good.ensures ∙ c.if-not-is_good.true)

pub returns : goal.returns
returns c =
    let part = part (goal.at.returns c).In_ok-numbers in
    found_good c.args.text.now c.args.out.now c.in_ok-count.count (counted (goal.at.returns c).In_ok-count) (omega (arith, c.if-out-lines.false)) _ _ c.read_numbers.ensures.1 part.0 part.1
    _ _ (imaged (goal.at.returns c).In_ok-put_image) (sym c.is_good.ensures ∙ c.if-not-is_good.false) _ c.in_ok-put_image-2.ensures
