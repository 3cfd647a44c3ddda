-- `plan::read_number` meets its contract: the loop's invariant: the digits so far have this value, and the rest is to be read. Assumes nothing.
use Rattle.std.proofs.Common.{sym, ◌∙◌}
use Rattle.plan.proofs.Steps.{no_number, number_breaks}
use Rattle.plan.proofs.read_number.Goals as goal

pub returns-then-not-is_ascii_digit : goal.returns-then-not-is_ascii_digit
returns-then-not-is_ascii_digit c = no_number c.args.first c.args.text.now (sym c.is_ascii_digit.ensures.value ∙ c.if-not-is_ascii_digit.true)

pub returns-in_err-value : goal.returns-in_err-value
returns-in_err-value c =
    let loop = c.loop-c in
    let digit = sym c.is_ascii_digit-in-Some.ensures.value ∙ c.if-not-is_ascii_digit-2.false in
    let more = rw c.in-Some.ensures.cases.0 at loop.invariant.1 in
    rw c.from_residual.ensures (λ ended.
    more ended ∙ number_breaks ended c.in-Some.field-0-0.now c.in-Some.behind.now loop.value digit (sym c.in_err-value.was ∙ c.longer_by.ensures))
