-- `plan::read_numbers` meets its contract: the loop's invariant: so many numbers have ended and are kept, and the rest is to be read. Assumes nothing.
use Rattle.std.proofs.Common.{◌+◌, ◌≤◌, ◌≡◌, sym, ◌∙◌, arith, length, lt-ltb, le-ltb}
use Rattle.plan.specs.Steps.{kept}
use Rattle.plan.proofs.Steps.{stands_first, other_byte, stands_next}
use Rattle.plan.proofs.read_numbers.Goals as goal
use Rattle.plan.proofs.read_numbers.Goals.{then-count-lt-KEPT, else-count-lt-KEPT}

pub loop-first-init : goal.loop-first-init
loop-first-init c = (omega arith, c.told-numbers, stands_first c.args.text.now c.args.numbers.now)

pub returns-then-c-byte_after : goal.returns-then-c-byte_after
returns-then-c-byte_after c =
    let loop = c.loop-first in
    let stands = rw c.in-Some.ensures.cases.0 at loop.invariant.2 in
    other_byte c.args.text.now loop.count loop.numbers c.in-Some.field-0-0.now c.in-Some.more.now stands c.in_ok-number.number
    c.in_ok-number.behind c.in_ok-number.ensures c.in_ok-c.field-0-0.now c.in_ok-c.after.now c.in_ok-c.ensures.cases.0
    (λ e. c.if-c-byte_after.true (e ∙ sym c.byte_after.ensures))

pub loop-first-preserved : goal.loop-first-preserved
loop-first-preserved c =
    let loop = c.loop-first in
    let stands = rw c.in-Some.ensures.cases.0 at loop.invariant.2 in
    let numbers : c.if-count-lt-KEPT.numbers ≡ kept loop.numbers loop.count c.in_ok-number.number =
    elim c.if-count-lt-KEPT.branch [
      | then-count-lt-KEPT w ↦ w.numbers-is ∙ rw (lt-ltb loop.count 66 w.if-count-lt-KEPT.true)
      | else-count-lt-KEPT w ↦ w.numbers-is ∙ rw (le-ltb loop.count 66 w.if-count-lt-KEPT.false)
    ]
    in
    let less : loop.count + 1 + length c.in_ok-c.after.now ≤ length c.args.text.now =
    omega (arith, loop.invariant.0, c.in-Some.ensures.cases.1, c.in_ok-number.ensures.0, c.in_ok-c.ensures.cases.1) in
    let next =
    stands_next c.args.text.now loop.count loop.numbers c.in-Some.field-0-0.now c.in-Some.more.now stands c.in_ok-number.number
    c.in_ok-number.behind c.in_ok-number.ensures c.in_ok-c.field-0-0.now c.in_ok-c.after.now c.in_ok-c.ensures.cases.0
    (c.if-c-byte_after.false ∙ c.byte_after.ensures) loop.invariant.1
    in
    (less, c.if-count-lt-KEPT.array_long, rw numbers next)
