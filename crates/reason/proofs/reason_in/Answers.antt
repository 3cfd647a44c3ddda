-- `reason::reason_in` meets its contract: by the walk's answer. Assumes nothing.
use mathlib.Core.Path.{sym, ap, ◌∙◌}
use mathlib.Core.Bool.{Bool, cond}
use Rattle.reason.specs.declared.Reason.TheVariants.{NoSlot, AllErased}
use Rattle.reason.proofs.Laws.{by_slot, torn_active}
use Rattle.reason.proofs.reason_in.Goals as goal

pub torn_reason-requires : goal.torn_reason-requires
torn_reason-requires c = torn_active _ _ _ (sym c.in-Torn.is ∙ c.active_slot.ensures)

pub returns-in-Programmed : goal.returns-in-Programmed
returns-in-Programmed c = by_slot _ _ _ (sym c.in-Programmed.is ∙ c.active_slot.ensures)

pub returns-in-Blank : goal.returns-in-Blank
returns-in-Blank c = by_slot _ _ _ (sym c.in-Blank.is ∙ c.active_slot.ensures)

pub returns-in-Torn : goal.returns-in-Torn
returns-in-Torn c = c.torn_reason.ensures ∙ by_slot _ _ _ (sym c.in-Torn.is ∙ c.active_slot.ensures)

pub returns-then-has_no_slot : goal.returns-then-has_no_slot
returns-then-has_no_slot c =
    let test = sym c.has_no_slot.ensures ∙ c.if-has_no_slot.true in
    sym (ap (λ (b : Bool). cond b NoSlot AllErased) test) ∙ by_slot _ _ _ (sym c.in-Absent.is ∙ c.active_slot.ensures)

pub returns-else-has_no_slot : goal.returns-else-has_no_slot
returns-else-has_no_slot c =
    let test = sym c.has_no_slot.ensures ∙ c.if-has_no_slot.false in
    sym (ap (λ (b : Bool). cond b NoSlot AllErased) test) ∙ by_slot _ _ _ (sym c.in-Absent.is ∙ c.active_slot.ensures)
