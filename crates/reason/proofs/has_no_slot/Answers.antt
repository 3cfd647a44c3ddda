-- `reason::has_no_slot` meets its contract: the loop's invariant: the partitions below `i` are no slots. Assumes nothing.
use mathlib.Core.Path.{◌≡◌, refl, sym, ap, ◌∙◌}
use mathlib.Core.Bool.{not}
use native.Mathlib.Omega.{arith}
use Rattle.laws.specs.Below.{all_below}
use Rattle.laws.proofs.Below.{all_step, all_fails}
use Rattle.map.specs.declared.Header.{Header}
use Rattle.map.specs.Map.{header_of}
use Rattle.reason.specs.Reason.{not_slot}
use Rattle.reason.proofs.Laws.{not_slot_lem}
use Rattle.reason.proofs.has_no_slot.Goals as goal
use Rattle.reason.proofs.has_no_slot.Goals.{After-is_slot, After-read_header-partitions}

pub loop-i-init : goal.loop-i-init
unfolding all_below
loop-i-init c = refl

-- the turn's partition, by what `is_slot` answered
tested : (c : After-is_slot) → not_slot c.args.image.now c.loop-i.i ≡ not c.is_slot.result
tested c = not_slot_lem _ _ _ _ c.read_entry.ensures c.is_slot.ensures

-- as many partitions as the header says
partitions_are : (c : After-read_header-partitions) → c.read_header-partitions.result.partitions ≡ (header_of c.args.image.now).partitions
partitions_are c = ap (λ (h : Header). h.partitions) c.read_header-partitions.ensures

pub returns-then-is_slot : goal.returns-then-is_slot
returns-then-is_slot c =
    let l = partitions_are (goal.at.returns-then-is_slot c).After-read_header-partitions in
    sym (all_fails _ _ _ (omega arith) (tested (goal.at.returns-then-is_slot c).After-is_slot ∙ ap not c.if-is_slot.true))

pub loop-i-preserved : goal.loop-i-preserved
loop-i-preserved c = all_step _ _ c.loop-i.invariant (tested (goal.at.loop-i-preserved c).After-is_slot ∙ ap not c.if-is_slot.false)
