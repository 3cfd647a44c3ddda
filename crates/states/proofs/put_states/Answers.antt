-- `states::put_states` meets its contract: the loop's invariant: the front of each array lists the partitions below `i`, the rest is as it was. Assumes nothing.
use Prim.Native.Nat.{◌≤◌}
use mathlib.Core.Path.{◌≡◌, ap}
use native.Mathlib.Omega.{arith}
use Rattle.laws.specs.Below.{join_below}
use Rattle.map.specs.Map.{header_of}
use Rattle.map.proofs.Laws.{map_header}
use Rattle.map.specs.declared.Header.{Header}
use Rattle.partition.specs.declared.Survey.{Survey}
use Rattle.drive.specs.Laws.{short_most}
use Rattle.states.specs.Laws.{state_stored, short_stored}
use Rattle.std.proofs.Common.{rules}
use Rattle.states.proofs.put_states.Goals as goal
use Rattle.states.proofs.put_states.Goals.{After-read_header-partitions}

-- the partitions that the loop goes by are the map's, and at most 16
counted : (c : After-read_header-partitions)
    → let image = c.args.drive.image.now in let p = c.read_header-partitions.result.partitions in (p ≡ (header_of image).partitions) × (p ≤ 16)
counted c =
    let p = ap (λ (h : Header). h.partitions) c.read_header-partitions.ensures in
    let most = (map_header c.args.drive.image.now c.args.drive.whole.good).partitions_most in
    (p, omega arith)

pub loop-i-init : goal.loop-i-init
unfolding join_below
loop-i-init c = search rules

pub bounds-states-i : goal.bounds-states-i
bounds-states-i c = let most = (counted (goal.at.bounds-states-i c).After-read_header-partitions).1 in omega arith

pub overflow_cast-shorts : goal.overflow_cast-shorts
overflow_cast-shorts c =
    let p = (counted (goal.at.overflow_cast-shorts c).After-read_header-partitions).0 in
    let short = ap (λ (s : Survey). s.short) c.survey-survey.ensures in
    let most = short_most c.args.drive.image.now c.args.drive.cells.now c.args.drive.whole.good c.loop-i.i (omega arith) in
    record { fits = omega arith }

pub bounds-shorts-i : goal.bounds-shorts-i
bounds-shorts-i c = let most = (counted (goal.at.bounds-shorts-i c).After-read_header-partitions).1 in omega arith

pub loop-i-preserved : goal.loop-i-preserved
loop-i-preserved c =
    let most = (counted (goal.at.loop-i-preserved c).After-read_header-partitions).1 in
    let survey = c.survey-survey.ensures in (
      state_stored _ _ _ _ _ (omega arith) _ survey _ c.number_of.ensures c.loop-i.invariant.0,
      short_stored _ _ _ _ _ (omega arith) _ survey c.loop-i.invariant.1,
    )
