-- `report::put_table` meets its contract: the lines of the partitions below `i` stand behind the header. Assumes nothing.
use mathlib.Core.Path.{◌≡◌, sym, ap}
use native.Mathlib.Omega.{arith}
use Rattle.map.specs.Map.{header_of}
use Rattle.laws.specs.Below.{join_below}
use Rattle.laws.proofs.Below.{join_step}
use Rattle.reader.specs.declared.Fields.{Fields}
use Rattle.laws.specs.Put.{then, nothing, retext}
use Rattle.report.proofs.Laws.{line_is, table_is, counts, small_line, small_slot}
use Rattle.report.proofs.put_table.Goals as goal

pub loop-i-init : goal.loop-i-init
unfolding join_below
loop-i-init c = (omega arith, nothing _ _ (omega arith))

pub put_line-at-requires : goal.put_line-at-requires
put_line-at-requires c =
    let head = c.put-at.ensures in
    let p = counts _ c.args.drive.whole.good c.read_header-header.ensures in (
      omega (arith, c.loop-i.invariant.1.same, head.same, head.is_next, c.requires),
      small_line _ _ c.args.drive.whole.good _ (omega (arith, c.from-i-end.ensures)) _ _
          (ap (λ (f : Fields). f.entry) c.fields_of-fields.ensures) c.survey-survey.ensures,
    )

pub loop-i-preserved : goal.loop-i-preserved
loop-i-preserved c =
    let line = line_is _ _ _ _ _ (ap (λ (f : Fields). f.entry) c.fields_of-fields.ensures) c.survey-survey.ensures in
    (omega (arith, c.put_line-at.ensures.1), retext (sym (join_step _ _)) (then c.loop-i.invariant.1 (retext line c.put_line-at.ensures.0)))

pub put_hek-requires : goal.put_hek-requires
put_hek-requires c =
    let head = c.put-at.ensures in
    let p = counts _ c.args.drive.whole.good c.read_header-header.ensures in (
      omega (arith, c.loop-i.invariant.1.same, head.same, head.is_next, c.requires, c.from-i-end.ensures),
      small_slot _ _ c.args.drive.whole.good _ c.active_slot.ensures,
    )

pub returns : goal.returns
returns c =
    let p = counts _ c.args.drive.whole.good c.read_header-header.ensures in
    let all : c.loop-i.i ≡ (header_of c.args.drive.image.now).partitions = omega (arith, c.from-i-end.ensures) in
    retext (table_is _ _ _ _ all c.active_slot.ensures) (then (then c.put-at.ensures c.loop-i.invariant.1) c.put_hek.ensures.0)
