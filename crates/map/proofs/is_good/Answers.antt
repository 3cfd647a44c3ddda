-- `map::is_good` meets its contract: header, filler and entries in turn. Assumes nothing.
use mathlib.Core.Path.{sym, ◌∙◌}
use native.Mathlib.Omega.{arith}
use Rattle.std.proofs.lemmas.Bool.{false≢true}
use Rattle.map.proofs.Laws.{header_rules, bad_header, bad_filler, good_so_far}
use Rattle.map.proofs.is_good.Goals as goal
use Rattle.map.proofs.is_good.Goals.{then-header_good, else-header_good}

pub filler_good-requires : goal.filler_good-requires
filler_good-requires c =
    let rules = header_rules _ _ (sym c.header_good.ensures ∙ c.if-header_good.true) in
    (rules.offset_least, omega (arith, rules.long))

pub entries_good-requires : goal.entries_good-requires
entries_good-requires c = elim c.if-header_good.branch [
  | then-header_good w ↦ (c.read_header-h.ensures, (header_rules _ _ (sym c.header_good.ensures ∙ w.if-header_good.true)).long)
  | else-header_good w ↦ absurd (false≢true (sym w.if-header_good.false ∙ sym w.value-is ∙ c.if-filler_good.true))
]

pub returns-then-filler_good : goal.returns-then-filler_good
returns-then-filler_good c = elim c.if-header_good.branch [
  | then-header_good w ↦
      let header = sym c.header_good.ensures ∙ w.if-header_good.true in
      let filler = sym w.filler_good.ensures ∙ sym w.value-is ∙ c.if-filler_good.true in
      c.entries_good.ensures ∙ sym (good_so_far _ _ c.read_header-h.ensures header filler)
  | else-header_good w ↦ absurd (false≢true (sym w.if-header_good.false ∙ sym w.value-is ∙ c.if-filler_good.true))
]

pub returns-else-filler_good : goal.returns-else-filler_good
returns-else-filler_good c = elim c.if-header_good.branch [
  | then-header_good w ↦
      let filler = sym w.filler_good.ensures ∙ sym w.value-is ∙ c.if-filler_good.false in
      c.if-filler_good.false ∙ sym (bad_filler _ _ c.read_header-h.ensures filler)
  | else-header_good w ↦
      c.if-filler_good.false ∙ sym (bad_header _ _ c.read_header-h.ensures (sym c.header_good.ensures ∙ w.if-header_good.false))
]
