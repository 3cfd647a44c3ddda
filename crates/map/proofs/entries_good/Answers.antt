-- `map::entries_good` meets its contract: an entry more is judged by its own bytes. Assumes nothing.
use Prim.Native.Nat.{◌+◌, ◌*◌}
use mathlib.Core.Path.{◌≡◌, refl, sym, ap, ◌∙◌}
use Rattle.laws.specs.Below.{all_below}
use Rattle.laws.proofs.Below.{all_step, all_fails}
use Rattle.map.specs.declared.Header.{Header}
use Rattle.map.specs.Map.{entry_at, end_of, place_good}
use Rattle.map.proofs.Laws.{end_next, entry_own, spare_own, place_is}
use Rattle.map.proofs.entries_good.Goals as goal
use Rattle.map.proofs.entries_good.Goals.{After-entry_good}

pub loop-i-init : goal.loop-i-init
unfolding all_below
loop-i-init c = (refl, refl)

-- it is read from its own bytes, at its own place: so what entry_good answers is the rule of entry i
judged : (c : After-entry_good) → c.entry_good.result ≡ place_good c.args.image.now c.loop-i.i
judged c =
    place_is _ _ _ _ _ _ _ _ c.loop-i.invariant.0 (ap (λ (h : Header). h.cells) c.requires.0)
    (ap (λ (h : Header). h.offset + 8 * c.loop-i.i) c.requires.0)
    (c.entry_at-x.ensures ∙ entry_own _ _) (c.u16_at-spare.ensures ∙ spare_own _ _) c.entry_good.ensures

pub returns-then-not-entry_good : goal.returns-then-not-entry_good
returns-then-not-entry_good c = sym (all_fails _ _ _ c.loop-i-test.true (sym (judged (goal.at.returns-then-not-entry_good c).After-entry_good) ∙ c.if-not-entry_good.true))

pub loop-i-preserved : goal.loop-i-preserved
loop-i-preserved c = (
  c.end_of-end.ensures
      ∙ ap end_of (c.entry_at-x.ensures ∙ entry_own _ _ ∙ ap (entry_at _) (ap (λ (h : Header). h.offset + 8 * c.loop-i.i) c.requires.0))
      ∙ sym (end_next _ _),
  all_step _ _ c.loop-i.invariant.1 (sym (judged (goal.at.loop-i-preserved c).After-entry_good) ∙ c.if-not-entry_good.false),
)
