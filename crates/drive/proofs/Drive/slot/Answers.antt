-- `drive::Drive::slot` meets its contract: one law for every state. Assumes nothing.
use mathlib.Core.Path.{◌≡◌, sym, ◌∙◌}
use Rattle.partition.specs.declared.State.{State}
use Rattle.partition.specs.declared.State.TheVariants.{Erased, Torn, Blank, Programmed}
use Rattle.drive.specs.Drive.{slot_in, slot_at}
use Rattle.drive.specs.Laws.{no_slot, survey_is, slot_by}
use Rattle.drive.proofs.Drive.slot.Goals as goal
use Rattle.drive.proofs.Drive.slot.Goals.{After-survey_cells-survey, Else-not-is_slot}

pub returns-then-not-is_slot : goal.returns-then-not-is_slot
returns-then-not-is_slot c = sym (no_slot _ _ _ _ c.read_entry.ensures (sym c.is_slot.ensures ∙ c.if-not-is_slot.true))

-- the answer for the state that the survey found
answer : (c : After-survey_cells-survey) (state : State) → c.survey_cells-survey.result.state ≡ state
    → let a = c.args in
    slot_in state a.i ≡ slot_at a.self.image.now a.self.cells.now a.i
answer c state e =
    let survey = survey_is _ _ _ _ _ c.terms_of-terms.ensures c.part.ensures _ c.survey_cells-survey.ensures in
    sym (slot_by _ _ _ _ _ _ c.read_entry.ensures ((sym c.is_slot.ensures ∙ c.if-not-is_slot.false)) survey e)

pub returns-in-Erased : goal.returns-in-Erased
returns-in-Erased c = answer (goal.at.returns-in-Erased c).After-survey_cells-survey Erased c.in-Erased.is

pub returns-in-Torn : goal.returns-in-Torn
returns-in-Torn c = answer (goal.at.returns-in-Torn c).After-survey_cells-survey Torn c.in-Torn.is

pub returns-in-Blank : goal.returns-in-Blank
returns-in-Blank c = answer (goal.at.returns-in-Blank c).After-survey_cells-survey Blank c.in-Blank.is

pub returns-in-Programmed : goal.returns-in-Programmed
returns-in-Programmed c = answer (goal.at.returns-in-Programmed c).After-survey_cells-survey Programmed c.in-Programmed.is
