-- `drive::Drive::survey` meets its contract: at the terms and the part that were read. Assumes nothing.
use Rattle.drive.specs.Laws.{survey_is}
use Rattle.drive.proofs.Drive.survey.Goals as goal

pub returns : goal.returns
returns c = survey_is _ _ _ _ _ c.terms_of-terms.ensures c.part.ensures _ c.survey_cells.ensures
