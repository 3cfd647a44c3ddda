-- `report::report_drive` meets its contract: by what the input is. Assumes nothing.
use Rattle.report.proofs.Laws.{good_map, drive_printed}
use Rattle.report.proofs.report_drive.Goals as goal

pub put_drive-requires : goal.put_drive-requires
put_drive-requires c = (good_map _ _ _ c.in-Ok.ensures, c.requires)

pub returns-in-Ok : goal.returns-in-Ok
returns-in-Ok c = drive_printed _ _ _ _ c.in-Ok.ensures c.put_drive.ensures
