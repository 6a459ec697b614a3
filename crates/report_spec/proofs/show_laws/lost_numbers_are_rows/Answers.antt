use Rattle.report_spec.proofs.Rows.{rows_are_lost}
use Rattle.report_spec.proofs.show_laws.lost_numbers_are_rows.Goals as goal

pub returns : goal.returns
returns c = rows_are_lost
