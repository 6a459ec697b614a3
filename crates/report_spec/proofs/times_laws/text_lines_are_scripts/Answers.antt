use Rattle.report_spec.proofs.Scripted.{are_scripts}
use Rattle.report_spec.proofs.times_laws.text_lines_are_scripts.Goals as goal

pub returns : goal.returns
returns c = are_scripts
