use Rattle.view_spec.proofs.Signs.{signs-append, signs-cr_lf}
use Rattle.view_spec.proofs.text_laws.pieces.Goals as goal

pub returns-clause-apart : goal.returns-clause-apart
returns-clause-apart c = signs-append

pub returns-clause-cr_lf : goal.returns-clause-cr_lf
returns-clause-cr_lf c = signs-cr_lf
