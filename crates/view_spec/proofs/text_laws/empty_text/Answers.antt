use Rattle.view_spec.proofs.Lines.{shown_nothing}
use Rattle.view_spec.proofs.text_laws.empty_text.Goals as goal

pub returns : goal.returns
returns c = shown_nothing
