use Rattle.view_spec.proofs.Lines.{shown_plain}
use Rattle.view_spec.proofs.text_laws.plain_text.Goals as goal

pub returns : goal.returns
returns c = shown_plain
