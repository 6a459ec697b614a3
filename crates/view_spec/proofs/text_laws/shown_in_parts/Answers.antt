use Rattle.view_spec.proofs.Parts.{shown_parts}
use Rattle.view_spec.proofs.text_laws.shown_in_parts.Goals as goal

pub returns : goal.returns
returns c = shown_parts
