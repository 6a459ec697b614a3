use Rattle.text_conversions.proofs.Firsts.{scripts_end, ends_early, is_first}
use Rattle.text_conversions.proofs.send_laws.scripts_end.Goals as goal

pub returns : goal.returns
returns c = record { end = scripts_end; early = ends_early; first = λ settings lines t top e. (is_first settings lines t top e).1 }
