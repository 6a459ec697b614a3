use Rattle.text_conversions.proofs.SendLines.{ends_agree}
use Rattle.text_conversions.proofs.send_laws.ends_agree.Goals as goal

pub returns : goal.returns
returns c = ends_agree
