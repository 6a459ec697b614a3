use Rattle.text_conversions.proofs.Heard.{script_heard}
use Rattle.text_conversions.proofs.send_laws.sent_is_heard.Goals as goal

pub returns : goal.returns
returns c = λ settings lines t wait r e. script_heard settings lines t wait r.settings_is r.ssrc r.lines_are r.until e r.moments r.size
