use Rattle.text_conversions.proofs.Arriving.{recording_arrives}
use Rattle.text_conversions.proofs.send_laws.sent_arrives.Goals as goal

pub returns : goal.returns
returns c = record {
  come = λ settings lines t r. (recording_arrives settings lines t r.settings_is r.ssrc r.lines_are r.until r.moments r.size).come;
  all = λ settings lines t wait r. (recording_arrives settings lines t r.settings_is r.ssrc r.lines_are r.until r.moments r.size).all wait;
}
