use Rattle.text_conversions.proofs.ReadBack.{items_back, packets_back}
use Rattle.text_conversions.proofs.send_laws.sent_is_read_back.Goals as goal

pub returns : goal.returns
returns c = record { records = λ settings lines t r. items_back settings lines t r.settings_is r.ssrc r.lines_are r.until r.moments r.size; packets = packets_back }
