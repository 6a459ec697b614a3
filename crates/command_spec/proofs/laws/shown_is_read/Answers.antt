use Rattle.std.proofs.Common.{List, ap, length}
use Rattle.std.specs.List.{concat}
use Rattle.wire_spec.specs.Packets.{Arrival}
use Rattle.stream_spec.specs.Numbering.{numbered, used}
use Rattle.stream_spec.specs.Hearing.{heard}
use Rattle.view_spec.specs.Shown.{shown}
use Rattle.command_spec.specs.Reading.{usual_wait, records_of}
use Rattle.command_spec.proofs.ShownAsRead.{arrives_alike}
use Rattle.command_spec.proofs.laws.shown_is_read.Goals as goal

pub returns : goal.returns
returns c = record {
  shown = λ r octets given. ap (λ (a : List Arrival). shown (concat (heard usual_wait a r.source))) (arrives_alike r.payload_types r.ssrc (records_of octets) given.0 given.1);
  used = λ r octets given. ap (λ (a : List Arrival). length (used usual_wait (numbered a))) (arrives_alike r.payload_types r.ssrc (records_of octets) given.0 given.1);
}
