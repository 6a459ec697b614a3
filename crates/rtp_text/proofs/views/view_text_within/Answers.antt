use Rattle.rtp_text.proofs.Viewing.{if_some_then, view_read}
use Rattle.rtp_text.specs.Headers.{reading}
use Rattle.rtp_text.proofs.views.view_text_within.Goals as goal

pub returns-clause-packet : goal.returns-clause-packet
returns-clause-packet c =
    if_some_then c.view_payload.result (λ v p. view_read c.args.most c.args.octets.now c.args.ssrc c.args.payload_types (reading c.in-Ok.read) (reading c.in-Ok-accept.head) v c.if-octets-gt-MOST_PACKET_OCTETS.false c.in-Ok.ensures c.in-Ok-accept.ensures p) c.view_payload.ensures.packet
