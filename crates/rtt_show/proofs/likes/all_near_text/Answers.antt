use Rattle.std.proofs.Common.{◌≡◌}
use Rattle.command_spec.specs.Streams.{are_like_text}
use Rattle.wire_spec.specs.Dump.{sent_item}
use Rattle.rtpdump_io.proofs.Fronts.{front_more, front_all}
use Rattle.rtt_show.proofs.Surveying.{likes_more}
use Rattle.rtt_show.proofs.likes.all_near_text.Goals as goal

pub loop-octets-preserved : goal.loop-octets-preserved
loop-octets-preserved c = λ all a.
    front_more (λ came. c.loop-octets.near ≡ are_like_text c.args.ssrc c.args.payload_types came) (λ came. c.and_near_text-near.result ≡ are_like_text c.args.ssrc c.args.payload_types came) c.loop-octets.rest.now c.in-Some.field-0-0 c.in-Some.octets.now c.in-Some.more.now all
    c.in-Some.ensures.record c.in-Some.ensures.shorter
    (λ came e. likes_more c.args.ssrc c.args.payload_types c.loop-octets.near c.and_near_text-near.result came (sent_item (c.in-Some.field-0-0, c.in-Some.octets.now)) e c.and_near_text-near.ensures)
    (c.loop-octets.invariant all a)

pub returns : goal.returns
returns c = λ all a.
    front_all (λ came. c.loop-octets.near ≡ are_like_text c.args.ssrc c.args.payload_types came) c.loop-octets.rest.now all c.in_default.ensures.record (c.loop-octets.invariant all a)
