use Rattle.std.proofs.Common.{Some}
use Rattle.wire_spec.specs.Text.{text_of}
use Rattle.rtt_show.proofs.Grouping.{on_ok}
use Rattle.rtt_show.proofs.Following.{strayed_some, strayed_none, bound_up}
use Rattle.rtt_show.proofs.strays.take_packet.Goals as goal

pub follow-requires : goal.follow-requires
follow-requires c = (c.requires.0, c.requires.1, c.requires.2.0)

pub returns-in-Some-clause-more : goal.returns-in-Some-clause-more
returns-in-Some-clause-more c =
    on_ok c.take.result
    (strayed_some c.args.follower.now c.follow.new.self c.args.strays.now c.take.new.self c.args.at (text_of c.args.octets.now (Some c.args.ssrc) c.args.payload_types) c.in-Some.came c.in-Some.ensures.more)
    c.take.ensures.more

pub returns-in-Some-clause-few : goal.returns-in-Some-clause-few
returns-in-Some-clause-few c = on_ok c.take.result (λ e n b. (c.follow.ensures.short n b.0, e n b.1)) c.take.ensures.few

pub returns-in-None-clause-more : goal.returns-in-None-clause-more
returns-in-None-clause-more c =
    strayed_none c.args.follower.now c.follow.new.self c.args.strays.now c.args.at (text_of c.args.octets.now (Some c.args.ssrc) c.args.payload_types) c.in-None.ensures.more

pub returns-in-None-clause-few : goal.returns-in-None-clause-few
returns-in-None-clause-few c = λ n b. bound_up n c.follow.new.self c.args.strays.now (c.follow.ensures.short n b.0) b.1
