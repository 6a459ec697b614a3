use Rattle.std.proofs.Common.{Some}
use Rattle.wire_spec.specs.Text.{text_of}
use Rattle.reorder_buffer.specs.States.{with_packet}
use Rattle.rtt_show.proofs.Following.{follows_text, follows_other, short_with, short_up}
use Rattle.rtt_show.proofs.strays.Follower.follow.Goals as goal

pub take_read-requires : goal.take_read-requires
take_read-requires c = (c.requires.0, c.requires.1, short_with c.requires.0 c.args.self.now c.read_text.new.out c.requires.2)

pub returns-in-Ok-clause-more : goal.returns-in-Ok-clause-more
returns-in-Ok-clause-more c =
    follows_text c.args.self.now c.take_read.new.self c.read_text.new.out c.args.at c.take_read.result (text_of c.args.octets.now (Some c.args.ssrc) c.args.payload_types) c.in-Ok.ensures.exact c.take_read.ensures.more

pub returns-in-Ok-clause-short : goal.returns-in-Ok-clause-short
returns-in-Ok-clause-short c = λ n s. c.take_read.ensures.short n (short_with n c.args.self.now c.read_text.new.out s)

pub returns-in-Err-clause-more : goal.returns-in-Err-clause-more
returns-in-Err-clause-more c = follows_other c.args.self.now c.read_text.new.out c.args.at c.in-Err._fault (text_of c.args.octets.now (Some c.args.ssrc) c.args.payload_types) c.in-Err.ensures.exact

pub returns-in-Err-clause-short : goal.returns-in-Err-clause-short
returns-in-Err-clause-short c = λ n s. short_up n (record c.args.self.now { buffer = with_packet c.args.self.now.buffer c.read_text.new.out }) (short_with n c.args.self.now c.read_text.new.out s)
