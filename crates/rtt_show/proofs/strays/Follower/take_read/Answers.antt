use Rattle.std.proofs.Common.{ℕ, ap, ◌∙◌, subst, arith}
use Rattle.rtt_base.specs.declared.text_packets.TextPacket.{TextPacket}
use Rattle.reorder_buffer.specs.Told.{LeadsStory, came_current, is_current_in_time}
use Rattle.rtt_show.specs.declared.strays.NumberedPacket.{NumberedPacket}
use Rattle.rtt_show.specs.declared.strays.Follower.{Follower}
use Rattle.rtt_show.specs.Spreads.{SpreadsBy}
use Rattle.rtt_show.proofs.Following.{comes}
use Rattle.rtt_show.proofs.strays.Follower.take_read.Goals as goal

pub take-number-requires : goal.take-number-requires
take-number-requires c = (c.requires.0, c.requires.1, c.requires.2.narrow)

pub arrive-taken-requires-clause-quiet : goal.arrive-taken-requires-clause-quiet
arrive-taken-requires-clause-quiet c = c.requires.2.quiet

pub arrive-taken-requires-clause-few : goal.arrive-taken-requires-clause-few
arrive-taken-requires-clause-few c = omega (arith, c.requires.1, c.requires.2.arrivals)

pub returns-clause-more : goal.returns-clause-more
returns-clause-more c =
    let old = c.args.self.now in
    let t = c.arrive-taken.new.self in
    let new : Follower = record { buffer = c.drain.new.buffer; spread = c.take-number.new.self } in
    let came : NumberedPacket = record { number = c.take-number.result; in_time = c.is_used_as.result } in
    comes old new t c.args.at came
    (subst (λ (n : ℕ). LeadsStory old.buffer t (came_current old.buffer n)) c.from.ensures c.arrive-taken.ensures.stands)
    (λ story k. c.is_used_as.ensures ∙ (c.arrive-taken.ensures.used story k ∙ ap (λ (n : ℕ). is_current_in_time old.buffer n story) c.from.ensures))
    c.drain.ensures.drains
    (subst (λ (q : TextPacket). SpreadsBy old.spread q.seq c.take-number.result c.take-number.new.self) c.packet.ensures c.take-number.ensures.spreads)

pub returns-clause-short : goal.returns-clause-short
returns-clause-short c = λ n s. record {
  arrivals = omega (arith, c.drain.ensures.arrivals, c.arrive-taken.ensures.arrivals, s.arrivals);
  quiet = c.drain.ensures.quiet;
  narrow = c.take-number.ensures.narrow n s.narrow;
}
