use Rattle.std.proofs.Common.{refl}
use Rattle.wire_spec.specs.Packets.{packet_of}
use Rattle.reorder_buffer.specs.Stories.{came}
use Rattle.reorder_buffer.proofs.Steps.{tracks_with}
use Rattle.cascade.proofs.Gathering.{hears_told, on_ok3, short_more, takes_packet, takes_nothing}
use Rattle.cascade.proofs.dividers.Demux.hear.Goals as goal

pub gather-requires : goal.gather-requires
gather-requires c =
    let r = c.requires.listens in
    let q = c.read_text.new.out in
    let story = r.3.story in
    record {
      hears = (
        r.0,
        r.1,
        came story c.args.now (packet_of q),
        hears_told c.args.self.now c.arrive-taken.new.self r.0 r.1 story (came story c.args.now (packet_of q)) refl refl
            (short_more c.args.octets.now c.args.self.now.ssrc c.args.self.now.payload_types (packet_of q) story.past c.in-Ok.ensures.exact r.3.hears.short)
            (λ k. c.arrive-taken.ensures.stands story (tracks_with c.args.self.now.buffer q story k)) r.3.hears,
      );
    }

pub returns-in-Ok-clause-takes : goal.returns-in-Ok-clause-takes
returns-in-Ok-clause-takes c = on_ok3 c.gather.result c.gather.ensures.gathers c.gather.ensures.quiet c.gather.ensures.finished (λ g quiet finished.
    takes_packet c.args.self.now c.gather.new.self c.arrive-taken.new.self c.args.now c.args.octets.now (packet_of c.read_text.new.out) c.in-Ok.ensures.exact
    (λ story k. c.arrive-taken.ensures.stands story (tracks_with c.args.self.now.buffer c.read_text.new.out story k)) c.arrive-taken.ensures.finished
    g quiet finished)

pub returns-in-Err-clause-takes : goal.returns-in-Err-clause-takes
returns-in-Err-clause-takes c = takes_nothing c.args.self.now c.read_text.new.out c.args.now c.args.octets.now c.in-Err._refused c.in-Err.ensures.exact
