use Rattle.std.proofs.Common.{◌≡◌, Ok, Err}
use Rattle.wire_spec.specs.Packets.{packet_of}
use Rattle.reorder_buffer.proofs.Steps.{tracks_with}
use Rattle.receiver.specs.Hears.{text_for}
use Rattle.receiver.proofs.Giving.{asked_within, takes, refuses}
use Rattle.receiver.proofs.ears.Ear.hear.Goals as goal

pub returns-in-Ok-clause-ok : goal.returns-in-Ok-clause-ok
returns-in-Ok-clause-ok c =
    (packet_of c.read_text_within.new.out, asked_within c.args.self.now.settings c.args.octets.now c.primary_limit.result (Ok (packet_of c.read_text_within.new.out)) c.primary_limit.ensures c.in-Ok.ensures.exact)

pub returns-in-Ok-clause-becomes : goal.returns-in-Ok-clause-becomes
returns-in-Ok-clause-becomes c =
    let is : text_for c.args.self.now.settings c.args.octets.now ≡ Ok (packet_of c.read_text_within.new.out) =
    asked_within c.args.self.now.settings c.args.octets.now c.primary_limit.result (Ok (packet_of c.read_text_within.new.out)) c.primary_limit.ensures c.in-Ok.ensures.exact in
    takes c.args.self.now c.arrive-taken.new.self c.args.now c.args.octets.now (packet_of c.read_text_within.new.out) c.requires.quiet is (λ story k. c.arrive-taken.ensures.stands story (tracks_with c.args.self.now.buffer c.read_text_within.new.out story k))

pub returns-in-Err-clause-becomes : goal.returns-in-Err-clause-becomes
returns-in-Err-clause-becomes c =
    let is : text_for c.args.self.now.settings c.args.octets.now ≡ Err c.in-Err.fault = asked_within c.args.self.now.settings c.args.octets.now c.primary_limit.result (Err c.in-Err.fault) c.primary_limit.ensures c.in-Err.ensures.exact in
    refuses c.args.self.now c.read_text_within.new.out c.args.now c.args.octets.now c.in-Err.fault c.requires.quiet is
