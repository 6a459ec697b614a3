use Rattle.std.proofs.Common.{ℕ, sym, subst}
use Rattle.rtpdump_io.specs.Answers.{record_of}
use Rattle.rtpdump_io.specs.declared.items.DumpItem.{DumpItem}
use Rattle.recording_views.specs.Writing.{WritesItem, WritesPacket}
use Rattle.recording_views.proofs.Writing.{item_written}
use Rattle.recording_views.proofs.heard_texts.write_record.Goals as goal
use Rattle.receiver.proofs.Parts.{on_ok_then as on_ok}

pub returns-in-Packet-clause-writes : goal.returns-in-Packet-clause-writes
returns-in-Packet-clause-writes g c =
    let wrote = g.W.TextWriter.wrote c.args.writer.now in
    let P : DumpItem → Type 0 = λ i. WritesItem wrote (record_of i c.args.octets.now) c.args.ear.now c.args.out.now c.write_packet.new.ear c.write_packet.new.out in
    let Q : ℕ → Type 0 = λ n. WritesPacket wrote n c.args.octets.now c.args.ear.now c.args.out.now c.write_packet.new.ear c.write_packet.new.out in
    on_ok c.write_packet.result (λ p. subst P (sym c.in-Packet.is) (item_written wrote c.args.ear.now c.write_packet.new.ear c.in-Packet.at c.args.octets.now c.args.out.now c.write_packet.new.out (subst Q c.from.ensures p)))
    c.write_packet.ensures.writes
