use Rattle.std.proofs.Common.{ℕ, [], ◌∷◌, sym, subst}
use Rattle.rtpdump_io.specs.declared.items.DumpItem.{DumpItem}
use Rattle.stream_spec.specs.Ready.{chunk_of}
use Rattle.receiver.specs.EarPlain.{GivesPlain}
use Rattle.leg.specs.Items.{GivesItem}
use Rattle.leg.proofs.records.hear_plain_item.Goals as goal

pub returns-in-Packet-clause-some : goal.returns-in-Packet-clause-some
returns-in-Packet-clause-some c = λ ok.
    let more = chunk_of c.hear_plain_chunk.new.chunk ∷ [] in
    let P : DumpItem → Type 0 = λ i. GivesItem c.args.ear.now c.hear_plain_chunk.new.self i c.args.octets.now more in
    let Q : ℕ → Type 0 = λ n. GivesPlain c.args.ear.now c.hear_plain_chunk.new.self n c.args.octets.now more in
    subst P (sym c.in-Packet.is) (subst Q c.from.ensures (c.hear_plain_chunk.ensures.some ok))

pub returns-in-Packet-clause-none : goal.returns-in-Packet-clause-none
returns-in-Packet-clause-none c = λ ok.
    let P : DumpItem → Type 0 = λ i. GivesItem c.args.ear.now c.hear_plain_chunk.new.self i c.args.octets.now [] in
    let Q : ℕ → Type 0 = λ n. GivesPlain c.args.ear.now c.hear_plain_chunk.new.self n c.args.octets.now [] in
    subst P (sym c.in-Packet.is) (subst Q c.from.ensures (c.hear_plain_chunk.ensures.none ok))
