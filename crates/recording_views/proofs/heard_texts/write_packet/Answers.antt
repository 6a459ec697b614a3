use Rattle.std.proofs.Common.{[], ◌∷◌, subst}
use Rattle.std.proofs.Math.Logic.{∥∥₁_map}
use Rattle.stream_spec.specs.Ready.{chunk_of}
use Rattle.receiver.specs.declared.ears.Ear.{Ear}
use Rattle.receiver.specs.Hears.{Becomes, text_for, told}
use Rattle.recording_views.proofs.Writing.{plain_giving, becomes_giving, writes_plain, writes_nothing, writes_told}
use Rattle.recording_views.proofs.heard_texts.write_packet.Goals as goal
use Rattle.receiver.proofs.Parts.{on_ok_then as on_ok}

pub write_heard-requires : goal.write_heard-requires
write_heard-requires g c =
    let P : Ear → Type 0 = λ e. Becomes e c.hear-refused.new.self (λ settings story. told story c.args.at (text_for settings c.args.octets.now)) in
    let becomes = subst P (c.hear_plain_chunk.ensures.unchanged c.in-NotPlain.is) c.hear-refused.ensures.becomes in
    record { giving = ∥∥₁_map c.requires.giving (becomes_giving c.args.ear.now c.hear-refused.new.self (λ settings story. told story c.args.at (text_for settings c.args.octets.now)) becomes) }

pub returns-in-Chunk-clause-writes : goal.returns-in-Chunk-clause-writes
returns-in-Chunk-clause-writes g c =
    on_ok c.write.result (writes_plain (g.W.TextWriter.wrote c.args.writer.now) c.args.ear.now c.hear_plain_chunk.new.self c.args.at c.args.octets.now (chunk_of c.hear_plain_chunk.new.chunk) c.args.out.now c.write.new.out (c.hear_plain_chunk.ensures.some c.in-Chunk.is))
    c.write.ensures

pub returns-in-Chunk-clause-giving : goal.returns-in-Chunk-clause-giving
returns-in-Chunk-clause-giving g c =
    on_ok c.write.result (λ e. ∥∥₁_map c.requires.giving (plain_giving c.args.ear.now c.hear_plain_chunk.new.self c.args.at c.args.octets.now (chunk_of c.hear_plain_chunk.new.chunk ∷ []) (c.hear_plain_chunk.ensures.some c.in-Chunk.is)))
    c.write.ensures

pub returns-in-Nothing-clause-writes : goal.returns-in-Nothing-clause-writes
returns-in-Nothing-clause-writes g c =
    writes_nothing (g.W.TextWriter.wrote c.args.writer.now) c.args.ear.now c.hear_plain_chunk.new.self c.args.at c.args.octets.now c.args.out.now (c.hear_plain_chunk.ensures.none c.in-Nothing.is)

pub returns-in-Nothing-clause-giving : goal.returns-in-Nothing-clause-giving
returns-in-Nothing-clause-giving g c =
    ∥∥₁_map c.requires.giving (plain_giving c.args.ear.now c.hear_plain_chunk.new.self c.args.at c.args.octets.now [] (c.hear_plain_chunk.ensures.none c.in-Nothing.is))

pub returns-in-NotPlain-clause-writes : goal.returns-in-NotPlain-clause-writes
returns-in-NotPlain-clause-writes g c =
    let P : Ear → Type 0 = λ e. Becomes e c.hear-refused.new.self (λ settings story. told story c.args.at (text_for settings c.args.octets.now)) in
    let becomes = subst P (c.hear_plain_chunk.ensures.unchanged c.in-NotPlain.is) c.hear-refused.ensures.becomes in
    on_ok c.write_heard.result (writes_told (g.W.TextWriter.wrote c.args.writer.now) c.args.ear.now c.hear-refused.new.self c.write_heard.new.ear c.args.at c.args.octets.now c.args.out.now c.write_heard.new.out becomes)
    c.write_heard.ensures.writes
