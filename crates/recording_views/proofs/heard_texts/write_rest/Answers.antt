use Rattle.std.proofs.Math.Logic.{∥∥₁_map}
use Rattle.reorder_buffer.specs.Stories.{ended}
use Rattle.recording_views.proofs.Writing.{becomes_giving, writes_end}
use Rattle.recording_views.proofs.heard_texts.write_rest.Goals as goal
use Rattle.receiver.proofs.Parts.{on_ok_then as on_ok}

pub write_heard-requires : goal.write_heard-requires
write_heard-requires g c =
    record { giving = ∥∥₁_map c.requires.giving (becomes_giving c.args.ear.now c.finish.new.self (λ settings story. ended story) c.finish.ensures.becomes) }

pub returns : goal.returns
returns g c =
    on_ok c.write_heard.result (writes_end (g.W.TextWriter.wrote c.args.writer.now) c.args.ear.now c.finish.new.self c.write_heard.new.ear c.args.out.now c.write_heard.new.out c.finish.ensures.becomes c.finish.ensures.all)
    c.write_heard.ensures.writes
