use Rattle.std.proofs.Common.{◌∙◌}
use Rattle.std.proofs.Math.Logic.{∥∥₁_map}
use Rattle.stream_spec.specs.Ready.{chunk_of}
use Rattle.recording_views.proofs.Writing.{writes_none, writes_chunk, rests_giving, still_giving}
use Rattle.recording_views.proofs.heard_texts.write_heard.Goals as goal

pub returns-then-not-next-clause-writes : goal.returns-then-not-next-clause-writes
returns-then-not-next-clause-writes g c =
    writes_none (g.W.TextWriter.wrote c.args.writer.now) c.args.ear.now c.loop.ear c.next.new.self c.args.out.now c.loop.out c.loop.invariant.written (c.next.ensures.none c.if-not-next.true) (c.next.ensures.all c.if-not-next.true)

pub returns-then-not-next-clause-giving : goal.returns-then-not-next-clause-giving
returns-then-not-next-clause-giving g c = ∥∥₁_map c.loop.invariant.giving (rests_giving c.loop.ear c.next.new.self (c.next.ensures.none c.if-not-next.true))

pub loop-preserved : goal.loop-preserved
loop-preserved g c =
    let gives = c.next.ensures.some c.if-not-next.false in
    record {
      giving = ∥∥₁_map c.loop.invariant.giving (still_giving c.loop.ear c.next.new.self (chunk_of c.next.new.chunk) gives);
      written = writes_chunk (g.W.TextWriter.wrote c.args.writer.now) c.args.ear.now c.loop.ear c.next.new.self (chunk_of c.next.new.chunk) c.args.out.now c.loop.out c.write.new.out c.loop.invariant.written gives c.in_ok-write.ensures;
      arrivals = c.next.ensures.arrivals ∙ c.loop.invariant.arrivals;
      finished = c.next.ensures.finished ∙ c.loop.invariant.finished;
    }
