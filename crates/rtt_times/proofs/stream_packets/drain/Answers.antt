use Rattle.std.proofs.Common.{List, ◌∙◌, subst, sym}
use Rattle.reorder_buffer.specs.declared.answers.Due.{Due}
use Rattle.reorder_buffer.specs.States.{State}
use Rattle.rtt_times.specs.Heard.{Drains}
use Rattle.rtt_times.proofs.Hearing.{Drained, drained_all, drained_more}
use Rattle.rtt_times.proofs.stream_packets.drain.Goals as goal

pub loop-due-preserved : goal.loop-due-preserved
loop-due-preserved c =
    let i = c.loop-due.invariant in
    let used = c.args.used.now.items in
    record {
      drained = subst (λ (ds : List Due). Drained c.args.buffer.now used c.next.new.self ds) (sym c.in_ok-push.ensures.items)
          (drained_more c.args.buffer.now c.loop-due.buffer c.next.new.self used c.loop-due.used.items c.in-Some.due i.drained c.in-Some.ensures.some);
      arrivals = c.in-Some.ensures.arrivals ∙ i.arrivals;
      finished = c.in-Some.ensures.finished ∙ i.finished;
    }

pub returns-clause-drains : goal.returns-clause-drains
returns-clause-drains c =
    subst (λ (t : State). Drains c.args.buffer.now c.args.used.now.items t c.loop-due.used.items) (sym c.in_default.ensures.unchanged)
    (drained_all c.args.buffer.now c.loop-due.buffer c.args.used.now.items c.loop-due.used.items c.loop-due.invariant.drained c.in_default.ensures.none)
