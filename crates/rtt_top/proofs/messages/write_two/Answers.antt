use Rattle.std.proofs.Common.{◌++◌}
use Rattle.rtt_io.specs.Fronts.{TakesFront}
use Rattle.rtt_top.proofs.Fronts.{behind_err, on_err}
use Rattle.rtt_top.proofs.messages.write_two.Goals as goal
use Rattle.sent_log.proofs.Passing.{front_before}

pub returns-in_err-write_all-clause-partly : goal.returns-in_err-write_all-clause-partly
returns-in_err-write_all-clause-partly g c = λ t.
    let old = g.E.Sink.took c.args.err.now in
    let new = g.E.Sink.took c.write_all.new.self in
    on_err (TakesFront old new (c.args.first.now ++ c.args.second.now)) c.from_residual.result (front_before old new c.args.first.now c.args.second.now (c.in_err-write_all.ensures.prefix t))

pub returns-clause-partly : goal.returns-clause-partly
returns-clause-partly g c = λ t.
    behind_err (g.E.Sink.took c.args.err.now) (g.E.Sink.took c.write_all.new.self) (g.E.Sink.took c.write_all-2.new.self) c.args.first.now c.args.second.now
    c.write_all-2.result (c.in_ok-write_all.ensures.appended t) (c.write_all-2.ensures.prefix t)
