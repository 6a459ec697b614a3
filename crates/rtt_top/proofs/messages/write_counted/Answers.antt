use Rattle.std.proofs.Common.{◌≡◌, ◌++◌, decimal, rules, subst}
use Rattle.std.specs.Prelude.{OnErr}
use Rattle.rtt_io.specs.Fronts.{TakesFront}
use Rattle.rtt_top.proofs.Fronts.{behind_err, on_err}
use Rattle.rtt_top.proofs.messages.write_counted.Goals as goal
use Rattle.sent_log.proofs.Passing.{front_before}

pub returns-in_err-write_all-clause-partly : goal.returns-in_err-write_all-clause-partly
returns-in_err-write_all-clause-partly g c = λ t.
    let old = g.E.Sink.took c.args.err.now in
    let new = g.E.Sink.took c.write_all.new.self in
    on_err (TakesFront old new (c.args.before.now ++ (decimal c.args.count ++ c.args.after.now))) c.from_residual.result (front_before old new c.args.before.now (decimal c.args.count ++ c.args.after.now) (c.in_err-write_all.ensures.prefix t))

pub returns-clause-partly : goal.returns-clause-partly
returns-clause-partly g c = λ t.
    let number : c.as_bytes-number.result.now ≡ decimal c.args.count = search rules in
    behind_err (g.E.Sink.took c.args.err.now) (g.E.Sink.took c.write_all.new.self) (g.E.Sink.took c.write_two.new.err) c.args.before.now (decimal c.args.count ++ c.args.after.now)
    c.write_two.result (c.in_ok-write_all.ensures.appended t)
    (subst (λ digits. OnErr c.write_two.result (TakesFront (g.E.Sink.took c.write_all.new.self) (g.E.Sink.took c.write_two.new.err) (digits ++ c.args.after.now))) number (c.write_two.ensures.partly t))
