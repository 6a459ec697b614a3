use Rattle.std.proofs.Common.{◌++◌, codes}
use Rattle.rtt_io.specs.Fronts.{TakesFront}
use Rattle.report_spec.specs.Told.{told_name}
use Rattle.rtt_top.proofs.Fronts.{behind_err, front_behind, on_err}
use Rattle.rtt_top.proofs.messages.write_trouble.Goals as goal
use Rattle.sent_log.proofs.Passing.{front_before}

pub returns-in_err-write_all-clause-partly : goal.returns-in_err-write_all-clause-partly
returns-in_err-write_all-clause-partly g c = λ t.
    let old = g.E.Sink.took c.args.err.now in
    let new = g.E.Sink.took c.write_all.new.self in
    let told = told_name c.args.name.now ++ codes "\n" in
    on_err (TakesFront old new (c.args.what.now ++ told)) c.from_residual.result (front_before old new c.args.what.now told (c.in_err-write_all.ensures.prefix t))

pub returns-in_err-write_name-clause-partly : goal.returns-in_err-write_name-clause-partly
returns-in_err-write_name-clause-partly g c = λ t.
    let old = g.E.Sink.took c.args.err.now in
    let mid = g.E.Sink.took c.write_all.new.self in
    let new = g.E.Sink.took c.write_name.new.err in
    let name = told_name c.args.name.now in
    on_err (TakesFront old new (c.args.what.now ++ (name ++ codes "\n"))) c.from_residual-in_err-write_name.result
    (front_behind old mid new c.args.what.now (name ++ codes "\n") (c.in_ok-write_all.ensures.appended t) (front_before mid new name (codes "\n") (c.in_err-write_name.ensures.partly t)))

pub returns-clause-partly : goal.returns-clause-partly
returns-clause-partly g c = λ t.
    let mid = g.E.Sink.took c.write_all.new.self in
    let new = g.E.Sink.took c.write_all-2.new.self in
    let name = told_name c.args.name.now in
    behind_err (g.E.Sink.took c.args.err.now) mid new c.args.what.now (name ++ codes "\n") c.write_all-2.result (c.in_ok-write_all.ensures.appended t)
    (behind_err mid (g.E.Sink.took c.write_name.new.err) new name (codes "\n") c.write_all-2.result (c.in_ok-write_name.ensures.written t) (c.write_all-2.ensures.prefix t))
