use Rattle.std.proofs.Common.{◌++◌, codes}
use Rattle.rtt_io.specs.Fronts.{TakesFront}
use Rattle.report_spec.specs.Told.{told_name}
use Rattle.rtt_top.proofs.Fronts.{behind_err, front_behind, on_err}
use Rattle.rtt_top.proofs.messages.write_place.Goals as goal
use Rattle.sent_log.proofs.Passing.{front_before}
use Rattle.rtt_check.proofs.Pieces.{pieces_more as both}

pub returns-in_err-write_name-clause-partly : goal.returns-in_err-write_name-clause-partly
returns-in_err-write_name-clause-partly g c = λ t.
    let old = g.E.Sink.took c.args.err.now in
    let new = g.E.Sink.took c.write_name.new.err in
    let name = told_name c.args.name.now in
    let number = c.args.number.now ++ codes ": " in
    let why = c.args.why.now ++ codes "\n" in
    on_err (TakesFront old new (name ++ c.args.unit.now ++ number ++ why)) c.from_residual.result
    (front_before old new (name ++ c.args.unit.now ++ number) why (front_before old new (name ++ c.args.unit.now) number (front_before old new name c.args.unit.now (c.in_err-write_name.ensures.partly t))))

pub returns-in_err-write_all-clause-partly : goal.returns-in_err-write_all-clause-partly
returns-in_err-write_all-clause-partly g c = λ t.
    let old = g.E.Sink.took c.args.err.now in
    let new = g.E.Sink.took c.write_all.new.self in
    let name = told_name c.args.name.now in
    let number = c.args.number.now ++ codes ": " in
    let why = c.args.why.now ++ codes "\n" in
    on_err (TakesFront old new (name ++ c.args.unit.now ++ number ++ why)) c.from_residual-in_err-write_all.result
    (front_before old new (name ++ c.args.unit.now ++ number) why (front_before old new (name ++ c.args.unit.now) number
    (front_behind old (g.E.Sink.took c.write_name.new.err) new name c.args.unit.now (c.in_ok-write_name.ensures.written t) (c.in_err-write_all.ensures.prefix t))))

pub returns-in_err-write_two-clause-partly : goal.returns-in_err-write_two-clause-partly
returns-in_err-write_two-clause-partly g c = λ t.
    let old = g.E.Sink.took c.args.err.now in
    let mid = g.E.Sink.took c.write_name.new.err in
    let before = g.E.Sink.took c.write_all.new.self in
    let new = g.E.Sink.took c.write_two.new.err in
    let name = told_name c.args.name.now in
    let number = c.args.number.now ++ codes ": " in
    let why = c.args.why.now ++ codes "\n" in
    on_err (TakesFront old new (name ++ c.args.unit.now ++ number ++ why)) c.from_residual-in_err-write_two.result
    (front_before old new (name ++ c.args.unit.now ++ number) why
    (front_behind old before new (name ++ c.args.unit.now) number (both old mid before name c.args.unit.now (c.in_ok-write_name.ensures.written t) (c.in_ok-write_all.ensures.appended t)) (c.in_err-write_two.ensures.partly t)))

pub returns-clause-partly : goal.returns-clause-partly
returns-clause-partly g c = λ t.
    let old = g.E.Sink.took c.args.err.now in
    let mid = g.E.Sink.took c.write_name.new.err in
    let before = g.E.Sink.took c.write_all.new.self in
    let numbered = g.E.Sink.took c.write_two.new.err in
    let name = told_name c.args.name.now in
    let number = c.args.number.now ++ codes ": " in
    let why = c.args.why.now ++ codes "\n" in
    behind_err old numbered (g.E.Sink.took c.write_two-2.new.err) (name ++ c.args.unit.now ++ number) why c.write_two-2.result
    (both old before numbered (name ++ c.args.unit.now) number (both old mid before name c.args.unit.now (c.in_ok-write_name.ensures.written t) (c.in_ok-write_all.ensures.appended t)) (c.in_ok-write_two.ensures.written t)) (c.write_two-2.ensures.partly t)
