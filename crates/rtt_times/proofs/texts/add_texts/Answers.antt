use Rattle.std.proofs.Common.{map, ◌∙◌}
use Rattle.wire_spec.specs.Dump.{sent_item}
use Rattle.rtt_times.proofs.Writing.{arrivals_written, begins_writing, source_written}
use Rattle.rtt_times.proofs.texts.add_texts.Goals as goal

pub returns-clause-source : goal.returns-clause-source
returns-clause-source c =
    let of = c.args.of in
    let name = c.in_ok-name.name in λ records a.
    source_written name of c.add_records.new.ear c.args.lines.now c.add_records.new.lines c.write_rest.new.out (map sent_item records) c.in_ok-name.ensures
    (c.in_ok-add_records.ensures.writes of c.args.lines.now (begins_writing name of c.in_ok-ear.ear c.args.lines.now c.in_ok-ear.ensures.begun) records a)
    c.in_ok-write_rest.ensures

pub returns-clause-arrivals : goal.returns-clause-arrivals
returns-clause-arrivals c =
    let of = c.args.of in
    let name = c.in_ok-name.name in λ records a.
    c.arrivals-arrivals.ensures
    ∙ arrivals_written name of c.add_records.new.ear c.args.lines.now c.add_records.new.lines (map sent_item records)
    (c.in_ok-add_records.ensures.writes of c.args.lines.now (begins_writing name of c.in_ok-ear.ear c.args.lines.now c.in_ok-ear.ensures.begun) records a)
