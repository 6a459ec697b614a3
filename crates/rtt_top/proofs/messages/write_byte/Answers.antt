use Rattle.std.proofs.Common.{◌≡◌, codes, decimal, rules, subst}
use Rattle.std.specs.Prelude.{OnErr}
use Rattle.rtt_io.specs.Fronts.{TakesFront}
use Rattle.report_spec.specs.Told.{told_name}
use Rattle.rtt_top.specs.Sinks.{place_message}
use Rattle.rtt_top.proofs.messages.write_byte.Goals as goal

pub returns-clause-partly : goal.returns-clause-partly
returns-clause-partly g c = λ t.
    let number : c.as_bytes-number.result.now ≡ decimal c.args.byte = search rules in
    subst (λ digits. OnErr c.write_place.result (TakesFront (g.E.Sink.took c.args.err.now) (g.E.Sink.took c.write_place.new.err) (place_message (told_name c.args.name.now) (codes " byte ") digits c.args.why.now))) number
    (c.write_place.ensures.partly t)
