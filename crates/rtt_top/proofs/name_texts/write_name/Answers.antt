use Rattle.std.proofs.Common.{◌≡◌, true, ◌++◌, ap, sym, subst, ◌∙◌}
use Rattle.std.specs.Prelude.{OnOk, OnErr}
use Rattle.std.specs.List.{list_all}
use Rattle.rtt_io.specs.Fronts.{TakesFront}
use Rattle.report_spec.specs.Told.{told_name}
use Rattle.rtt_top.specs.Sinks.{is_plain_octet}
use Rattle.rtt_top.proofs.Telling.{plain_told}
use Rattle.rtt_top.proofs.name_texts.write_name.Goals as goal

pub returns-then-are_plain-clause-written : goal.returns-then-are_plain-clause-written
returns-then-are_plain-clause-written g c = λ t.
    let name = c.args.name.now in
    let is : told_name name ≡ name = plain_told name (ap (list_all is_plain_octet) (sym c.as_bytes.ensures.value) ∙ sym c.are_plain.ensures ∙ c.if-are_plain.true) in
    subst (λ octets. OnOk c.write_all.result (g.E.Sink.took c.write_all.new.self ≡ g.E.Sink.took c.args.err.now ++ octets)) (c.as_bytes-then-are_plain.ensures.value ∙ sym is) (c.write_all.ensures.appended t)

pub returns-then-are_plain-clause-partly : goal.returns-then-are_plain-clause-partly
returns-then-are_plain-clause-partly g c = λ t.
    let name = c.args.name.now in
    let is : told_name name ≡ name = plain_told name (ap (list_all is_plain_octet) (sym c.as_bytes.ensures.value) ∙ sym c.are_plain.ensures ∙ c.if-are_plain.true) in
    subst (λ octets. OnErr c.write_all.result (TakesFront (g.E.Sink.took c.args.err.now) (g.E.Sink.took c.write_all.new.self) octets)) (c.as_bytes-then-are_plain.ensures.value ∙ sym is) (c.write_all.ensures.prefix t)
