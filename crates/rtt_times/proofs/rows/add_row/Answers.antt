use Rattle.std.proofs.Common.{List, ℕ, map, refl, subst}
use Rattle.std.proofs.lemmas.Bool.{eqb-true}
use Rattle.wire_spec.specs.Dump.{sent_item}
use Rattle.command_spec.specs.declared.requests.ReadRequest.{ReadRequest}
use Rattle.rtt_times.specs.Writing.{AddsSource, HasArrivals}
use Rattle.rtt_times.proofs.Rowing.{row_added}
use Rattle.rtt_times.proofs.rows.add_row.Goals as goal

pub returns : goal.returns
returns c = λ whole records a.
    let octets = c.as_slice.ensures in
    let of : ReadRequest = record { ssrc = c.args.stream.now.name; source = c.args.row.source; payload_types = c.args.payload_types } in
    let source = subst (λ (xs : List ℕ). AddsSource of xs c.args.lines.now c.add_texts.new.lines) octets c.in_ok-arrivals.ensures.source in
    let arrivals = subst (λ (xs : List ℕ). HasArrivals of xs c.in_ok-arrivals.arrivals) octets c.in_ok-arrivals.ensures.arrivals in
    row_added of c.args.row c.in_ok-arrivals.arrivals c.args.lines.now c.add_texts.new.lines (map sent_item records) refl (c.requires.row records a) (eqb-true c.in_ok-arrivals.arrivals c.args.row.packets whole) (arrivals records a) (source records a)
