use Rattle.std.proofs.Common.{◌≡◌, ◌∙◌, List, get_or, ap, sym}
use Rattle.file_spec.specs.declared.conference_lines.LegLine.{LegLine}
use Rattle.rtt_live.proofs.Showing.{read_leg}
use Rattle.rtt_live.proofs.views.append_view.Goals as goal
use Rattle.wire_spec.proofs.Plain.{on_ok}

pub returns-then-as_slice-own : goal.returns-then-as_slice-own
returns-then-as_slice-own c = on_ok c.append_aware.result c.append_aware.ensures (λ f leg given at h.
    let shown = c.index-as_slice-own.result in
    let same : get_or c.as_slice.result.now c.args.own shown ≡ leg = ap (λ (ls : List LegLine). get_or ls c.args.own shown) c.as_slice.ensures ∙ read_leg c.args.conference.now.legs c.args.own shown leg at in
    f leg given at (sym (ap (λ (l : LegLine). l.aware) same) ∙ c.if-as_slice-own.true) h)

pub returns-else-as_slice-own : goal.returns-else-as_slice-own
returns-else-as_slice-own c = on_ok c.append_unaware.result c.append_unaware.ensures (λ f leg given at h.
    let shown = c.index-as_slice-own.result in
    let same : get_or c.as_slice.result.now c.args.own shown ≡ leg = ap (λ (ls : List LegLine). get_or ls c.args.own shown) c.as_slice.ensures ∙ read_leg c.args.conference.now.legs c.args.own shown leg at in
    f leg given at (sym (ap (λ (l : LegLine). l.aware) same) ∙ c.if-as_slice-own.false) h)
