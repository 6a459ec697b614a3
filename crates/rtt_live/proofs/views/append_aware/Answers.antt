use Rattle.std.proofs.Common.{◌≡◌, ◌∙◌, ◌++◌, List, ap, subst}
use Rattle.std.specs.Prelude.{remove}
use Rattle.file_spec.specs.declared.conference_lines.LegLine.{LegLine}
use Rattle.file_spec.specs.Conferences.{meaning_of}
use Rattle.file_spec.specs.Speakers.{names_of, ssrcs_of}
use Rattle.live_spec.specs.Served.{live_view}
use Rattle.rtt_live.proofs.Showing.{aware_shown, shown_leg}
use Rattle.rtt_live.proofs.views.append_aware.Goals as goal
use Rattle.wire_spec.proofs.Plain.{on_ok}

pub returns : goal.returns
returns c = on_ok c.append_view.result c.append_view.ensures.seen (λ f leg given at e h.
    let conference = meaning_of c.args.conference.now in
    let same = shown_leg c.as_slice.result.now c.args.conference.now.legs c.args.own c.index-as_slice-own.result leg c.index-as_slice-own.is c.as_slice.ensures at in
    let sources = c.as_slice-3.ensures.value ∙ (c.in_ok-speakers.ensures.sources ∙ ap (λ (ls : List LegLine). ssrcs_of (remove ls c.args.own)) c.as_slice-2.ensures) in
    let names = c.as_slice-4.ensures.value ∙ (c.in_ok-speakers.ensures.names ∙ ap (λ (ls : List LegLine). names_of (remove ls c.args.own)) c.as_slice-2.ensures) in
    subst (λ (l : LegLine). c.append_view.new.out ≡ c.args.views.now ++ live_view conference c.args.own l given) same
    (aware_shown conference c.args.own c.index-as_slice-own.result given c.in_ok-terminal.terminal c.settings_at.result c.args.views.now c.append_view.new.out c.as_slice-3.result.now c.as_slice-4.result.now
    (ap (λ (l : LegLine). l.aware) same ∙ e) c.settings_at.ensures sources names (c.in_ok-terminal.ensures.heard given h) f))
