use Rattle.std.proofs.Common.{◌≡◌, ◌∙◌, ◌++◌, ap, subst}
use Rattle.file_spec.specs.declared.conference_lines.LegLine.{LegLine}
use Rattle.file_spec.specs.Conferences.{meaning_of}
use Rattle.live_spec.specs.Served.{live_view}
use Rattle.rtt_live.proofs.Showing.{shown_leg, unaware_shown}
use Rattle.rtt_live.proofs.views.append_unaware.Goals as goal
use Rattle.wire_spec.proofs.Plain.{on_ok}

pub returns : goal.returns
returns c = on_ok c.append_view.result c.append_view.ensures.seen (λ f leg given at e h.
    let conference = meaning_of c.args.conference.now in
    let same = shown_leg c.as_slice.result.now c.args.conference.now.legs c.args.own c.index-as_slice-own.result leg c.index-as_slice-own.is c.as_slice.ensures at in
    subst (λ (l : LegLine). c.append_view.new.out ≡ c.args.views.now ++ live_view conference c.args.own l given) same
    (unaware_shown conference c.args.own c.index-as_slice-own.result given c.in_ok-terminal.terminal c.settings_at.result c.args.views.now c.append_view.new.out
    (ap (λ (l : LegLine). l.aware) same ∙ e) c.settings_at.ensures (c.in_ok-terminal.ensures.heard given h) f))
