use Rattle.std.proofs.Common.{◌∙◌, ℕ, List, ap, subst, sym}
use Rattle.std.specs.List.{concat}
use Rattle.std.proofs.lemmas.List.{length-map}
use Rattle.stream_spec.specs.Own.{Sent}
use Rattle.file_spec.specs.declared.conference_lines.LegLine.{LegLine}
use Rattle.file_spec.specs.declared.conference_lines.PlanLine.{PlanLine}
use Rattle.file_spec.specs.Conferences.{meaning_of}
use Rattle.mixer_spec.specs.Arrives.{came}
use Rattle.view_spec.specs.Views.{aware_view}
use Rattle.sent_log.specs.States.{records_of, sents}
use Rattle.terminal.specs.declared.settings.TerminalSettings.{TerminalSettings}
use Rattle.terminal.specs.Terminals.{all_used, reception}
use Rattle.playback.specs.Whole.{IsHeardAsSent}
use Rattle.rtt_mix.specs.SentViews.{IsSeenAsSent, said_of}
use Rattle.rtt_mix.proofs.SentViews.{if_ok_some}
use Rattle.rtt_mix.proofs.Viewing.{leg_read}
use Rattle.rtt_mix.proofs.sent_views.sent_view.Goals as goal

pub view_as_sent-requires-clause-utf8 : goal.view_as_sent-requires-clause-utf8
view_as_sent-requires-clause-utf8 c = λ x at s.
    (c.hears_as_sent.ensures c.if-hears_as_sent.true x at (records_of x.settings x.sent) (c.requires.sent x at).written).utf8 s

pub returns-then-hears_as_sent : goal.returns-then-hears_as_sent
returns-then-hears_as_sent c = if_ok_some c.view_as_sent.result c.view_as_sent.ensures (λ pieces f x at records d w.
    let conference = meaning_of c.args.conference.now in
    let own = c.args.own in
    let sources = c.args.sources.now in
    let names = c.args.names.now in
    let past = sents x.sent in
    let leg = c.index-as_slice-own.result in
    let same = c.index-as_slice-own.is ∙ leg_read c.as_slice.result.now c.args.conference.now.legs own leg d c.as_slice.ensures c.requires.own in
    let heard = c.hears_as_sent.ensures c.if-hears_as_sent.true x at records w in
    let planned = subst (λ (ps : List PlanLine). IsHeardAsSent (reception c.settings_at.result) past (came ps own records)) c.as_slice-2.ensures heard in
    let settled = subst (λ (q : TerminalSettings). IsHeardAsSent (reception q) past (came conference.plan own records)) c.settings_at.ensures planned in
    subst (λ (l : LegLine). IsSeenAsSent conference own l sources names past records (concat pieces.items)) same (record {
      heard = settled;
      view_is = f x at ∙ ap (λ (k : ℕ). aware_view leg.name (said_of names sources past) (all_used k)) (sym (length-map x.sent (λ (e : ℕ × Sent). e.1)));
    }))
