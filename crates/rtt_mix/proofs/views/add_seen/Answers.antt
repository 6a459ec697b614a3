use Rattle.std.proofs.Common.{ℕ, List, refl, sym, ◌∙◌, subst, arith}
use Rattle.file_spec.specs.declared.conference_lines.LegLine.{LegLine}
use Rattle.file_spec.specs.declared.conference_lines.PlanLine.{PlanLine}
use Rattle.file_spec.specs.Conferences.{meaning_of}
use Rattle.mixer_spec.specs.Arrives.{came}
use Rattle.terminal.specs.Terminals.{Heard}
use Rattle.terminal.specs.Views.{Fits}
use Rattle.sent_log.specs.States.{records_of}
use Rattle.playback.specs.Written.{IsWrittenOf}
use Rattle.rtt_mix.specs.Viewed.{IsSeenAs}
use Rattle.rtt_mix.proofs.Recorded.{read_recording}
use Rattle.rtt_mix.proofs.Viewing.{leg_read, has_few, seen_as}
use Rattle.rtt_mix.proofs.views.add_seen.Goals as goal
use Rattle.sent_log.proofs.Recorded.{terminal_there as found_at}

pub add_shown-requires-clause-finished : goal.add_shown-requires-clause-finished
add_shown-requires-clause-finished c = λ whole.
    let x = found_at c.args.log.now c.args.own (omega (arith, c.requires.own, c.requires.each)) in (
      c.settings_at.result,
      c.args.sources.now,
      _,
      c.in_ok-terminal.ensures.heard x.0 x.1 (records_of x.0.settings x.0.sent) (c.requires.sent x.0 x.1).written,
    )

pub add_shown-requires-clause-fits : goal.add_shown-requires-clause-fits
add_shown-requires-clause-fits c = λ whole.
    let x = found_at c.args.log.now c.args.own (omega (arith, c.requires.own, c.requires.each)) in
    let heard = c.in_ok-terminal.ensures.heard x.0 x.1 (records_of x.0.settings x.0.sent) (c.requires.sent x.0 x.1).written in
    subst (λ n. Fits c.args.view n) (sym heard.each) c.requires.fits

pub count-requires-clause-few : goal.count-requires-clause-few
count-requires-clause-few c =
    let x = found_at c.args.log.now c.args.own (omega (arith, c.requires.own, c.requires.each)) in
    has_few c.in_ok-terminal.terminal c.settings_at.result c.args.sources.now _ (c.in_ok-terminal.ensures.heard x.0 x.1 (records_of x.0.settings x.0.sent) (c.requires.sent x.0 x.1).written) (omega (arith, c.requires.few)) c.in_ok-terminal.ensures.few

pub count-requires-clause-before : goal.count-requires-clause-before
count-requires-clause-before c =
    (c.args.own, omega (arith, c.requires.own, c.args.conference.now.kept.legs.most), record { packets = c.requires.before.packets; used = c.requires.before.used; markers = c.requires.before.markers })

pub returns-clause-adds : goal.returns-clause-adds
returns-clause-adds c = λ records d w.
    let own = c.args.own in
    let conference = meaning_of c.args.conference.now in
    let leg = c.index-as_slice-own.result in
    let sources = c.args.sources.now in
    let same = c.index-as_slice-own.is ∙ leg_read c.as_slice.result.now c.args.conference.now.legs own leg d c.as_slice.ensures c.requires.own in
    let x = found_at c.args.log.now own (omega (arith, c.requires.own, c.requires.each)) in
    let written = subst (λ (octets : List ℕ). IsWrittenOf octets records) (read_recording c.args.log.now own x.0 x.1) w in
    let heard = subst (λ (ps : List PlanLine). Heard c.in_ok-terminal.terminal c.settings_at.result sources (came ps own records)) c.as_slice-2.ensures (c.in_ok-terminal.ensures.heard x.0 x.1 records written) in
    subst (λ (l : LegLine). IsSeenAs conference own l sources c.args.view records c.args.seen.now c.count.new.seen) same
    (seen_as conference own leg records c.in_ok-terminal.terminal c.settings_at.result sources c.args.view c.args.seen.now (record c.args.seen.now { views = c.add_shown.new.pieces }) c.count.new.seen
    c.settings_at.ensures heard c.in_ok-add_shown.ensures refl refl refl c.count.ensures.adds)

pub returns-clause-with_it : goal.returns-clause-with_it
returns-clause-with_it c =
    let before = c.requires.before in
    c.count.ensures.with_it c.args.own (record { packets = before.packets; used = before.used; markers = before.markers })
