use Rattle.std.proofs.Common.{ℕ, List, [], ◌∷◌, length, map, cond, refl, sym, ◌∙◌, ap, subst, arith}
use Rattle.std.specs.Prelude.{AllPairs, remove, slice_index_or, ◌≢◌}
use Rattle.std.proofs.lemmas.List.{length-map}
use Rattle.file_spec.specs.declared.conference_lines.LegLine.{LegLine}
use Rattle.file_spec.specs.Conferences.{meaning_of}
use Rattle.rtt_mix.specs.Viewed.{AddsTerminalView, terminal_settings}
use Rattle.mixer_posts.proofs.LegLines.{ssrcs_differ}
use Rattle.stream_spec.specs.Own.{Sent}
use Rattle.sent_log.specs.States.{sents}
use Rattle.playback.specs.Written.{IsWrittenOf}
use Rattle.playback.proofs.Sendings.{few_sent}
use Rattle.rtt_mix.proofs.Recorded.{read_recording}
use Rattle.rtt_mix.proofs.SentViews.{sent_adds}
use Rattle.rtt_mix.proofs.Viewing.{at_leg, leg_read, aware_view, adds, unaware_view}
use Rattle.rtt_mix.proofs.views.add_view.Goals as goal
use Rattle.wire_spec.proofs.Plain.{on_ok}
use Rattle.sent_log.proofs.Recorded.{terminal_there as found_at}

pub sent_view-requires-clause-each : goal.sent_view-requires-clause-each
sent_view-requires-clause-each c =
    let others = remove c.args.conference.now.legs c.args.own in
    let sources = c.as_slice-sources.ensures.value ∙ (c.in_ok-speakers.ensures.sources ∙ ap (λ (ls : List LegLine). map (λ l. l.ssrc) (remove ls c.args.own)) c.as_slice-legs.ensures) in
    let names = c.as_slice-names.ensures.value ∙ (c.in_ok-speakers.ensures.names ∙ ap (λ (ls : List LegLine). map (λ l. l.name) (remove ls c.args.own)) c.as_slice-legs.ensures) in
    omega (
      arith,
      ap (λ (xs : List ℕ). length xs) sources,
      ap (λ (xs : List (List ℕ)). length xs) names,
      length-map others (λ (l : LegLine). l.ssrc),
      length-map others (λ (l : LegLine). l.name),
    )

pub add_sent_view-requires-clause-few : goal.add_sent_view-requires-clause-few
add_sent_view-requires-clause-few c =
    omega (arith, few_sent c.args.log.now c.args.own c.count-packets.result (omega (arith, c.requires.own, c.requires.each)) c.requires.sent c.count-packets.ensures)

pub add_sent_view-requires-clause-before : goal.add_sent_view-requires-clause-before
add_sent_view-requires-clause-before c =
    (c.args.own, omega (arith, c.requires.own, c.args.conference.now.kept.legs.most), record { packets = c.requires.before.packets; used = c.requires.before.used; markers = c.requires.before.markers })

pub returns-in-Some-clause-adds : goal.returns-in-Some-clause-adds
returns-in-Some-clause-adds c = on_ok c.add_sent_view.result c.add_sent_view.ensures.adds (λ f records d w.
    let own = c.args.own in
    let conference = meaning_of c.args.conference.now in
    let leg = c.index-legs-own.result in
    let x = found_at c.args.log.now own (omega (arith, c.requires.own, c.requires.each)) in
    let written = subst (λ (octets : List ℕ). IsWrittenOf octets records) (read_recording c.args.log.now own x.0 x.1) w in
    let same = c.index-legs-own.is ∙ leg_read c.as_slice-legs.result.now c.args.conference.now.legs own leg d c.as_slice-legs.ensures c.requires.own in
    let sources = c.as_slice-sources.ensures.value ∙ (c.in_ok-speakers.ensures.sources ∙ ap (λ (ls : List LegLine). map (λ l. l.ssrc) (remove ls own)) c.as_slice-legs.ensures) in
    let names = c.as_slice-names.ensures.value ∙ (c.in_ok-speakers.ensures.names ∙ ap (λ (ls : List LegLine). map (λ l. l.name) (remove ls own)) c.as_slice-legs.ensures) in
    let sent = rw c.in-Some.is at c.in_ok-pieces.ensures in
    sent_adds conference own c.count-packets.result (slice_index_or c.args.conference.now.legs own d) records c.as_slice-sources.result.now c.as_slice-names.result.now (sents x.0.sent) c.in-Some.pieces.items c.args.seen.now c.add_sent_view.new.seen
    (sym (ap (λ (l : LegLine). l.aware) same) ∙ c.if-leg.true) sources names (c.count-packets.ensures x.0 x.1 ∙ sym (length-map x.0.sent (λ (e : ℕ × Sent). e.1))) (sent x.0 x.1 records d written) f)

pub returns-in-Some-clause-with_it : goal.returns-in-Some-clause-with_it
returns-in-Some-clause-with_it c = on_ok c.add_sent_view.result c.add_sent_view.ensures.with_it (λ f.
    f c.args.own (record { packets = c.requires.before.packets; used = c.requires.before.used; markers = c.requires.before.markers }))

pub add_seen-requires-clause-differ : goal.add_seen-requires-clause-differ
add_seen-requires-clause-differ c =
    subst (λ (xs : List ℕ). AllPairs (λ a b. a ≢ b) xs) (sym (c.as_slice-sources.ensures.value ∙ (c.in_ok-speakers.ensures.sources ∙ ap (λ (ls : List LegLine). map (λ l. l.ssrc) (remove ls c.args.own)) c.as_slice-legs.ensures)))
    (ssrcs_differ c.args.conference.now.legs c.args.own c.requires.own c.args.conference.now.kept.legs.differ)

pub add_seen-requires-clause-fits : goal.add_seen-requires-clause-fits
add_seen-requires-clause-fits c =
    let others = remove c.args.conference.now.legs c.args.own in
    let sources = c.as_slice-sources.ensures.value ∙ (c.in_ok-speakers.ensures.sources ∙ ap (λ (ls : List LegLine). map (λ l. l.ssrc) (remove ls c.args.own)) c.as_slice-legs.ensures) in
    let names = c.as_slice-names.ensures.value ∙ (c.in_ok-speakers.ensures.names ∙ ap (λ (ls : List LegLine). map (λ l. l.name) (remove ls c.args.own)) c.as_slice-legs.ensures) in
    omega (
      arith,
      ap (λ (xs : List ℕ). length xs) sources,
      ap (λ (xs : List (List ℕ)). length xs) names,
      length-map others (λ (l : LegLine). l.ssrc),
      length-map others (λ (l : LegLine). l.name),
    )

pub returns-then-leg-clause-adds : goal.returns-then-leg-clause-adds
returns-then-leg-clause-adds c = on_ok c.add_seen.result c.add_seen.ensures.adds (λ f records d w.
    let own = c.args.own in
    let conference = meaning_of c.args.conference.now in
    let leg = c.index-legs-own.result in
    let old = c.args.seen.now in
    let new = c.add_seen.new.seen in
    let same = c.index-legs-own.is ∙ leg_read c.as_slice-legs.result.now c.args.conference.now.legs own leg d c.as_slice-legs.ensures c.requires.own in
    let sources = c.as_slice-sources.ensures.value ∙ (c.in_ok-speakers.ensures.sources ∙ ap (λ (ls : List LegLine). map (λ l. l.ssrc) (remove ls own)) c.as_slice-legs.ensures) in
    let names = c.as_slice-names.ensures.value ∙ (c.in_ok-speakers.ensures.names ∙ ap (λ (ls : List LegLine). map (λ l. l.name) (remove ls own)) c.as_slice-legs.ensures) in
    let listed = sources ∙ ap (λ b. cond b (map (λ (l : LegLine). l.ssrc) (remove c.args.conference.now.legs own)) (conference.mixer.ssrc ∷ [])) (sym c.if-leg.true) in
    let s = at_leg same (f records d w) in
    let view = aware_view conference own leg records s.terminal (terminal_settings conference leg) c.as_slice-sources.result.now c.as_slice-names.result.now [] s.shown c.if-leg.true refl sources names s.heard s.is_shown in
    subst (λ (l : LegLine). AddsTerminalView conference own l records old new) same (adds conference own leg records c.as_slice-sources.result.now _ old new listed s view))

pub returns-clause-adds : goal.returns-clause-adds
returns-clause-adds c = on_ok c.add_seen-2.result c.add_seen-2.ensures.adds (λ f records d w.
    let own = c.args.own in
    let conference = meaning_of c.args.conference.now in
    let leg = c.index-legs-own.result in
    let old = c.args.seen.now in
    let new = c.add_seen-2.new.seen in
    let sources = conference.mixer.ssrc ∷ [] in
    let same = c.index-legs-own.is ∙ leg_read c.as_slice-legs.result.now c.args.conference.now.legs own leg d c.as_slice-legs.ensures c.requires.own in
    let listed = ap (λ b. cond b (map (λ (l : LegLine). l.ssrc) (remove c.args.conference.now.legs own)) sources) (sym c.if-leg.false) in
    let s = at_leg same (f records d w) in
    let view = unaware_view conference own leg records s.terminal (terminal_settings conference leg) [] s.shown c.if-leg.false refl s.heard s.is_shown in
    subst (λ (l : LegLine). AddsTerminalView conference own l records old new) same (adds conference own leg records sources _ old new listed s view))
