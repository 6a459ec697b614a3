use Rattle.std.proofs.Common.{◌≡◌, ◌∙◌, ◌∷◌, [], List, ℕ, ap, arith, map, subst, sym}
use Rattle.std.proofs.lemmas.List.{length-map}
use Rattle.wire_spec.specs.Dump.{sent_item}
use Rattle.view_spec.specs.declared.counts.Counts.{Counts}
use Rattle.terminal.specs.declared.settings.TerminalSettings.{TerminalSettings}
use Rattle.terminal.specs.Terminals.{counts_of}
use Rattle.rtt_show.specs.Hearing.{HasHeard}
use Rattle.rtt_show.specs.Shown.{asked, settings_of}
use Rattle.rtt_show.proofs.Rowing.{all_texts}
use Rattle.rtt_show.proofs.streams.show_row.Goals as goal

pub of_row-requires-clause-few : goal.of_row-requires-clause-few
of_row-requires-clause-few c =
    let records = c.requires.records.0 in
    omega (arith, (c.requires.row records c.requires.records.1).packets, c.requires.records.1.few, length-map records sent_item)

pub append_stream-requires-clause-found : goal.append_stream-requires-clause-found
append_stream-requires-clause-found c = λ records a.
    let payload_types = c.args.payload_types in
    let ssrc = c.args.ssrc in
    let row = c.args.row in
    let t = c.in_ok-terminal.terminal in
    let heard : HasHeard (settings_of payload_types ssrc) (row.source ∷ []) c.args.records.now t = subst (λ (f : TerminalSettings). HasHeard f (row.source ∷ []) c.args.records.now t) c.settings_for-settings.ensures c.in_ok-terminal.ensures in
    let same : c.counts-used.result.used ≡ row.packets = omega arith in
    let used : (counts_of t).used ≡ row.packets = ap (λ (n : Counts). n.used) (sym c.counts-used.ensures) ∙ same in
    let is = c.requires.row records a in
    c.in_ok-found.ensures.survey payload_types ssrc (map sent_item records) is (all_texts payload_types ssrc row t (row.source ∷ []) (map sent_item records) is (heard records a) used)

pub append_stream-requires-clause-heard : goal.append_stream-requires-clause-heard
append_stream-requires-clause-heard c =
    let row = c.args.row in
    let t = c.in_ok-terminal.terminal in
    let heard : HasHeard (settings_of c.args.payload_types c.args.ssrc) (row.source ∷ []) c.args.records.now t = subst (λ (f : TerminalSettings). HasHeard f (row.source ∷ []) c.args.records.now t) c.settings_for-settings.ensures c.in_ok-terminal.ensures in
    subst (λ (xs : List ℕ). HasHeard (settings_of c.args.payload_types c.args.ssrc) (asked c.args.ssrc xs) c.args.records.now t) (sym c.in_ok-found.ensures.kept) heard
