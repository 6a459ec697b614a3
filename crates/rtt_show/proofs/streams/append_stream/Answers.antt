use Rattle.std.proofs.Common.{ℕ, List, ◌++◌, map, subst, ap, ◌∙◌, append_assoc}
use Rattle.wire_spec.specs.Dump.{sent_item}
use Rattle.terminal.specs.Terminals.{texts_of}
use Rattle.report_spec.specs.Showing.{title_of}
use Rattle.rtt_show.specs.Shown.{asked, heard_text}
use Rattle.rtt_show.specs.Missed.{IsMissed, IsMissedOf}
use Rattle.view_spec.specs.declared.counts.Counts.{Counts}
use Rattle.rtpdump_io.specs.InMemory.{AreRecords}
use Rattle.rtt_show.proofs.Grouping.{on_ok}
use Rattle.rtt_show.proofs.Showing.{enough_texts, stream_shown, used_is}
use Rattle.rtt_show.proofs.streams.append_stream.Goals as goal

pub append_heard-requires-clause-each : goal.append_heard-requires-clause-each
append_heard-requires-clause-each c = enough_texts c.args.ssrc c.args.found.now.sources.kept.items (texts_of c.args.terminal.now) (c.requires.heard c.requires.records.0 c.requires.records.1).each

pub append_heard-requires-clause-utf8 : goal.append_heard-requires-clause-utf8
append_heard-requires-clause-utf8 c = (c.requires.heard c.requires.records.0 c.requires.records.1).utf8

pub returns : goal.returns
returns c =
    let s = c.args.found.now in
    let t = c.args.terminal.now in
    let m = c.in_ok-missed.missed in
    let title = title_of c.args.ssrc s.from s.to m.lost m.late in
    let missed : (records : List (ℕ × List ℕ)) → AreRecords c.args.records.now records → IsMissed c.args.payload_types c.args.ssrc m (map sent_item records) = λ records a.
    used_is c.args.payload_types c.args.ssrc s t (asked c.args.ssrc s.sources.kept.items) m (map sent_item records) (c.requires.found records a) (c.requires.heard records a)
    (subst (λ (n : Counts). IsMissedOf c.args.payload_types c.args.ssrc s.spread n.used m (map sent_item records)) c.counts-used.ensures (c.in_ok-missed.ensures records a)) in
    on_ok c.append_heard.result (λ e records a.
    e ∙ (ap (λ xs. xs ++ heard_text s t) c.in_ok-append_title.ensures
    ∙ (append_assoc c.args.out.now title (heard_text s t)
    ∙ ap (λ xs. c.args.out.now ++ xs) (stream_shown c.args.payload_types c.args.ssrc s t m (map sent_item records) (c.requires.found records a) (c.requires.heard records a) (missed records a)))))
    c.append_heard.ensures
