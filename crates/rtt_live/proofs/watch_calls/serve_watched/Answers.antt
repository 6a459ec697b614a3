use Rattle.std.proofs.Common.{◌≡◌, ◌++◌, true, ◌∙◌, ap, subst, sym, arith}
use Rattle.std.specs.Prelude.{OnOk, Result}
use Rattle.file_spec.specs.Conferences.{meaning_of}
use Rattle.live_board.specs.Values.{Reading, Telling}
use Rattle.rtt_live.specs.declared.faults.LiveFault.{LiveFault}
use Rattle.rtt_live.specs.declared.reports.LiveReport.{LiveReport}
use Rattle.rtt_live.specs.Calls.{WasTapped}
use Rattle.rtt_live.specs.Opened.{LeadsAll}
use Rattle.rtt_live.specs.Reports.{end_of}
use Rattle.rtt_live.specs.Spans.{span_of}
use Rattle.rtt_live.specs.Watched.{IsWrittenFor}
use Rattle.rtt_live.proofs.Breaking.{after_all}
use Rattle.rtt_live.proofs.Leading.{some_all}
use Rattle.rtt_live.proofs.Reading.{ok_has, was_watched}
use Rattle.rtt_live.proofs.watch_calls.serve_watched.Goals as goal

pub learn-requires : goal.learn-requires
learn-requires g c =
    let writer = c.serve_on-served.result.1 in
    let first = c.in-Ok.writer in
    let world = c.serve_on-served.new.world in
    let P : LiveReport → Type 0 = λ report. WasTapped (IsWrittenFor first.board writer) g.W.Links.tells (span_of g.W.Links c.args.world.now world) (g.W.Links.taken_at world) (g.W.Links.given_at world) (meaning_of c.args.conference.now) (end_of report.end) report.views in
    let w = ok_has P c.serve_on-served.result.0 c.in-Ok-served.report c.in-Ok-served.is c.serve_on-served.ensures.tapped in
    let Q : Telling → Type 0 = λ n. n ≡ record { board = writer.board; changes = writer.published ++ writer.pending; ended = true } in
    let told = ok_has Q c.last-noted.result c.in-Ok-noted.note c.in-Ok-noted.is c.last-noted.ensures.told in
    let back = c.finish-reader.ensures c.in-Ok.reader c.start-watcher.ensures in
    ap (λ (t : Telling). t.board) told ∙ (w.told.told.same ∙ (sym c.in-Ok.ensures.board ∙ sym back.board))

pub add_lines-requires-clause-each : goal.add_lines-requires-clause-each
add_lines-requires-clause-each g c =
    let back = c.finish-reader.ensures c.in-Ok.reader c.start-watcher.ensures in
    let legs = c.learn.ensures.board.1 ∙ (back.legs ∙ ap (λ (r : Reading). r.legs) c.in-Ok.ensures.reader) in
    omega (arith, legs, c.len-legs.ensures)

pub returns-in-Ok-add_lines-clause-watched : goal.returns-in-Ok-add_lines-clause-watched
returns-in-Ok-add_lines-clause-watched g c =
    let writer = c.serve_on-served.result.1 in
    let first = c.in-Ok.writer in
    let world = c.serve_on-served.new.world in
    let report = c.in-Ok-served.report in
    let conference = meaning_of c.args.conference.now in
    let P : LiveReport → Type 0 = λ report. WasTapped (IsWrittenFor first.board writer) g.W.Links.tells (span_of g.W.Links c.args.world.now world) (g.W.Links.taken_at world) (g.W.Links.given_at world) conference (end_of report.end) report.views in
    let w = ok_has P c.serve_on-served.result.0 report c.in-Ok-served.is c.serve_on-served.ensures.tapped in
    let Q : Telling → Type 0 = λ n. n ≡ record { board = writer.board; changes = writer.published ++ writer.pending; ended = true } in
    let told = ok_has Q c.last-noted.result c.in-Ok-noted.note c.in-Ok-noted.is c.last-noted.ensures.told in
    let seen = (c.learn.ensures.all (ap (λ (t : Telling). t.ended) told)).0 in
    was_watched g.W.Links.tells (span_of g.W.Links c.args.world.now world) (g.W.Links.taken_at world) (g.W.Links.given_at world) conference (end_of report.end) report.views c.add_lines.new.printed first.board writer c.learn.new.self.seen w
    (sym (seen ∙ ap (λ (t : Telling). t.changes) told)) c.in-Ok-add_lines.ensures

pub returns-clause-leads_some : goal.returns-clause-leads_some
returns-clause-leads_some g c = λ t.
    let conference = meaning_of c.args.conference.now in
    let old = g.W.Links.leads c.args.world.now in
    let new = g.W.Links.leads c.serve_on-served.new.world in
    some_all conference old new (subst (λ (r : Result LiveReport LiveFault). OnOk r (LeadsAll conference old new)) c.in-Ok-served.is (c.serve_on-served.ensures.leads_all t))

pub returns-in_default-noted-clause-leads_some : goal.returns-in_default-noted-clause-leads_some
returns-in_default-noted-clause-leads_some g c = λ t.
    let conference = meaning_of c.args.conference.now in
    let old = g.W.Links.leads c.args.world.now in
    let new = g.W.Links.leads c.serve_on-served.new.world in
    some_all conference old new (subst (λ (r : Result LiveReport LiveFault). OnOk r (LeadsAll conference old new)) c.in-Ok-served.is (c.serve_on-served.ensures.leads_all t))

pub returns-in_default-noted-clause-broke_off : goal.returns-in_default-noted-clause-broke_off
returns-in_default-noted-clause-broke_off g c =
    let writer = c.serve_on-served.result.1 in
    let first = c.in-Ok.writer in
    let world = c.serve_on-served.new.world in
    let report = c.in-Ok-served.report in
    let conference = meaning_of c.args.conference.now in
    let P : LiveReport → Type 0 = λ report. WasTapped (IsWrittenFor first.board writer) g.W.Links.tells (span_of g.W.Links c.args.world.now world) (g.W.Links.taken_at world) (g.W.Links.given_at world) conference (end_of report.end) report.views in
    let w = ok_has P c.serve_on-served.result.0 report c.in-Ok-served.is c.serve_on-served.ensures.tapped in
    after_all (IsWrittenFor first.board writer) g.W.Links.tells (span_of g.W.Links c.args.world.now world) (g.W.Links.given_at c.args.world.now) (g.W.Links.taken_at world) (g.W.Links.given_at world) conference (end_of report.end) report.views w

pub returns-clause-broke_off : goal.returns-clause-broke_off
returns-clause-broke_off g c =
    let writer = c.serve_on-served.result.1 in
    let first = c.in-Ok.writer in
    let world = c.serve_on-served.new.world in
    let report = c.in-Ok-served.report in
    let conference = meaning_of c.args.conference.now in
    let P : LiveReport → Type 0 = λ report. WasTapped (IsWrittenFor first.board writer) g.W.Links.tells (span_of g.W.Links c.args.world.now world) (g.W.Links.taken_at world) (g.W.Links.given_at world) conference (end_of report.end) report.views in
    let w = ok_has P c.serve_on-served.result.0 report c.in-Ok-served.is c.serve_on-served.ensures.tapped in
    after_all (IsWrittenFor first.board writer) g.W.Links.tells (span_of g.W.Links c.args.world.now world) (g.W.Links.given_at c.args.world.now) (g.W.Links.taken_at world) (g.W.Links.given_at world) conference (end_of report.end) report.views w
