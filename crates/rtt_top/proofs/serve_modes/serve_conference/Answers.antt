use Rattle.std.proofs.Common.{sym, subst}
use Rattle.std.specs.Prelude.{IfOk}
use Rattle.file_spec.specs.Conferences.{meaning_of}
use Rattle.rtt_live.specs.Reports.{end_of}
use Rattle.rtt_top.specs.declared.serve_modes.ServeMode.{ServeMode}
use Rattle.rtt_top.specs.Lives.{IsGivenUp, ServedAs, served_by}
use Rattle.rtt_top.specs.Outside.{left_by}
use Rattle.rtt_top.proofs.Living.{answered, given_up_answer, given_up_as, served_as, watched_as}
use Rattle.rtt_top.proofs.serve_modes.serve_conference.Goals as goal

pub returns-in-Alone-clause-ends : goal.returns-in-Alone-clause-ends
returns-in-Alone-clause-ends g c =
    let call = c.serve-served in
    let AsServed : ServeMode → Type 0 = λ s. IfOk call.result (λ r. ServedAs (served_by s) g.L.Links.tells (left_by g.L.Links c.args.links.now) (left_by g.L.Links call.new.world) (meaning_of c.args.conference.now) (end_of r.end) r.views) in
    answered g.K.Sink (served_by c.args.serving) g.L.Links.tells (left_by g.L.Links c.args.links.now) (left_by g.L.Links call.new.world) c.args.out.now c.print_report.new.out (meaning_of c.args.conference.now) call.result c.print_report.result (subst AsServed (sym c.in-Alone.is) (served_as g.L.Links.tells (left_by g.L.Links c.args.links.now) (left_by g.L.Links call.new.world) (meaning_of c.args.conference.now) call.result call.ensures.served call.ensures.paused call.ensures.paced call.ensures.leads_all call.ensures.all_opened call.ensures.calm)) call.ensures.given_up c.print_report.ensures

pub returns-in-Watched-clause-ends : goal.returns-in-Watched-clause-ends
returns-in-Watched-clause-ends g c =
    let call = c.serve_watched-served in
    let AsServed : ServeMode → Type 0 = λ s. IfOk call.result (λ r. ServedAs (served_by s) g.L.Links.tells (left_by g.L.Links c.args.links.now) (left_by g.L.Links call.new.world) (meaning_of c.args.conference.now) (end_of r.end) r.views) in
    answered g.K.Sink (served_by c.args.serving) g.L.Links.tells (left_by g.L.Links c.args.links.now) (left_by g.L.Links call.new.world) c.args.out.now c.print_report-in-Watched.new.out (meaning_of c.args.conference.now) call.result c.print_report-in-Watched.result (subst AsServed (sym c.in-Watched.is) (watched_as g.L.Links.tells (left_by g.L.Links c.args.links.now) (left_by g.L.Links call.new.world) (meaning_of c.args.conference.now) call.result call.ensures.watched call.ensures.paused call.ensures.paced call.ensures.leads_all call.ensures.all_opened call.ensures.calm)) call.ensures.given_up c.print_report-in-Watched.ensures

pub returns-in-Alone-clause-given_up : goal.returns-in-Alone-clause-given_up
returns-in-Alone-clause-given_up g c =
    let call = c.serve-served in
    let old = left_by g.L.Links c.args.links.now in
    let new = left_by g.L.Links call.new.world in
    let conference = meaning_of c.args.conference.now in
    given_up_answer g.K.Sink call.result c.args.out.now c.print_report.new.out c.print_report.result (IsGivenUp conference g.L.Links.tells old new)
    (given_up_as g.L.Links.tells old new conference call.result call.ensures.leads_some call.ensures.broke_off) c.print_report.ensures

pub returns-in-Watched-clause-given_up : goal.returns-in-Watched-clause-given_up
returns-in-Watched-clause-given_up g c =
    let call = c.serve_watched-served in
    let old = left_by g.L.Links c.args.links.now in
    let new = left_by g.L.Links call.new.world in
    let conference = meaning_of c.args.conference.now in
    given_up_answer g.K.Sink call.result c.args.out.now c.print_report-in-Watched.new.out c.print_report-in-Watched.result (IsGivenUp conference g.L.Links.tells old new)
    (given_up_as g.L.Links.tells old new conference call.result call.ensures.leads_some call.ensures.broke_off) c.print_report-in-Watched.ensures
