use denote.Param.Send.{sendable}
use Rattle.std.proofs.Common.{Err, refl, ap, sym, subst, ◌∙◌}
use Rattle.file_spec.specs.Conferences.{meaning_of}
use Rattle.command_spec.specs.Messages.{Ending}
use Rattle.rtt_words.specs.Commands.{mixed}
use Rattle.rtt_top.specs.Conferences.{ending_name, serving_of}
use Rattle.rtt_top.specs.Lives.{served_by}
use Rattle.rtt_top.specs.Outside.{left_by, outside_over, output_at}
use Rattle.rtt_top.specs.Runs.{Ends}
use Rattle.rtt_top.proofs.Conferring.{live_reads}
use Rattle.rtt_top.proofs.Working.{stopped}
use Rattle.rtt_top.proofs.Since.{ends_since, same_name}
use Rattle.rtt_top.proofs.Living.{ends_live, failed, given_up_from, is_of_links, not_begun, served_from, used}
use Rattle.rtt_top.proofs.serve_modes.serve_file.Goals as goal

pub serve_conference-ending-requires : goal.serve_conference-ending-requires
serve_conference-ending-requires g c =
    let read = c.in-Ok.ensures.read in
    let links = is_of_links read.0 (meaning_of c.in-Ok.conference) read.2 in
    let inbound = c.type_bounds.send-L-In in
    let rt = c.type_bounds.sync-R in
    let sent = c.type_bounds.send-R in
    let gate = c.type_bounds.sync-G in
    (search sendable depth 20, (search sendable depth 20, (search sendable depth 20, (search sendable depth 20, (search sendable depth 20, links)))))

pub returns-in-Err-clause-ends : goal.returns-in-Err-clause-ends
returns-in-Err-clause-ends g c =
    let old = outside_over g.W.World g.K.Sink g.L.Links c.args.world.now c.args.out.now c.args.links.now in
    let new = outside_over g.W.World g.K.Sink g.L.Links c.conference_under.new.world c.args.out.now c.args.links.now in
    let name = c.args.words.now.conference.now in
    let ending : Ending = Err c.in-Err.fault in
    record {
      ending = ending;
      name = name;
      is_status = c.finish_with.ensures.status;
      ends = subst (λ n. Ends (serving_of name) g.W.World.tells g.K.Sink.tells old new n ending) (same_name name ending)
          (stopped (serving_of name) g.W.World.tells g.K.Sink.tells old new name name c.in-Err.fault refl (c.in-Err.ensures.stops (serving_of name) (live_reads name)) ((λ shown. refl), c.in-Err.ensures.same_contents));
      silent = c.finish_with.ensures.silent;
      front = c.finish_with.ensures.front;
      told = c.finish_with.ensures.told;
    }

pub returns-in-Err-clause-served : goal.returns-in-Err-clause-served
returns-in-Err-clause-served g c = λ share at.
    let file = c.args.words.now.conference.now in
    absurd (failed share g.W.World.tells (g.W.World.contents c.args.world.now) (serving_of file) _ _ c.finish_with.result c.in-Err.fault (c.in-Err.ensures.stops (serving_of file) (live_reads file)) c.finish_with.ensures.status at)

pub returns-clause-ends : goal.returns-clause-ends
returns-clause-ends g c =
    let old = outside_over g.W.World g.K.Sink g.L.Links c.args.world.now c.args.out.now c.args.links.now in
    let mid = outside_over g.W.World g.K.Sink g.L.Links c.conference_under.new.world c.args.out.now c.args.links.now in
    let new = outside_over g.W.World g.K.Sink g.L.Links c.conference_under.new.world c.serve_conference-ending.new.out c.serve_conference-ending.new.links in
    let file = c.args.words.now.conference.now in
    let ending = c.serve_conference-ending.result in
    let conference = meaning_of c.in-Ok.conference in
    let read = c.in-Ok.ensures.read in
    let named = c.name_at_end-name.ensures ∙ ap (λ legs. ending_name file legs ending) c.as_slice.ensures in
    record {
      ending = ending;
      name = c.name_at_end-name.result.now;
      is_status = c.finish_with-2.ensures.status;
      ends = subst (λ n. Ends (serving_of file) g.W.World.tells g.K.Sink.tells old new n ending) (sym named)
          (ends_since (serving_of file) g.W.World.tells g.K.Sink.tells old mid new (ending_name file c.in-Ok.conference.legs ending) ending
          (record { same = c.in-Ok.ensures.same_contents; calls_rise = c.in-Ok.ensures.calls_never_fall; objects_rise = c.in-Ok.ensures.objects_never_fall }) refl refl c.in-Ok.ensures.calm c.in-Ok.ensures.opened
          (ends_live (served_by c.args.serving conference g.L.Links.tells mid.links new.links) g.W.World.tells g.K.Sink.tells mid new file read.0 conference ending (λ told. c.in-Ok.ensures.same_contents told file ∙ read.1 told) read.2 (λ name. refl) (c.serve_conference-ending.ensures.ends read.0 read.2)));
      silent = c.finish_with-2.ensures.silent;
      front = c.finish_with-2.ensures.front;
      told = c.finish_with-2.ensures.told;
    }

pub returns-clause-served : goal.returns-clause-served
returns-clause-served g c = λ share at.
    let old = outside_over g.W.World g.K.Sink g.L.Links c.args.world.now c.args.out.now c.args.links.now in
    let new = outside_over g.W.World g.K.Sink g.L.Links c.conference_under.new.world c.serve_conference-ending.new.out c.serve_conference-ending.new.links in
    let read = c.in-Ok.ensures.read in
    served_from share (λ d. served_by c.args.serving d g.L.Links.tells old.links new.links) g.W.World.tells g.K.Sink.tells old new
    (mixed c.args.words.now) read.0 (meaning_of c.in-Ok.conference) c.finish_with-2.result c.serve_conference-ending.result read.1 read.2
    c.finish_with-2.ensures.status (c.serve_conference-ending.ensures.ends read.0 read.2) at

pub returns-clause-offline : goal.returns-clause-offline
returns-clause-offline g c = λ e.
    let read = c.in-Ok.ensures.read in
    let conference = meaning_of c.in-Ok.conference in
    let old = left_by g.L.Links c.args.links.now in
    let new = left_by g.L.Links c.serve_conference-ending.new.links in
    absurd (used (served_by c.args.serving conference g.L.Links.tells old new) g.K.Sink.tells old new (output_at g.K.Sink c.args.out.now) (output_at g.K.Sink c.serve_conference-ending.new.out) conference
    c.finish_with-2.result c.serve_conference-ending.result c.finish_with-2.ensures.status (c.serve_conference-ending.ensures.ends read.0 read.2) e)

pub returns-in-Err-clause-given_up : goal.returns-in-Err-clause-given_up
returns-in-Err-clause-given_up g c =
    let file = c.args.words.now.conference.now in
    not_begun g.W.World.tells (g.W.World.contents c.args.world.now) (serving_of file) _ _ g.W.World.tells g.L.Links.tells (mixed c.args.words.now) _ _ c.finish_with.result c.in-Err.fault
    (c.in-Err.ensures.stops (serving_of file) (live_reads file)) c.finish_with.ensures.status refl

pub returns-clause-given_up : goal.returns-clause-given_up
returns-clause-given_up g c =
    let old = outside_over g.W.World g.K.Sink g.L.Links c.args.world.now c.args.out.now c.args.links.now in
    let new = outside_over g.W.World g.K.Sink g.L.Links c.conference_under.new.world c.serve_conference-ending.new.out c.serve_conference-ending.new.links in
    let read = c.in-Ok.ensures.read in
    let conference = meaning_of c.in-Ok.conference in
    given_up_from (served_by c.args.serving conference g.L.Links.tells old.links new.links) g.W.World.tells g.K.Sink.tells g.L.Links.tells old new
    (mixed c.args.words.now) read.0 conference c.finish_with-2.result c.serve_conference-ending.result read.1 read.2
    c.finish_with-2.ensures.status (c.serve_conference-ending.ensures.ends read.0 read.2) c.serve_conference-ending.ensures.given_up
