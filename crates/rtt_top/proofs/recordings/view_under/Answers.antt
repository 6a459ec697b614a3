use Rattle.std.proofs.Common.{◌≡◌, ℕ, Option, None, [], ap, sym, subst, ◌∙◌}
use Rattle.std.specs.Prelude.{OnOk, IfOk}
use Rattle.rtt_io.specs.Counts.{Rose}
use Rattle.rtpdump_io.specs.Reading.{to_come, source_of}
use Rattle.rtpdump_io.specs.Faults.{IsSourceFault}
use Rattle.wire_spec.specs.Dump.{Recording, dump, usual_limit}
use Rattle.command_spec.specs.Work.{Makes, Work}
use Rattle.command_spec.specs.Outcomes.{Done, outcome}
use Rattle.report_spec.specs.Times.{start_of}
use Rattle.rtt_show.specs.Heads.{left_of}
use Rattle.rtt_top.specs.Faults.{IsTrueOf}
use Rattle.rtt_top.specs.Outside.{RoseAt}
use Rattle.rtt_top.specs.Worlds.{OpenFailedIn}
use Rattle.rtt_top.proofs.Sources.{source_failed, of_recording, same_source}
use Rattle.rtt_top.proofs.Working.{stops_unless, views_unless}
use Rattle.rtt_top.specs.RecordingViews.{command_of, refused_by, view_by}
use Rattle.rtt_top.proofs.Refusals.{prints_view}
use Rattle.rtt_top.proofs.recordings.view_under.Goals as goal

pub returns-in-Err-clause-stops : goal.returns-in-Err-clause-stops
returns-in-Err-clause-stops g c =
    let before = g.W.World.object_faults c.args.world.now in
    let after = g.W.World.object_faults c.done_src-2.new.self in
    let file = c.args.name.now in
    let it = c.args.view in
    let prints = prints_view it file in
    let refuses = refused_by it in
    let fault = c.fault_of_recording.result in
    let opened = c.open-opened.result.0 in
    let now = source_of c.view_of-made.new.reader in
    let counts = c.open-opened.ensures.counts in
    let calm : g.W.Src.Source.faults opened.source ≡ g.W.Src.Source.faults c.in-Ok.source =
    subst (λ r. OnOk r (g.W.Src.Source.faults opened.source ≡ g.W.Src.Source.faults c.in-Ok.source)) c.in-Ok-looked.is counts.2 in
    let same = same_source (source_of c.new-reader.result) opened c.new-reader.ensures.source in
    let failed : IsSourceFault c.in-Err.fault → RoseAt before after file = λ s. source_failed g.W.Src.Source.name g.W.Src.Source.faults before (g.W.World.object_faults c.open_source.new.self) after file
    opened.source now.source c.into_source-3.result
    (counts.3 ∙ c.in-Ok.ensures.named) (calm ∙ c.in-Ok.ensures.fresh)
    (c.in-Err.ensures.same_name ∙ ap g.W.Src.Source.name same)
    (c.into_source-3.ensures ∙ same_source c.into_source-2.result now c.into_source-2.ensures)
    c.in-Ok.ensures.same_objects c.done_src-2.ensures.added
    (subst (λ (k : ℕ). Rose k (g.W.Src.Source.faults now.source)) (ap g.W.Src.Source.faults same) (c.in-Err.ensures.failed s)) in
    stops_unless g.W.World.tells (g.W.World.contents c.args.world.now) (command_of it file) file
    (λ octets. refuses (dump usual_limit octets).fault) (λ octets. Makes (view_by it octets) [])
    (OpenFailedIn g.W.World c.args.world.now c.done_src-2.new.self file) (RoseAt before after file) fault
    (ap (λ (w : Work). w.steps) prints.does) prints.recording
    (of_recording (IsSourceFault c.in-Err.fault) (RoseAt before after file) failed fault c.fault_of_recording.ensures.of_recording)
    (λ told.
    let come = to_come (left_of g.W.Src.Source.left) c.new-reader.result in
    let octets = g.W.Src.Source.left c.in-Ok.source in
    let whole : left_of g.W.Src.Source.left opened ≡ octets =
    subst (λ r. OnOk r (left_of g.W.Src.Source.left opened ≡ octets)) c.in-Ok-looked.is (c.open-opened.ensures.left (c.in-Ok.ensures.told told)) in
    let P : Recording → Type 0 = λ q. IsTrueOf (refuses q.fault) fault in
    let refused : Recording = record { items = []; fault = refuses come.fault } in (
      octets,
      c.in-Ok.ensures.holds told,
      subst P (c.new-reader.ensures.to_come ∙ ap (dump usual_limit) whole)
          (c.fault_of_recording.ensures.refused refused (c.in-Err.ensures.refused (c.in-Ok.ensures.told told))),
    ))

pub returns-in-Ok-made-clause-view : goal.returns-in-Ok-made-clause-view
returns-in-Ok-made-clause-view g c = λ told.
    let held = g.W.World.contents c.args.world.now in
    let file = c.args.name.now in
    let it = c.args.view in
    let refuses = refused_by it in
    let tells = c.in-Ok.ensures.told told in
    let octets = g.W.Src.Source.left c.in-Ok.source in
    let opened = c.open-opened.result.0 in
    let whole : left_of g.W.Src.Source.left opened ≡ octets =
    subst (λ r. OnOk r (left_of g.W.Src.Source.left opened ≡ octets)) c.in-Ok-looked.is (c.open-opened.ensures.left tells) in
    let start : c.in-Ok-looked.start ≡ start_of octets =
    subst (λ r. IfOk r (λ (s : Option ℕ). s ≡ start_of octets)) c.in-Ok-looked.is (c.open-opened.ensures.start tells) in
    let come = c.new-reader.ensures.to_come ∙ ap (dump usual_limit) whole in
    let P : Recording → Type 0 = λ q. refuses q.fault ≡ None in
    ap (λ (w : Work). outcome held w.steps) (prints_view it file).does
    ∙ views_unless held file (λ octets. refuses (dump usual_limit octets).fault) (view_by it) octets (c.in-Ok.ensures.holds told)
    (subst P come (c.in-Ok-made.ensures.whole tells))
    ∙ ap (λ v. Done v []) (sym (c.in-Ok-made.ensures.view tells octets come start))
