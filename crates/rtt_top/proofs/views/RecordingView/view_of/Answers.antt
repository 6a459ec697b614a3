use Rattle.std.proofs.Common.{◌≡◌, List, ℕ, ap, sym, subst, ◌∙◌}
use Rattle.std.proofs.lemmas.Result.{IfErr-weaker, IfOk-weaker}
use Rattle.std.specs.Prelude.{IfErr, IfOk}
use Rattle.rtpdump_io.specs.Faults.{FaultOf}
use Rattle.rtpdump_io.specs.Reading.{to_come}
use Rattle.wire_spec.specs.Dump.{Recording, dump, usual_limit}
use Rattle.command_spec.specs.Listing.{list_view}
use Rattle.command_spec.specs.Reading.{read_view}
use Rattle.command_spec.specs.Showing.{if_no_recording}
use Rattle.command_spec.specs.Transcripts.{transcript_view}
use Rattle.report_spec.specs.Showing.{recording_view, show_view}
use Rattle.report_spec.specs.Times.{timed_view, times_view}
use Rattle.recording_views.specs.Writing.{IsTranscript}
use Rattle.rtt_show.specs.Gathers.{RecordingIsRefused}
use Rattle.rtt_top.specs.declared.views.RecordingView.{RecordingView}
use Rattle.rtt_top.specs.RecordingViews.{IsRefusal, IsViewFrom, IsViewOf, refused_by, view_by}
use Rattle.rtt_top.proofs.Refusals.{as_refusal, printed_is, shown_refusal, timed_is}
use Rattle.rtt_top.proofs.views.RecordingView.view_of.Goals as goal

pub returns-in-Lines-clause-view : goal.returns-in-Lines-clause-view
returns-in-Lines-clause-view g c = λ told.
    let come = to_come g.S.Source.left c.args.reader.now in
    let payload_types = c.in-Lines.payload_types in
    let Listed : List ℕ → Type 0 = λ lines. lines ≡ list_view payload_types come.items in
    subst (λ (it : RecordingView). IfOk c.list_records.result (IsViewFrom (view_by it) c.args.start come)) (sym c.in-Lines.is)
    (IfOk-weaker c.list_records.result Listed (IsViewFrom (λ octets. list_view payload_types (dump usual_limit octets).items) c.args.start come)
    (λ lines is octets to at. is ∙ ap (λ (r : Recording). list_view payload_types r.items) to) (c.list_records.ensures.listed told))

pub returns-in-Streams-clause-view : goal.returns-in-Streams-clause-view
returns-in-Streams-clause-view g c = λ told.
    let come = to_come g.S.Source.left c.args.reader.now in
    let payload_types = c.in-Streams.payload_types in
    let start = c.args.start in
    let Printed : List ℕ → Type 0 = λ printed. printed ≡ recording_view payload_types start come in
    subst (λ (it : RecordingView). IfOk c.show_recording.result (IsViewFrom (view_by it) start come)) (sym c.in-Streams.is)
    (IfOk-weaker c.show_recording.result Printed (IsViewFrom (show_view payload_types) start come)
    (λ printed is octets to at. printed_is payload_types start come octets printed is at to) (c.show_recording.ensures.shown told))

pub returns-in-Times-clause-view : goal.returns-in-Times-clause-view
returns-in-Times-clause-view g c = λ told.
    let come = to_come g.S.Source.left c.args.reader.now in
    let payload_types = c.in-Times.payload_types in
    let start = c.args.start in
    let Printed : List ℕ → Type 0 = λ printed. printed ≡ timed_view payload_types start come in
    subst (λ (it : RecordingView). IfOk c.times_recording.result (IsViewFrom (view_by it) start come)) (sym c.in-Times.is)
    (IfOk-weaker c.times_recording.result Printed (IsViewFrom (times_view payload_types) start come)
    (λ printed is octets to at. timed_is payload_types start come octets printed is at to) (c.times_recording.ensures.told told))

pub returns-in-Text-clause-view : goal.returns-in-Text-clause-view
returns-in-Text-clause-view g c = λ told.
    let come = to_come g.S.Source.left c.args.reader.now in
    let view = read_view c.in-Text.request in
    subst (λ (it : RecordingView). IfOk c.text_heard.result (IsViewFrom (view_by it) c.args.start come)) (sym c.in-Text.is)
    (IfOk-weaker c.text_heard.result (IsViewOf view come) (IsViewFrom view c.args.start come) (λ printed is octets to at. is octets to) (c.text_heard.ensures.view told))

pub returns-in-Transcript-clause-view : goal.returns-in-Transcript-clause-view
returns-in-Transcript-clause-view g c = λ told.
    let come = to_come g.S.Source.left c.args.reader.now in
    let request = c.in-Transcript.request in
    subst (λ (it : RecordingView). IfOk c.script_recording.result (IsViewFrom (view_by it) c.args.start come)) (sym c.in-Transcript.is)
    (IfOk-weaker c.script_recording.result (IsTranscript request come) (IsViewFrom (transcript_view request) c.args.start come) (λ printed is octets to at. is octets to) (c.script_recording.ensures.printed told))

pub returns-in-Streams-clause-refused : goal.returns-in-Streams-clause-refused
returns-in-Streams-clause-refused g c = λ told.
    let come = to_come g.S.Source.left c.args.reader.now in
    subst (λ (it : RecordingView). IfErr c.show_recording.result (IsRefusal (refused_by it come.fault))) (sym c.in-Streams.is)
    (IfErr-weaker c.show_recording.result (RecordingIsRefused come) (IsRefusal (if_no_recording come.fault)) (shown_refusal come) (c.show_recording.ensures.refused told))

pub returns-in-Lines-clause-refused : goal.returns-in-Lines-clause-refused
returns-in-Lines-clause-refused g c = λ told.
    let come = to_come g.S.Source.left c.args.reader.now in
    subst (λ (it : RecordingView). IfErr c.list_records.result (IsRefusal (refused_by it come.fault))) (sym c.in-Lines.is)
    (IfErr-weaker c.list_records.result (FaultOf come) (IsRefusal come.fault) (as_refusal come) (c.list_records.ensures.reads.fault told))

pub returns-in-Text-clause-refused : goal.returns-in-Text-clause-refused
returns-in-Text-clause-refused g c = λ told.
    let come = to_come g.S.Source.left c.args.reader.now in
    subst (λ (it : RecordingView). IfErr c.text_heard.result (IsRefusal (refused_by it come.fault))) (sym c.in-Text.is)
    (IfErr-weaker c.text_heard.result (FaultOf come) (IsRefusal come.fault) (as_refusal come) (c.text_heard.ensures.refused told))

pub returns-in-Transcript-clause-refused : goal.returns-in-Transcript-clause-refused
returns-in-Transcript-clause-refused g c = λ told.
    let come = to_come g.S.Source.left c.args.reader.now in
    subst (λ (it : RecordingView). IfErr c.script_recording.result (IsRefusal (refused_by it come.fault))) (sym c.in-Transcript.is)
    (IfErr-weaker c.script_recording.result (FaultOf come) (IsRefusal come.fault) (as_refusal come) (c.script_recording.ensures.reads.fault told))

pub returns-in-Times-clause-refused : goal.returns-in-Times-clause-refused
returns-in-Times-clause-refused g c = λ told.
    let come = to_come g.S.Source.left c.args.reader.now in
    subst (λ (it : RecordingView). IfErr c.times_recording.result (IsRefusal (refused_by it come.fault))) (sym c.in-Times.is)
    (IfErr-weaker c.times_recording.result (RecordingIsRefused come) (IsRefusal (if_no_recording come.fault)) (shown_refusal come) (c.times_recording.ensures.refused told))
