use Rattle.std.proofs.Common.{◌≡◌, ◌<◌, ◌++◌, ℕ, List, length, ap, subst, sym, ◌∙◌}
use Rattle.std.specs.Prelude.{OnOk, OnErr}
use Rattle.rtt_io.specs.Fronts.{TakesFront}
use Rattle.sent_log.specs.States.{State}
use Rattle.sent_log.specs.Files.{recording_at}
use Rattle.sent_log.proofs.Recorded.{recording_is, terminal_there}
use Rattle.sent_log.proofs.files.SentFiles.write_to.Goals as goal

pub returns-clause-appended : goal.returns-clause-appended
returns-clause-appended g c = λ told.
    let took = g.K.Sink.took in
    let log = c.self.inside.log in
    let x = terminal_there log c.args.terminal (subst (λ (s : State). c.args.terminal < length s) (sym c.self.view_is) c.requires) in
    subst (λ (xs : List ℕ). OnOk c.write_recording.result (took c.write_recording.new.sink ≡ took c.args.sink.now ++ xs))
    (sym (recording_is log c.args.terminal x.0 x.1) ∙ ap (λ (s : State). recording_at s c.args.terminal) c.self.view_is)
    (c.write_recording.ensures.appended told x.0 x.1)

pub returns-clause-prefix : goal.returns-clause-prefix
returns-clause-prefix g c = λ told.
    let took = g.K.Sink.took in
    let log = c.self.inside.log in
    let x = terminal_there log c.args.terminal (subst (λ (s : State). c.args.terminal < length s) (sym c.self.view_is) c.requires) in
    subst (λ (xs : List ℕ). OnErr c.write_recording.result (TakesFront (took c.args.sink.now) (took c.write_recording.new.sink) xs))
    (sym (recording_is log c.args.terminal x.0 x.1) ∙ ap (λ (s : State). recording_at s c.args.terminal) c.self.view_is)
    (c.write_recording.ensures.prefix told x.0 x.1)

pub returns-clause-partly : goal.returns-clause-partly
returns-clause-partly g c = λ told.
    let log = c.self.inside.log in
    let x = terminal_there log c.args.terminal (subst (λ (s : State). c.args.terminal < length s) (sym c.self.view_is) c.requires) in
    subst (λ (xs : List ℕ). OnErr c.write_recording.result (TakesFront (g.K.Sink.took c.args.sink.now) (g.K.Sink.stored c.write_recording.new.sink) xs))
    (sym (recording_is log c.args.terminal x.0 x.1) ∙ ap (λ (s : State). recording_at s c.args.terminal) c.self.view_is)
    (c.write_recording.ensures.partly told x.0 x.1)
