use Rattle.std.proofs.Common.{◌≡◌, ◌++◌, ℕ, List, sym, subst}
use Rattle.std.specs.Prelude.{OnOk}
use Rattle.sent_log.proofs.Recorded.{recording_is, terminal_there}
use Rattle.sent_log.proofs.files.write_alone.Goals as goal

pub write_recording-requires-clause-pen : goal.write_recording-requires-clause-pen
write_recording-requires-clause-pen g c = λ x at. record { each = (c.in-Ok.ensures x at).each }

pub returns : goal.returns
returns g c = record {
  appended = λ told.
      let took = g.K.Sink.took in
      let log = c.args.log.now in
      let x = terminal_there log c.args.terminal c.requires.terminal in
      subst (λ (xs : List ℕ). OnOk c.write_recording.result (took c.write_recording.new.sink ≡ took c.args.sink.now ++ xs))
      (sym (recording_is log c.args.terminal x.0 x.1))
      (c.write_recording.ensures.appended told x.0 x.1);
}
