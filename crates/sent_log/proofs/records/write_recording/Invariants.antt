use Rattle.std.proofs.Common.{◌≡◌, ◌++◌}
use Rattle.wire_spec.specs.Dump.{dump_opening}
use Rattle.sent_log.specs.Pens.{IsPenOf}
use Rattle.sent_log.specs.States.{OfTerminal, first_sent}
use Rattle.sent_log.specs.FileWriting.{HoldsRest}
use Rattle.sent_log.proofs.Recorded.{written_of}
use Rattle.sent_log.proofs.records.write_recording.Given as goal

abbrev pub invariant-loop-number : goal.invariant-loop-number
invariant-loop-number g l = record {
  pen : OfTerminal l.log l.terminal (λ x. IsPenOf x l.number l.pen);
  calm : g.K.Sink.faults l.sink ≡ g.K.Sink.faults l.fn.sink;
  named : g.K.Sink.name l.sink ≡ g.K.Sink.name l.fn.sink;
  held : g.K.Sink.tells → OfTerminal l.log l.terminal (λ x. HoldsRest (g.K.Sink.took l.fn.sink) (g.K.Sink.took l.sink) l.page (dump_opening ++ written_of x.settings (first_sent l.number x.sent)));
}
