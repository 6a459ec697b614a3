use Rattle.std.proofs.Common.{◌≡◌, ◌++◌}
use Rattle.wire_spec.specs.Dump.{dump_opening}
use Rattle.sent_log.specs.Pens.{IsPenOf}
use Rattle.sent_log.specs.States.{IsLawful, OfTerminal, first_sent}
use Rattle.sent_log.proofs.Recorded.{written_of}
use Rattle.sent_log.proofs.memory.in_memory.Given as goal

abbrev pub invariant-loop-number : goal.invariant-loop-number
invariant-loop-number l = record {
  pen : OfTerminal l.log l.terminal (λ x. IsPenOf x l.number l.pen);
  octets : OfTerminal l.log l.terminal (λ x. IsLawful x → l.octets ≡ dump_opening ++ written_of x.settings (first_sent l.number x.sent));
}
