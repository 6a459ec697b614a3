use Rattle.std.proofs.Common.{◌≡◌, ◌≤◌, ◌++◌}
use Rattle.std.specs.List.{concat}
use Rattle.rtt_top.proofs.Telling.{told_pieces}
use Rattle.rtt_top.proofs.name_texts.write_characters.Given as goal

abbrev pub invariant-loop-c : goal.invariant-loop-c
invariant-loop-c g l = record {
  never_falls : g.E.Sink.faults l.fn.err ≤ g.E.Sink.faults l.err;
  written : g.E.Sink.tells → g.E.Sink.took l.err ≡ g.E.Sink.took l.fn.err ++ concat (told_pieces l.yielded);
}
