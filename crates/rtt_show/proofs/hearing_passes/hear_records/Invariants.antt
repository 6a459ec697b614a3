use Rattle.std.proofs.Common.{ℕ, List, [], length}
use Rattle.terminal.specs.declared.settings.TerminalSettings.{TerminalSettings}
use Rattle.terminal.specs.Terminals.{counts_of, IsOpen, Listens}
use Rattle.rtpdump_io.specs.InMemory.{AreRecords}
use Rattle.rtpdump_io.proofs.Fronts.{Left, Front}
use Rattle.rtt_show.proofs.hearing_passes.hear_records.Given as goal

abbrev pub invariant-loop-moment : goal.invariant-loop-moment
invariant-loop-moment l = record {
  left : Left l.rest (counts_of l.terminal).packets;
  hears_on : IsOpen l.terminal;
  heard : (c : TerminalSettings) (sources : List ℕ) → Listens l.fn.terminal c sources [] → (all : List (ℕ × List ℕ)) → AreRecords l.fn.records all → Front (Listens l.terminal c sources) l.rest all;
}

abbrev pub decreases-loop-moment : goal.decreases-loop-moment
decreases-loop-moment l = length l.rest
