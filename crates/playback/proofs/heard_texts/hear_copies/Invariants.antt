use Rattle.std.proofs.Common.{ℕ, ◌≤◌, List, [], take}
use Rattle.std.specs.Prelude.{flat_map}
use Rattle.mixer_spec.specs.Arrives.{item_of}
use Rattle.playback.specs.Arriving.{copies_of}
use Rattle.terminal.specs.declared.settings.TerminalSettings.{TerminalSettings}
use Rattle.terminal.specs.Terminals.{counts_of, IsOpen, Listens}
use Rattle.playback.specs.Written.{AreRecords}
use Rattle.playback.specs.Finds.{Finds}
use Rattle.playback.proofs.heard_texts.hear_copies.Given as goal

abbrev pub invariant-loop-copy : goal.invariant-loop-copy
invariant-loop-copy l = record {
  few : (counts_of l.terminal).packets ≤ l.copy-index;
  hears_on : IsOpen l.terminal;
  heard : (c : TerminalSettings) (sources : List ℕ) (all : List (ℕ × List ℕ)) → AreRecords l.records all → Finds l.found l.records all → Listens l.fn.terminal c sources []
      → Listens l.terminal c sources (flat_map (item_of all) (copies_of (take l.copy-index l.copies)));
}
