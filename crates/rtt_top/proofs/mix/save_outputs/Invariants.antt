use Rattle.std.proofs.Common.{◌≡◌, ℕ, ◌≤◌, List, take}
use Rattle.command_spec.specs.Outcomes.{AllStored}
use Rattle.sent_log.specs.Files.{recordings_of}
use Rattle.rtt_mix.specs.Mixes.{outputs_of}
use Rattle.rtt_top.specs.Parts.{HaveTaken}
use Rattle.rtt_top.proofs.mix.save_outputs.Given as goal

abbrev pub invariant-loop-number : goal.invariant-loop-number
invariant-loop-number g l = record {
  same : l.files ≡ l.fn.files;
  stored : g.W.World.tells → AllStored (take l.number (outputs_of l.fn.legs (recordings_of l.fn.files))) (g.W.World.contents l.fn.world) (g.W.World.contents l.world);
  calls : (n : List ℕ) → g.W.World.own_faults l.fn.world n ≤ g.W.World.own_faults l.world n;
  parts : g.W.World.tells → HaveTaken g.W.Part.Sink.took l.fn.files l.parts.items;
  objects : (n : List ℕ) → g.W.World.object_faults l.fn.world n ≤ g.W.World.object_faults l.world n;
}
