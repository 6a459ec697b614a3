use Rattle.std.proofs.Common.{◌≡◌, [], take}
use Rattle.std.specs.Prelude.{map}
use Rattle.packetizer.specs.OutputStanding.{speaker_of}
use Rattle.packetizer.proofs.outputs.Packetizer.new.Given as goal

abbrev pub invariant-loop-source : goal.invariant-loop-source
invariant-loop-source l = l.speakers.items ≡ map (speaker_of l.settings []) (take l.source-index l.sources)
