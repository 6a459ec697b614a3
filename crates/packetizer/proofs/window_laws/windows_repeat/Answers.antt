use Rattle.packetizer.proofs.Repeating.{repeats_are}
use Rattle.packetizer.proofs.window_laws.windows_repeat.Goals as goal

pub returns : goal.returns
returns c = repeats_are
