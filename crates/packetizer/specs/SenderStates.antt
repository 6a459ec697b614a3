-- What a sender knows.
use Rattle.std.specs.Prelude.{ℕ, Option, List}
use Rattle.packetizer.specs.OutputStates as outputs
use Rattle.packetizer.specs.declared.senders.SenderSettings.{SenderSettings}
use Rattle.packetizer.specs.declared.senders.Last.{Last}

-- the text that waits, the output of its one source, and the last packet, if there was one
pub record State : Type 0 where
  pub settings : SenderSettings
  pub waits : List ℕ
  pub output : outputs.State
  pub last : Option Last
