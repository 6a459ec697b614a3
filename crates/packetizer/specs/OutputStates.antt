-- What an output knows.
use Rattle.std.specs.Prelude.{ℕ, List}
use Rattle.packetizer.specs.declared.outputs.PacketizerSettings.{PacketizerSettings}
use Rattle.packetizer.specs.declared.speakers.Speaker.{Speaker}

-- its stream, the next sequence number, and its sources
pub record State : Type 0 where
  pub settings : PacketizerSettings
  pub seq : ℕ
  pub speakers : List Speaker
