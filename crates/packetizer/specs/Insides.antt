-- What holds of each sender.
use Rattle.std.specs.Prelude.{◌≡◌, ◌<◌, ◌^◌, Some, length}
use Rattle.packetizer.specs.declared.senders.Last.{Last}
use Rattle.packetizer.specs.declared.senders.Sender.TheInside.{Inside}
use Rattle.packetizer.specs.SenderSettings.{AreSettings}

-- its output has one source, and moments and media times lie below 2^31
pub record SenderIsSound (s : Inside) : Type 0 where
  pub settings : AreSettings s.settings
  pub one : length s.output.speakers ≡ 1
  pub last : (l : Last) → s.last ≡ Some l → (l.at < 2 ^ 31) × (l.media < 2 ^ 31)
