-- What a sender is made for (RFC 4103, sections 4 and 5: the interval of 300 ms; RFC 3550, section 5.1: the payload type).
use Rattle.std.specs.Prelude.{◌<◌, ◌≤◌, ◌^◌, ◌≢◌}
use Rattle.stream_spec.specs.Own.{Stream}
use Rattle.packetizer.specs.declared.outputs.PacketizerSettings.{PacketizerSettings}
use Rattle.packetizer.specs.declared.senders.SenderSettings.{SenderSettings}

-- the stream
abbrev pub stream_of : SenderSettings → Stream
stream_of settings = record { ssrc = settings.ssrc; first = settings.seq; base = settings.timestamp; generations = settings.generations }

-- the settings of its output
abbrev pub output_of : SenderSettings → PacketizerSettings
output_of settings = record { ssrc = settings.ssrc; seq = settings.seq; timestamp = settings.timestamp; payload_types = settings.payload_types; generations = settings.generations }

-- the interval is 100 to 1000 ms, there are at most three generations, and the payload types fit in seven bits and differ
pub record AreSettings (settings : SenderSettings) : Type 0 where
  pub least : 100 ≤ settings.interval
  pub most : settings.interval ≤ 1000
  pub t140 : settings.payload_types.t140 < 2 ^ 7
  pub red : settings.payload_types.red < 2 ^ 7
  pub generations : settings.generations ≤ 3
  pub differ : settings.payload_types.t140 ≢ settings.payload_types.red
