-- What an output is made for (RFC 3550, section 5.1: payload types have seven bits; at most three generations: profile).
use Rattle.std.specs.Prelude.{◌<◌, ◌≤◌, ◌^◌, ◌≢◌}
use Rattle.stream_spec.specs.Own.{Stream}
use Rattle.packetizer.specs.declared.outputs.PacketizerSettings.{PacketizerSettings}

-- the stream
abbrev pub stream_of : PacketizerSettings → Stream
stream_of settings = record { ssrc = settings.ssrc; first = settings.seq; base = settings.timestamp; generations = settings.generations }

pub record AreSettings (settings : PacketizerSettings) : Type 0 where
  pub t140 : settings.payload_types.t140 < 2 ^ 7
  pub red : settings.payload_types.red < 2 ^ 7
  pub differ : settings.payload_types.t140 ≢ settings.payload_types.red
  pub generations : settings.generations ≤ 3
