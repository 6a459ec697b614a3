-- What an output stands for: what was sent, and of each source what is to be repeated.
use Rattle.std.specs.Prelude.{◌≡◌, ℕ, ◌+◌, ◌%◌, List, length, map, slice_index}
use Rattle.stream_spec.specs.Own.{Sent, sent_of}
use Rattle.packetizer.specs.declared.outputs.PacketizerSettings.{PacketizerSettings}
use Rattle.packetizer.specs.declared.speakers.Speaker.{Speaker}
use Rattle.packetizer.specs.OutputSettings.{stream_of}
use Rattle.packetizer.specs.Speakers.{AreDistinct, EachIsNext, speaker_at}
use Rattle.packetizer.specs.OutputStates.{State}

abbrev pub source_at : List ℕ → ℕ → ℕ
source_at sources source = slice_index sources source

-- a source after what was sent of all
abbrev pub speaker_of : PacketizerSettings → List Sent → ℕ → Speaker
speaker_of settings past source = speaker_at settings.generations settings.timestamp source (sent_of source past)

-- An output to these sources has sent this, newest first.
pub record PacketizerStandsFor (settings : PacketizerSettings) (sources : List ℕ) (s : State) (past : List Sent) : Type 0 where
  pub sent : EachIsNext (stream_of settings) past
  pub distinct : AreDistinct sources
  pub settings_is : s.settings ≡ settings
  pub seq : s.seq ≡ (settings.seq + length past) % 65536
  pub speakers : s.speakers ≡ map (speaker_of settings past) sources
