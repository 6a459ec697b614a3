-- What a sender of a configuration makes of a script, in the words of the definitions.
use Rattle.std.specs.Prelude.{◌≡◌, ℕ, ◌≤◌, false, Option, List, All}
use Rattle.file_spec.specs.Script.{ScriptLine}
use Rattle.stream_spec.specs.Typed.{Turned}
use Rattle.command_spec.specs.Scripts as scripts
use Rattle.command_spec.specs.Usual.{usual_payload_types}
use Rattle.command_spec.specs.declared.limits.TheConstants.{USUAL_INTERVAL}
use Rattle.file_spec.specs.declared.limits.TheConstants.{USUAL_GENERATIONS}
use Rattle.command_spec.specs.Scripts.{Sending, events_through}
use Rattle.packetizer.specs.declared.senders.SenderSettings.{SenderSettings}
use Rattle.packetizer.specs.SenderSettings.{stream_of}
use Rattle.packetizer.specs.SenderStanding.{has_more}

-- the stream of this SSRC as it is usually sent, from this sequence number and this timestamp on
abbrev pub usual_settings : ℕ → ℕ → ℕ → SenderSettings
usual_settings ssrc seq timestamp = record { ssrc = ssrc; seq = seq; timestamp = timestamp; payload_types = usual_payload_types; interval = USUAL_INTERVAL; generations = USUAL_GENERATIONS }

-- what sends
abbrev pub sending_of : SenderSettings → Sending
sending_of settings = record { stream = stream_of settings; interval = settings.interval; payload_types = settings.payload_types }

-- at t each line was typed, nothing waits, and nothing is to be repeated
pub record IsEnd (settings : SenderSettings) (lines : List ScriptLine) (t : ℕ) : Type 0 where
  pub all_typed : All (λ l. l.at ≤ t) lines
  pub all_sent : has_more settings (events_through lines t) ≡ false

abbrev pub full_below : SenderSettings → List ScriptLine → List ScriptLine → Option ℕ
full_below settings above lines = scripts.full_below (sending_of settings) above lines

abbrev pub full_line : SenderSettings → List ScriptLine → Option ℕ
full_line settings lines = scripts.full_line (sending_of settings) lines

abbrev pub records_of : SenderSettings → List Turned → List (ℕ × List ℕ)
records_of settings es = scripts.records_of (sending_of settings) es

abbrev pub records_sent : SenderSettings → List ScriptLine → ℕ → List (ℕ × List ℕ)
records_sent settings lines t = scripts.records_sent (sending_of settings) lines t

abbrev pub recording_sent : SenderSettings → List ScriptLine → ℕ → List ℕ
recording_sent settings lines t = scripts.recording_sent (sending_of settings) lines t

-- what is sent up to the first end
abbrev pub recording : SenderSettings → List ScriptLine → List ℕ
recording settings lines = scripts.recording (sending_of settings) lines

abbrev pub first_end : SenderSettings → List ScriptLine → ℕ
first_end settings lines = scripts.first_end (sending_of settings) lines
