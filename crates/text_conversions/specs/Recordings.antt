-- The recording of what a script sends.
use Rattle.std.specs.Prelude.{ℕ, ◌<◌, ◌≤◌, ◌^◌, List, length, All}
use Rattle.wire_spec.specs.Dump.{usual_limit}
use Rattle.file_spec.specs.Script.{ScriptLine}
use Rattle.command_spec.specs.Scripts.{AreLines}
use Rattle.packetizer.specs.declared.senders.SenderSettings.{SenderSettings}
use Rattle.packetizer.specs.SenderSettings.{AreSettings}
use Rattle.text_conversions.specs.Scripts.{records_sent, recording_sent}
use Rattle.wire_spec.specs.declared.limits.TheConstants.{LAST_RECORD_MOMENT}

-- A recording that is read whole: of a script's lines, with at most 4194304 octets, and no packet after four hours.
pub record IsReadable (settings : SenderSettings) (lines : List ScriptLine) (t : ℕ) : Type 0 where
  pub settings_is : AreSettings settings
  pub ssrc : settings.ssrc < 2 ^ 32
  pub lines_are : AreLines lines
  pub until : t < 2 ^ 31
  pub moments : All (λ r. r.0 ≤ LAST_RECORD_MOMENT) (records_sent settings lines t)
  pub size : length (recording_sent settings lines t) ≤ usual_limit
