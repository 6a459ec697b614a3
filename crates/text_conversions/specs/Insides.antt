-- What a recorder stands for.
use Rattle.std.specs.Prelude.{◌≡◌, ℕ, suc, ◌≤◌, List, All, length}
use Rattle.wire_spec.specs.Dump.{dump_written}
use Rattle.file_spec.specs.Script.{ScriptLine}
use Rattle.stream_spec.specs.Typed.{Event}
use Rattle.packetizer.specs.declared.senders.SenderSettings.{SenderSettings}
use Rattle.packetizer.specs.SenderSettings.{AreSettings}
use Rattle.packetizer.specs.SenderStates.{State}
use Rattle.packetizer.specs.SenderStanding.{SenderStandsFor, sent_by, waits_for}
use Rattle.text_conversions.specs.declared.recorders.Recorder.{Recorder}
use Rattle.command_spec.specs.Scripts.{events_until, events_through}
use Rattle.text_conversions.specs.Scripts.{records_of}
use Rattle.stream_spec.specs.declared.limits.TheConstants.{MOST_WAITING_OCTETS}

-- The sender stands for these events, and the octets are the recording of what it sent.
pub record Records (settings : SenderSettings) (s : State) (octets : List ℕ) (past : List Event) : Type 0 where
  pub settings_is : AreSettings settings
  pub sender : SenderStandsFor settings s past
  pub recorded : octets ≡ dump_written (records_of settings (sent_by settings past))
  pub room : length (waits_for settings past) ≤ MOST_WAITING_OCTETS

-- These lines were typed, none after the present millisecond, and it was asked at all milliseconds before.
pub record IsAt (settings : SenderSettings) (lines : List ScriptLine) (r : Recorder) : Type 0 where
  pub records : Records settings r.sender r.octets (events_until lines r.now)
  pub typed : All (λ l. l.at ≤ r.now) lines

-- These lines were typed, and it was just asked at the millisecond before the present one.
pub record IsAsked (settings : SenderSettings) (lines : List ScriptLine) (r : Recorder) : Type 0 where
  pub last : ℕ
  pub now : r.now ≡ suc last
  pub records : Records settings r.sender r.octets (events_through lines last)
  pub typed : All (λ l. l.at ≤ last) lines

-- the lines that a recorder has typed
pub record Known (r : Recorder) : Type 0 where
  pub settings : SenderSettings
  pub lines : List ScriptLine
  pub is_at : IsAt settings lines r
