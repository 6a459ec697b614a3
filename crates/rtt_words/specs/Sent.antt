-- What holds of a recording that `send` makes.
use Rattle.std.specs.Prelude.{◌≡◌, ◌<◌, ◌^◌, ℕ, Some, List, map, Ok}
use Rattle.wire_spec.specs.Text.{text_of}
use Rattle.file_spec.specs.Script.{ScriptLine}
use Rattle.file_spec.specs.Script.{script}
use Rattle.rtt_words.specs.Words.{SendWords}
use Rattle.stream_spec.specs.History.{History, Lawful, placed}
use Rattle.stream_spec.specs.Own.{Own, Closed, own_packet}
use Rattle.stream_spec.specs.Typed.{primaries}
use Rattle.command_spec.specs.Scripts.{history, recording, records_sent, first_end, text_of_lines}
use Rattle.rtt_words.specs.Tasks.{sending_of}

-- the history of what is sent of these lines
abbrev pub script_history : SendWords → List ScriptLine → History
script_history s lines = history (sending_of s) lines

-- the records of the recording
abbrev pub script_records : SendWords → List ScriptLine → List (ℕ × List ℕ)
script_records s lines = records_sent (sending_of s) lines (first_end (sending_of s) lines)

-- A recording of a script: its records are the own packets of a lawful history, in which each text is repeated twice,
-- and whose texts together are those of the script.
pub record IsSent (s : SendWords) (octets file : List ℕ) : Type 0 where
  pub lines : List ScriptLine
  pub read : script octets ≡ Ok lines
  pub file_is : file ≡ recording (sending_of s) lines
  pub lawful : Lawful (script_history s lines)
  pub own : Own 2 (script_history s lines)
  pub closed : Closed 2 (script_history s lines)
  pub whole : primaries (script_history s lines) ≡ text_of_lines lines
  pub packets : s.ssrc < 2 ^ 32 → map (λ r. text_of r.1 (Some s.ssrc) (sending_of s).payload_types) (script_records s lines)
      ≡ map (λ x. Ok (own_packet (script_history s lines) x)) (placed (script_history s lines))
