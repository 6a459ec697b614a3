-- What the laws say of scripts, of what they send, and of the recordings of that.
use Rattle.std.specs.Prelude.{◌≡◌, ◌<◌, ◌≤◌, ◌^◌, ℕ, List, Some, None, Ok, map}
use Rattle.std.specs.List.{concat}
use Rattle.wire_spec.specs.Packets.{Arrival}
use Rattle.wire_spec.specs.Text.{text_of}
use Rattle.wire_spec.specs.Dump.{dump, usual_limit, sent_item, arrivals}
use Rattle.file_spec.specs.Script.{ScriptLine, script}
use Rattle.stream_spec.specs.Hearing.{heard}
use Rattle.stream_spec.specs.History.{History, Lawful, Come, placed, places}
use Rattle.stream_spec.specs.Own.{Own, Closed, own_packet}
use Rattle.stream_spec.specs.Typed.{primaries}
use Rattle.packetizer.specs.declared.senders.SenderSettings.{SenderSettings}
use Rattle.packetizer.specs.SenderSettings.{AreSettings}
use Rattle.packetizer.specs.SenderStanding.{history_sent}
use Rattle.command_spec.specs.Scripts.{AreLines, events_through, text_of_lines}
use Rattle.text_conversions.specs.Scripts.{IsEnd, full_line, first_end, records_sent, recording_sent}
use Rattle.text_conversions.specs.Recordings.{IsReadable}

-- the history of what is sent of the lines through the moment t
abbrev pub history_of : SenderSettings → List ScriptLine → ℕ → History
history_of settings lines t = history_sent settings (events_through lines t)

-- what arrives out of its recording
abbrev pub arrivals_of : SenderSettings → List ScriptLine → ℕ → List Arrival
arrivals_of settings lines t = arrivals (recording_sent settings lines t) settings.ssrc settings.payload_types

-- ---- scripts
abbrev pub AcceptedAreLines : Type 0
AcceptedAreLines = (octets : List ℕ) (lines : List ScriptLine) → script octets ≡ Ok lines → AreLines lines

abbrev pub EndsAgree : Type 0
EndsAgree = (settings : SenderSettings) (lines : List ScriptLine) (t u : ℕ) → IsEnd settings lines t
    → IsEnd settings lines u → recording_sent settings lines t ≡ recording_sent settings lines u

abbrev pub ScriptsEnd : Type 0
ScriptsEnd = (settings : SenderSettings) (lines : List ScriptLine) → AreSettings settings → AreLines lines
    → full_line settings lines ≡ None → IsEnd settings lines (first_end settings lines)

abbrev pub EndsComeEarly : Type 0
EndsComeEarly = (settings : SenderSettings) (lines : List ScriptLine) → AreSettings settings → AreLines lines
    → full_line settings lines ≡ None → first_end settings lines < 80000000

abbrev pub FirstIsFirst : Type 0
FirstIsFirst = (settings : SenderSettings) (lines : List ScriptLine) (t : ℕ) → t < 2 ^ 31
    → IsEnd settings lines t → first_end settings lines ≤ t

-- ---- the history
abbrev pub SentIsLawful : Type 0
SentIsLawful = (settings : SenderSettings) (lines : List ScriptLine) (t : ℕ) → AreSettings settings
    → AreLines lines → t < 2 ^ 31 → Lawful (history_of settings lines t)

abbrev pub SentIsOwn : Type 0
SentIsOwn = (settings : SenderSettings) (lines : List ScriptLine) (t : ℕ)
    → Own settings.generations (history_of settings lines t)

abbrev pub SentIsClosed : Type 0
SentIsClosed = (settings : SenderSettings) (lines : List ScriptLine) (t : ℕ) → AreSettings settings
    → AreLines lines → t < 2 ^ 31 → IsEnd settings lines t → Closed settings.generations (history_of settings lines t)

abbrev pub AllTextIsSent : Type 0
AllTextIsSent = (settings : SenderSettings) (lines : List ScriptLine) (t : ℕ) → AreLines lines
    → IsEnd settings lines t → primaries (history_of settings lines t) ≡ text_of_lines lines

-- ---- its recording
abbrev pub RecordsAreReadBack : Type 0
RecordsAreReadBack =
    (settings : SenderSettings) (lines : List ScriptLine) (t : ℕ) → IsReadable settings lines t
    → dump usual_limit (recording_sent settings lines t) ≡ record { items = map sent_item (records_sent settings lines t); fault = None }

abbrev pub PacketsAreReadBack : Type 0
PacketsAreReadBack =
    (settings : SenderSettings) (lines : List ScriptLine) (t : ℕ) → AreSettings settings
    → settings.ssrc < 2 ^ 32 → AreLines lines → t < 2 ^ 31
    → map (λ r. text_of r.1 (Some settings.ssrc) settings.payload_types) (records_sent settings lines t)
    ≡ map (λ x. Ok (own_packet (history_of settings lines t) x)) (placed (history_of settings lines t))

abbrev pub ArrivalsMayCome : Type 0
ArrivalsMayCome = (settings : SenderSettings) (lines : List ScriptLine) (t : ℕ) → IsReadable settings lines t
    → Come (history_of settings lines t) (arrivals_of settings lines t)

abbrev pub AllArriveInTime : Type 0
AllArriveInTime =
    (settings : SenderSettings) (lines : List ScriptLine) (t wait : ℕ) → IsReadable settings lines t
    → places wait (history_of settings lines t) (arrivals_of settings lines t) ≡ placed (history_of settings lines t)

abbrev pub AllTextIsHeard : Type 0
AllTextIsHeard =
    (settings : SenderSettings) (lines : List ScriptLine) (t wait : ℕ) → IsReadable settings lines t
    → IsEnd settings lines t
    → concat (heard wait (arrivals_of settings lines t) settings.ssrc) ≡ text_of_lines lines
