-- What `send` makes of a script (profile): at each millisecond the texts of its lines, in the file's order, and then an
-- ask; the recording of what the sender sends up to the first end. Lists of events and entries are newest first.
use Rattle.std.specs.Prelude.{ℕ, zero, suc, ◌+◌, ◌≤◌, ◌^◌, ◌==◌, ◌&&◌, Bool, true, false, not, nat_lt, nat_le, Option, None, Some, List, [], ◌∷◌, ◌++◌, length, All, IsUtf8, if◌then◌else◌}
use Rattle.std.specs.List.{flat_map, list_all}
use Rattle.rtt_base.specs.declared.text_packets.PayloadTypes.{PayloadTypes}
use Rattle.wire_spec.specs.Dump.{dump_written}
use Rattle.file_spec.specs.Script.{ScriptLine}
use Rattle.file_spec.specs.declared.limits.TheConstants.{LAST_MOMENT}
use Rattle.stream_spec.specs.History.{History}
use Rattle.stream_spec.specs.Own.{Stream, packet_after}
use Rattle.stream_spec.specs.Typed.{Event, Text, Ask, Turned, sents, entries, waiting, has_more, history_typed}
use Rattle.wire_spec.specs.SentPackets.{packet_written}
use Rattle.stream_spec.specs.declared.limits.TheConstants.{MOST_WAITING_OCTETS}
use Rattle.command_spec.specs.Usual.{usual_payload_types}
use Rattle.command_spec.specs.declared.limits.TheConstants.{USUAL_INTERVAL}

-- what sends a script: a stream, the least time between two packets in milliseconds, and the payload types
pub record Sending : Type 0 where
  pub stream : Stream
  pub interval : ℕ
  pub payload_types : PayloadTypes

-- two generations, at most one packet in the usual time, and the usual payload types, with this SSRC, first sequence number and
-- timestamp at time 0
abbrev pub usual_sending : ℕ → ℕ → ℕ → Sending
usual_sending ssrc seq timestamp =
    record { stream = record { ssrc = ssrc; first = seq; base = timestamp; generations = 2 }; interval = USUAL_INTERVAL; payload_types = usual_payload_types }

-- ---- what a script asks of a sender

-- no line is typed before one above it
abbrev pub InOrder : List ScriptLine → Type 0
InOrder [] = Unit {0}
InOrder (line ∷ more) = All (λ l. line.at ≤ l.at) more × InOrder more

-- the lines of a script: in order, in the first four hours, and their texts are UTF-8
pub record AreLines (lines : List ScriptLine) : Type 0 where
  pub ordered : InOrder lines
  pub early : All (λ l. l.at ≤ LAST_MOMENT) lines
  pub texts : All (λ l. IsUtf8 l.text) lines

-- the texts of the lines, one behind the other
abbrev pub text_of_lines : List ScriptLine → List ℕ
text_of_lines lines = flat_map (λ l. l.text) lines

-- the texts of the lines of millisecond t, typed after these events
abbrev pub typed_at : ℕ → List ScriptLine → List Event → List Event
typed_at t [] past = past
typed_at t (line ∷ more) past = typed_at t more (if line.at == t then Text line.text ∷ past else past)

-- the events of all milliseconds before t
unfoldable pub events_before : List ScriptLine → ℕ → List Event
events_before lines zero = []
events_before lines (suc t) = Ask t ∷ typed_at t lines (events_before lines t)

-- the same, and the texts of the lines of millisecond t
abbrev pub events_until : List ScriptLine → ℕ → List Event
events_until lines t = typed_at t lines (events_before lines t)

-- the events of the milliseconds 0 to t
abbrev pub events_through : List ScriptLine → ℕ → List Event
events_through lines t = Ask t ∷ events_until lines t

-- ---- which line is refused

-- the first of these lines, which stand below the others, whose text makes more than 16384 octets of what waits
abbrev pub full_below : Sending → List ScriptLine → List ScriptLine → Option ℕ
full_below s above [] = None
full_below s above (line ∷ more) =
    if nat_lt MOST_WAITING_OCTETS (length (waiting s.stream s.interval (events_until above line.at)) + length line.text)
    then Some line.line
    else full_below s (above ++ line ∷ []) more

-- the number of the first line whose text makes more than 16384 octets of what waits when its turn comes
abbrev pub full_line : Sending → List ScriptLine → Option ℕ
full_line s lines = full_below s [] lines

-- ---- the end

-- at t each line was typed, nothing waits, and nothing is to be repeated
abbrev pub is_end : Sending → List ScriptLine → ℕ → Bool
is_end s lines t = list_all (λ l. nat_le l.at t) lines && not (has_more s.stream s.interval (events_through lines t))

-- t where the test passed, or else what comes later
abbrev pub or_later : Bool → ℕ → (Unit {0} → ℕ) → ℕ
or_later true t later = t
or_later false t later = later tt

-- the first of so many moments from t on that passes the test, and t behind them where none does
unfoldable pub first_from : (ℕ → Bool) → ℕ → ℕ → ℕ
first_from is_found zero t = t
first_from is_found (suc n) t = or_later (is_found t) t (λ u. first_from is_found n (suc t))

-- the first end of a script
unfoldable pub first_end : Sending → List ScriptLine → ℕ
first_end s lines = first_from (is_end s lines) (2 ^ 31) 0

-- ---- the recording

-- the packets of entries with the moments of their asks, oldest first
abbrev pub records_of : Sending → List Turned → List (ℕ × List ℕ)
records_of s [] = []
records_of s (e ∷ es) =
    records_of s es ++ (e.at, packet_written s.payload_types (packet_after s.stream (sents es) e.sent)) ∷ []

-- what was sent up to t
abbrev pub records_sent : Sending → List ScriptLine → ℕ → List (ℕ × List ℕ)
records_sent s lines t = records_of s (entries s.stream s.interval (events_through lines t))

-- its one written form
abbrev pub recording_sent : Sending → List ScriptLine → ℕ → List ℕ
recording_sent s lines t = dump_written (records_sent s lines t)

-- what is sent up to the first end
abbrev pub recording : Sending → List ScriptLine → List ℕ
recording s lines = recording_sent s lines (first_end s lines)

-- the history of what is sent up to the first end
abbrev pub history : Sending → List ScriptLine → History
history s lines = history_typed s.stream s.interval (events_through lines (first_end s lines))
