-- What is told of each script that a sender stands for.
use Rattle.std.specs.Prelude.{◌≡◌, ℕ, ◌+◌, ◌≤◌, Bool, true, if◌then◌else◌, Option, None, Some, List, ◌∷◌, length}
use Rattle.std.specs.Option.{option_map}
use Rattle.stream_spec.specs.declared.limits.TheConstants.{MOST_WAITING_OCTETS}
use Rattle.stream_spec.specs.Own.{packet_after}
use Rattle.stream_spec.specs.Typed.{Event, last_ask, sents, entry_at, due_at, packet_at}
use Rattle.wire_spec.specs.SentPackets.{packet_written}
use Rattle.packetizer.specs.declared.senders.SenderSettings.{SenderSettings}
use Rattle.packetizer.specs.SenderSettings.{stream_of}
use Rattle.packetizer.specs.SenderStates.{State}
use Rattle.packetizer.specs.SenderStanding.{SenderStandsFor, sent_by, waits_for}

-- this holds of each script that the sender stands for
abbrev pub OfScripts : State → (SenderSettings → List Event → Type 0) → Type 0
OfScripts s P = (settings : SenderSettings) (past : List Event) → SenderStandsFor settings s past → P settings past

-- each of them goes on with this event
abbrev pub GoesOn : State → State → Event → Type 0
GoesOn old new event = OfScripts old (λ settings past. SenderStandsFor settings new (event ∷ past))

-- this holds where the last ask was at this moment or before
abbrev pub AskedUntil : ℕ → State → (SenderSettings → List Event → Type 0) → Type 0
AskedUntil now s P = OfScripts s (λ settings past. last_ask past ≤ now → P settings past)

-- this holds where a packet is due at this moment besides
abbrev pub DueAt : ℕ → State → (SenderSettings → List Event → Type 0) → Type 0
DueAt now s P =
    AskedUntil now s (λ settings past. due_at (stream_of settings) settings.interval past now ≡ true → P settings past)

-- there is room for these octets behind what waits
abbrev pub HasRoom : SenderSettings → List Event → List ℕ → Type 0
HasRoom settings past octets = length (waits_for settings past) + length octets ≤ MOST_WAITING_OCTETS

-- the octets of the packet of an ask at this moment, if one is due
abbrev pub octets_at : SenderSettings → List Event → ℕ → Option (List ℕ)
octets_at settings past now =
    option_map (packet_written settings.payload_types) (packet_at (stream_of settings) settings.interval past now)

-- the octets of the packet at this moment, which is due
abbrev pub octets_due : SenderSettings → List Event → ℕ → List ℕ
octets_due settings past now =
    packet_written settings.payload_types (packet_after (stream_of settings) (sents (sent_by settings past))
    (entry_at (stream_of settings) (sent_by settings past) (waits_for settings past) now).sent)

-- these octets, where they were written
abbrev pub written : Bool → List ℕ → Option (List ℕ)
written was_written octets = if was_written then Some octets else None
