-- Words of the laws on a sender.
use Rattle.std.specs.Prelude.{◌≡◌, ℕ, ◌≤◌, true, false, None, Some, List, ◌∷◌, ◌++◌, length, take, nat_le, IsUtf8}
use Rattle.stream_spec.specs.Lists.{In}
use Rattle.stream_spec.specs.History.{Placed, placed}
use Rattle.stream_spec.specs.Own.{Closed, own_packet}
use Rattle.stream_spec.specs.Typed.{Event, Ask, typed, whole_front, due_at, packet_at, IsScript, primaries}
use Rattle.packetizer.specs.declared.senders.SenderSettings.{SenderSettings}
use Rattle.packetizer.specs.SenderSettings.{AreSettings, stream_of}
use Rattle.packetizer.specs.SenderStanding.{sent_by, waits_for, has_more, next_due_of, history_sent}

-- this holds of each configuration and each script
abbrev pub OfEach : (SenderSettings → List Event → Type 0) → Type 0
OfEach P = (settings : SenderSettings) (past : List Event) → AreSettings settings → IsScript past → P settings past

-- what was typed is what was sent, in order, and what waits behind it
abbrev pub IsSentInOrder : SenderSettings → List Event → Type 0
IsSentInOrder settings past = typed past ≡ primaries (history_sent settings past) ++ waits_for settings past

-- where a packet is due at this moment, it is that of the last entry of the history with this ask
abbrev pub IsOfLastEntry : SenderSettings → List Event → ℕ → Type 0
IsOfLastEntry settings past t =
    due_at (stream_of settings) settings.interval past t ≡ true
    → (x : Placed) × In x (placed (history_sent settings (Ask t ∷ past))) × (x.place ≡ length (sent_by settings past))
    × (packet_at (stream_of settings) settings.interval past t ≡ Some (own_packet (history_sent settings (Ask t ∷ past)) x))

-- where nothing waits and nothing is left to be repeated, all that was typed was sent
abbrev pub IsSentAtEnd : SenderSettings → List Event → Type 0
IsSentAtEnd settings past = has_more settings past ≡ false → typed past ≡ primaries (history_sent settings past)

-- and each text was repeated as often as it is to be
abbrev pub IsClosedAtEnd : SenderSettings → List Event → Type 0
IsClosedAtEnd settings past = has_more settings past ≡ false → Closed settings.generations (history_sent settings past)

-- where m is the moment of the next packet, a packet is due at t exactly where t is not before m
abbrev pub IsDueFrom : SenderSettings → List Event → ℕ → ℕ → Type 0
IsDueFrom settings past m t =
    next_due_of settings past ≡ Some m → due_at (stream_of settings) settings.interval past t ≡ nat_le m t

-- where there is no such moment, nothing waits and nothing is left to be repeated
abbrev pub IsOverAtNone : SenderSettings → List Event → Type 0
IsOverAtNone settings past = next_due_of settings past ≡ None → has_more settings past ≡ false

-- a front of k octets, at most n, that cuts no character is no longer than the longest one
abbrev pub IsNoLonger : ℕ → ℕ → List ℕ → Type 0
IsNoLonger n k octets =
    k ≤ n → k ≤ length octets → IsUtf8 (take k octets) → k ≤ length (whole_front n octets)
