-- What is told of all that an output, or a source of it, may have sent.
use Rattle.std.specs.Prelude.{◌≡◌, ℕ, ◌+◌, ◌%◌, ◌^◌, Bool, List, ◌∷◌}
use Rattle.wire_spec.specs.SentPackets.{packet_written}
use Rattle.stream_spec.specs.Own.{Sent, sent_of, has_text_in, packet_after}
use Rattle.packetizer.specs.declared.outputs.PacketizerSettings.{PacketizerSettings}
use Rattle.packetizer.specs.declared.speakers.Speaker.{Speaker}
use Rattle.packetizer.specs.OutputSettings.{stream_of}
use Rattle.packetizer.specs.Speakers.{IsNext, speaker_at, text_of}
use Rattle.packetizer.specs.OutputStates.{State}
use Rattle.packetizer.specs.OutputStanding.{PacketizerStandsFor, source_at}

-- this holds of all that the output stands for
abbrev pub OfSent : State → (PacketizerSettings → List ℕ → List Sent → Type 0) → Type 0
OfSent s P =
    (settings : PacketizerSettings) (sources : List ℕ) (past : List Sent)
    → PacketizerStandsFor settings sources s past → P settings sources past

-- this holds of this text of the source where it may come next, at this media time
abbrev pub OfNext : State → ℕ → ℕ → List ℕ → (PacketizerSettings → List ℕ → List Sent → Sent → Type 0) → Type 0
OfNext s source media text P =
    (settings : PacketizerSettings) (sources : List ℕ) (past : List Sent) → PacketizerStandsFor settings sources s past
    → IsNext (stream_of settings) past (text_of sources source media text)
    → P settings sources past (text_of sources source media text)

-- the same where the timestamp is known and not the media time
abbrev pub OfStamped : State → ℕ → ℕ → List ℕ → (PacketizerSettings → List ℕ → List Sent → Sent → Type 0) → Type 0
OfStamped s source timestamp text P =
    (settings : PacketizerSettings) (sources : List ℕ) (past : List Sent) (media : ℕ)
    → PacketizerStandsFor settings sources s past
    → timestamp ≡ (settings.timestamp + media) % 2 ^ 32
    → IsNext (stream_of settings) past (text_of sources source media text)
    → P settings sources past (text_of sources source media text)

-- text of the source is still to be repeated
abbrev pub has_repeats : PacketizerSettings → List ℕ → List Sent → ℕ → Bool
has_repeats settings sources past source = has_text_in settings.generations (sent_of (source_at sources source) past)

-- the octets of the packet that is sent of this, behind the others
abbrev pub octets_of : PacketizerSettings → List Sent → Sent → List ℕ
octets_of settings past e = packet_written settings.payload_types (packet_after (stream_of settings) past e)

-- this holds of all that may have been sent of the source
abbrev pub OfSpeaker : Speaker → (ℕ → ℕ → ℕ → List Sent → Type 0) → Type 0
OfSpeaker speaker P =
    (g base source : ℕ) (sent : List Sent) → speaker ≡ speaker_at g base source sent → P g base source sent

-- a packet with this timestamp and this text is the last one of the source
abbrev pub KeepsText : Speaker → Speaker → ℕ → List ℕ → Type 0
KeepsText old new timestamp text =
    (g base source : ℕ) (sent : List Sent) (e : Sent) → old ≡ speaker_at g base source sent
    → timestamp ≡ (base + e.media) % 2 ^ 32 → text ≡ e.text → new ≡ speaker_at g base source (e ∷ sent)
