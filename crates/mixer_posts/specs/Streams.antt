-- The stream to each terminal of a conference, and its sources (RFC 3550, section 5.1; RFC 9071).
use Rattle.std.specs.Prelude.{◌≡◌, ℕ, ◌<◌, Bool, true, false, Option, None, Some, List, [], ◌∷◌, length, slice_index}
use Rattle.rtt_base.specs.declared.text_packets.PayloadTypes.{PayloadTypes}
use Rattle.file_spec.specs.declared.conference_lines.LegLine.{LegLine}
use Rattle.file_spec.specs.Conference.{Conference}
use Rattle.mixer_spec.specs.Setups.{Setup, leg_at}
use Rattle.packetizer.specs.declared.outputs.PacketizerSettings.{PacketizerSettings}

abbrev pub payload_types_of : Option LegLine → PayloadTypes
payload_types_of None = record { t140 = 0; red = 0 }
payload_types_of (Some leg) = leg.payload_types

-- the payload types of the terminal of the leg j
abbrev pub payload_types_at : Conference → ℕ → PayloadTypes
payload_types_at c j = payload_types_of (leg_at c.legs j)

-- the stream to the terminal j, with these payload types
abbrev pub settings_at : Setup → PayloadTypes → ℕ → PacketizerSettings
settings_at s payload_types j = record { ssrc = s.mixer; seq = s.first; timestamp = s.base; payload_types = payload_types; generations = s.generations j }

-- the SSRCs of all legs, in leg order, where the terminal is aware; else the mixer's alone
abbrev pub AreSourcesOf : Bool → Setup → List ℕ → Type 0
AreSourcesOf true s sources = (length sources ≡ s.legs) × ((i : ℕ) → i < s.legs → slice_index sources i ≡ s.ssrc i)
AreSourcesOf false s sources = sources ≡ s.mixer ∷ []

-- these are the SSRCs of the sources of the terminal j
abbrev pub AreSourcesAt : Setup → ℕ → List ℕ → Type 0
AreSourcesAt s j sources = AreSourcesOf (s.aware j) s sources
