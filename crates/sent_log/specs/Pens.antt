-- What a pen knows of what was sent before a packet.
use Rattle.std.specs.Prelude.{◌≡◌, ◌+◌, ◌%◌, ℕ, Some, List, ◌∷◌, ◌++◌, length, map, reverse, slice_get, slice_index, slice_index_or, if◌then◌else◌, []}
use Rattle.wire_spec.specs.Dump.{record_written}
use Rattle.stream_spec.specs.Own.{Sent, sent_of}
use Rattle.packetizer.specs.Sending.{octets_of}
use Rattle.packetizer.specs.declared.slots.KeptBlock.{KeptBlock}
use Rattle.packetizer.specs.WindowStanding as window
use Rattle.sent_log.specs.declared.repeats.PacketKey.{PacketKey}
use Rattle.sent_log.specs.declared.pens.Pen.{Pen}
use Rattle.sent_log.specs.Repeats.{AreBelow}
use Rattle.sent_log.specs.States.{IsLawful, OfTerminal, Sending, State, first_sent, sents}

-- the text that was sent with this number, counted from the oldest, where what was sent stands newest first
abbrev pub text_sent : List (ℕ × Sent) → ℕ → List ℕ
text_sent sent number = (slice_index_or (reverse sent) number (0, record { source = 0; media = 0; text = [] })).1.text

-- what is kept of a packet
abbrev pub kept_by : List (ℕ × Sent) → PacketKey → KeptBlock
kept_by sent k = record { sent = k.sent; timestamp = k.timestamp; text = if k.sent then text_sent sent k.number else [] }

-- what was sent of the source with this number, before the packet `number`
abbrev pub sent_before : Sending → (number source : ℕ) → List Sent
sent_before x number source = sent_of (slice_index x.sources source) (sents (first_sent number x.sent))

-- these are the last three packets of the source before this one
pub record AreLast (x : Sending) (number source : ℕ) (r : List PacketKey) : Type 0 where
  pub below : AreBelow (length x.sent) r
  pub kept : window.WindowStandsFor 3 x.settings.timestamp (map (kept_by x.sent) r) (sent_before x number source)

-- a pen that has written the packets before this one
pub record IsPenOf (x : Sending) (number : ℕ) (p : Pen) : Type 0 where
  pub seq : p.seq ≡ (x.settings.seq + number) % 65536
  pub each : length p.sources.items ≡ length x.sources
  pub last : (source : ℕ) (r : List PacketKey) → slice_get p.sources.items source ≡ Some r → AreLast x number source r

-- it is a pen to the terminal, whatever it has written
pub record IsPenTo (x : Sending) (p : Pen) : Type 0 where
  pub each : length p.sources.items ≡ length x.sources

-- The packet with this number has these octets, and was sent at this moment.
abbrev pub IsPacket : Sending → ℕ → List ℕ → ℕ → Type 0
IsPacket x number octets at = IsLawful x
    → (e : ℕ × Sent) × (first_sent (number + 1) x.sent ≡ e ∷ first_sent number x.sent) × (at ≡ e.0)
    × (octets ≡ octets_of x.settings (sents (first_sent number x.sent)) e.1)

-- The packet with this number, that was sent to the terminal at this moment, stands behind what was there before.
pub record AppendsPacket (log : State) (terminal number : ℕ) (before after : List ℕ) (at : ℕ) : Type 0 where
  pub octets : List ℕ
  pub behind : after ≡ before ++ octets
  pub is : OfTerminal log terminal (λ x. IsPacket x number octets at)

-- its record does
pub record AppendsRecord (log : State) (terminal number : ℕ) (before after : List ℕ) : Type 0 where
  pub octets : List ℕ
  pub at : ℕ
  pub behind : after ≡ before ++ record_written (at, octets)
  pub is : OfTerminal log terminal (λ x. IsPacket x number octets at)
