-- What was sent to the terminals of a conference, and its recordings (profile).
use Rattle.std.specs.Prelude.{◌≡◌, ◌+◌, ◌-◌, ◌<◌, ◌^◌, ◌==◌, ℕ, Option, None, Some, MatchOption, All, List, [], ◌∷◌, ◌++◌, drop, length, map, slice_get, slice_set, if◌then◌else◌}
use Rattle.std.specs.List.Sorted.{IsNonDecreasing}
use Rattle.wire_spec.specs.Dump.{dump_written}
use Rattle.stream_spec.specs.Own.{Sent}
use Rattle.packetizer.specs.declared.outputs.PacketizerSettings.{PacketizerSettings}
use Rattle.rtt_base.specs.declared.text_packets.PayloadTypes.{PayloadTypes}
use Rattle.stream_spec.specs.Lists.{In}
use Rattle.packetizer.specs.OutputSettings.{AreSettings, stream_of}
use Rattle.packetizer.specs.Speakers.{EachIsNext}
use Rattle.packetizer.specs.Sending.{octets_of}

-- What was sent to a terminal: its stream, its sources, and what was sent of them, newest first, each at its moment.
pub record Sending : Type 0 where
  pub settings : PacketizerSettings
  pub sources : List ℕ
  pub sent : List (ℕ × Sent)

-- to each terminal
abbrev pub State : Type 0
State = List Sending

-- what was sent, without the moments
abbrev pub sents : List (ℕ × Sent) → List Sent
sents sent = map (λ x. x.1) sent

-- its packets, oldest first, each at its moment
abbrev pub records_of : PacketizerSettings → List (ℕ × Sent) → List (ℕ × List ℕ)
records_of settings [] = []
records_of settings (x ∷ past) = records_of settings past ++ (x.0, octets_of settings (sents past) x.1) ∷ []

-- the recording of them
abbrev pub recording_of : Sending → List ℕ
recording_of x = dump_written (records_of x.settings x.sent)

-- their moments never fall
abbrev pub NeverFalls : Sending → Type 0
NeverFalls x = IsNonDecreasing (map (λ r. r.0) (records_of x.settings x.sent))

-- each could be sent after those before it
abbrev pub IsLawful : Sending → Type 0
IsLawful x = EachIsNext (stream_of x.settings) (sents x.sent)

abbrev pub AreLawful : State → Type 0
AreLawful log = All IsLawful log

-- ---- one more

-- this was sent, at the moment `at`
abbrev pub with_sent : ℕ → Sent → Sending → Sending
with_sent at e x = record x { sent = (at, e) ∷ x.sent }

-- it was sent to the terminal with this number
abbrev pub sent_to : ℕ → ℕ → (List ℕ → Sent) → State → State
sent_to terminal at e_of log = go (slice_get log terminal)
  where
    go : Option Sending → State
    go None = log
    go (Some x) = slice_set log terminal (with_sent at (e_of x.sources) x)

-- the source with this number is one of the terminal's
abbrev pub HasSource : State → (terminal source : ℕ) → Type 0
HasSource log terminal source = MatchOption (slice_get log terminal) ⊥ (λ x. source < length x.sources)

-- ---- packet by packet

-- the first `count` that were sent, newest first
abbrev pub first_sent : ℕ → List (ℕ × Sent) → List (ℕ × Sent)
first_sent count sent = drop (length sent - count) sent

-- this holds of what was sent to the terminal
abbrev pub OfTerminal : State → ℕ → (Sending → Type 0) → Type 0
OfTerminal log terminal P = (x : Sending) → slice_get log terminal ≡ Some x → P x

-- The packet with this number was sent of the source with this SSRC, with this text.
pub record TellsText (x : Sending) (number ssrc : ℕ) (text : List ℕ) : Type 0 where
  pub at : ℕ
  pub media : ℕ
  pub next : first_sent (number + 1) x.sent ≡ (at, record { source = ssrc; media = media; text = text }) ∷ first_sent number x.sent

-- all texts that were sent of the source, one behind the other, where what was sent stands newest first
abbrev pub said : ℕ → List Sent → List ℕ
said s [] = []
said s (e ∷ past) = said s past ++ (if e.source == s then e.text else [])

-- ---- the whole stream

-- it is a stream with this SSRC and these payload types, and the source of each text that was sent has 32 bits
pub record IsStreamOf (ssrc : ℕ) (payload_types : PayloadTypes) (x : Sending) : Type 0 where
  pub settings : AreSettings x.settings
  pub ssrc_is : x.settings.ssrc ≡ ssrc
  pub payload_types_are : x.settings.payload_types ≡ payload_types
  pub words : (e : Sent) → In e (sents x.sent) → e.source < 2 ^ 32
