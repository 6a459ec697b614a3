-- What the laws say of splits: a mixer hears of one what is heard of its source.
use Rattle.std.specs.Prelude.{◌≡◌, ◌≢◌, ◌<◌, ◌≤◌, ◌^◌, ℕ, None, List, [], ◌∷◌, length, map, true, IsUtf8}
use Rattle.rtt_base.specs.declared.text_packets.PayloadTypes.{PayloadTypes}
use Rattle.wire_spec.specs.Packets.{has_text}
use Rattle.wire_spec.specs.Dump.{arrivals_after, arrivals_within, dump}
use Rattle.stream_spec.specs.Carries.{Groups}
use Rattle.stream_spec.specs.Hearing.{heard}
use Rattle.stream_spec.specs.Ready.{Chunk}
use Rattle.stream_spec.specs.Still.{still}
use Rattle.command_spec.specs.Splitting.{Trunk, came_of, chunks_of, groups, packets_in, recorded, split}
use Rattle.rtt_base.specs.declared.limits.TheConstants.{MOST_TEXT_OCTETS}

-- a text that fits into a packet
pub record IsSendable (text : List ℕ) : Type 0 where
  pub some : has_text text ≡ true
  pub utf8 : IsUtf8 text
  pub few : length text ≤ MOST_TEXT_OCTETS

abbrev pub AreSendable : List Chunk → Type 0
AreSendable [] = Unit {0}
AreSendable (c ∷ cs) = IsSendable c.text × AreSendable cs

-- a stream can have these payload types and this SSRC
pub record IsStream (payload_types : PayloadTypes) (s : ℕ) : Type 0 where
  pub t140 : payload_types.t140 < 2 ^ 7
  pub red : payload_types.red < 2 ^ 7
  pub differ : payload_types.t140 ≢ payload_types.red
  pub ssrc : s < 2 ^ 32

-- what is heard of the source s in these octets, however long a gap is waited for
abbrev pub heard_in : PayloadTypes → ℕ → ℕ → ℕ → List ℕ → List (List ℕ)
heard_in payload_types s limit wait octets = heard wait (arrivals_after s payload_types [] (dump limit octets).items) s

-- The recording of these chunks as packets of the source s.
abbrev pub recording_of : PayloadTypes → ℕ → List Chunk → List ℕ
recording_of payload_types s cs = recorded payload_types (packets_in s (groups cs))

-- Wherever it has at most as many octets as may be, it is read to its end.
abbrev pub SplitsAreRead : Type 0
SplitsAreRead =
    (payload_types : PayloadTypes) (s : ℕ) (cs : List Chunk) → IsStream payload_types s → AreSendable cs
    → (limit : ℕ) → length (recording_of payload_types s cs) ≤ limit
    → (dump limit (recording_of payload_types s cs)).fault ≡ None

-- What is heard of it are the texts of the chunks put together: none is lost, and no marker is added.
abbrev pub SplitsAreHeard : Type 0
SplitsAreHeard =
    (payload_types : PayloadTypes) (s : ℕ) (cs : List Chunk) → IsStream payload_types s → AreSendable cs
    → (limit wait : ℕ) → length (recording_of payload_types s cs) ≤ limit
    → Groups (heard_in payload_types s limit wait (recording_of payload_types s cs)) (map (λ c. c.text) cs) []

-- ---- of a recording
-- Whatever a recording has, what is heard of each source of it are texts that fit into a packet.
abbrev pub HeardAreSendable : Type 0
HeardAreSendable = (t : Trunk) (octets : List ℕ) (s : ℕ) → AreSendable (chunks_of t.wait (came_of t octets) s)

-- the split of this source out of the recording with these octets
abbrev pub split_of : Trunk → List ℕ → ℕ → List ℕ
split_of t octets s = split t.payload_types t.wait (came_of t octets) s

-- Whatever a recording has, each split of it is read to its end wherever it has at most as many octets as may be,
abbrev pub RecordingsAreRead : Type 0
RecordingsAreRead =
    (t : Trunk) (octets : List ℕ) (s : ℕ) → IsStream t.payload_types s
    → (limit : ℕ) → length (split_of t octets s) ≤ limit
    → (dump limit (split_of t octets s)).fault ≡ None

-- and what is heard of it is what is heard of its source.
abbrev pub RecordingsAreHeard : Type 0
RecordingsAreHeard =
    (t : Trunk) (octets : List ℕ) (s : ℕ) → IsStream t.payload_types s
    → (limit wait : ℕ) → length (split_of t octets s) ≤ limit
    → Groups (heard_in t.payload_types s limit wait (split_of t octets s)) (map (λ c. c.text) (chunks_of t.wait (came_of t octets) s)) []

-- what a mixer hears of it, to which keep-alives are no text, where a primary text may have at most so many octets
abbrev pub mixed_in : ℕ → PayloadTypes → ℕ → ℕ → ℕ → List ℕ → List (List ℕ)
mixed_in most payload_types s limit wait octets = heard wait (still (arrivals_within most s payload_types [] (dump limit octets).items)) s

-- A mixer hears the same of it, however long it lets texts be.
abbrev pub RecordingsAreMixed : Type 0
RecordingsAreMixed =
    (t : Trunk) (octets : List ℕ) (s : ℕ) → IsStream t.payload_types s
    → (most : ℕ) → MOST_TEXT_OCTETS ≤ most
    → (limit wait : ℕ) → length (split_of t octets s) ≤ limit
    → Groups (mixed_in most t.payload_types s limit wait (split_of t octets s)) (map (λ c. c.text) (chunks_of t.wait (came_of t octets) s)) []
