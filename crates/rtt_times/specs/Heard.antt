-- What was heard of a stream, as far as its sources and numbers tell. Lists of arrivals are newest first.
use Rattle.std.specs.Prelude.{◌≡◌, ℕ, ◌+◌, ◌*◌, ◌≤◌, ◌==◌, List, [], ◌∷◌, ◌++◌, map, max, if◌then◌else◌}
use Rattle.rtt_base.specs.declared.text_packets.PayloadTypes.{PayloadTypes}
use Rattle.wire_spec.specs.Packets.{Packet, packet_of}
use Rattle.wire_spec.specs.Dump.{Item, arrivals_after, sent_item}
use Rattle.stream_spec.specs.Numbering.{Numbered, numbered, nearest, greatest}
use Rattle.command_spec.specs.Firsts.{Firsts, firsts, with_name}
use Rattle.command_spec.specs.Reading.{usual_wait}
use Rattle.command_spec.specs.Streams.{sources}
use Rattle.reorder_buffer.specs.declared.answers.Due.{Due}
use Rattle.reorder_buffer.specs.Stories.{Story, Given, dues_of, ready_dues}
use Rattle.reorder_buffer.specs.Stories as stories
use Rattle.reorder_buffer.specs.States.{State, current_of}
use Rattle.reorder_buffer.specs.Tracks.{Tracks}
use Rattle.receiver.specs.Hears.{IsToldOf}
use Rattle.rtp_text.specs.declared.views.TextView.{TextView}
use Rattle.rtp_text.specs.Views.{packet_in}
use Rattle.rtt_show.specs.Records.{OfRecords}
use Rattle.rtt_show.specs.Surveys.{firsts_of}
use Rattle.rtt_times.specs.declared.stream_packets.TimedPacket.{TimedPacket}
use Rattle.rtt_times.specs.declared.stream_packets.StreamPackets.{StreamPackets}

-- ---- numbers

-- of the next packet, where this is the greatest so far, or 0 where none came
abbrev pub number_from : ℕ → ℕ → ℕ
number_from top seq = if top == 0 then seq + 65536 else nearest top seq

abbrev pub due_in : Given → Due
due_in g = record { number = g.number; ready = g.ready }

abbrev pub came_of : Numbered → TimedPacket
came_of e = record { number = e.number; time = e.time }

-- all that came, in the order in which it did
abbrev pub came_in : List Numbered → List TimedPacket
came_in [] = []
came_in (e ∷ past) = came_in past ++ came_of e ∷ []

-- ---- while it is heard

-- nothing was
pub record IsEmpty (h : StreamPackets) : Type 0 where
  pub sources : firsts_of h.sources ≡ firsts []
  pub used : h.used.items ≡ []
  pub came : h.came.items ≡ []
  pub top : h.top ≡ 0
  pub moment : h.moment ≡ 0

-- at most so many packets came
pub record IsSmall (n : ℕ) (h : StreamPackets) : Type 0 where
  pub top : h.top ≤ 131072 * (n + 1)
  pub others : h.sources.others ≤ n

-- a packet of this source came besides
pub record Counts (source seq at : ℕ) (old new : StreamPackets) : Type 0 where
  pub sources : firsts_of new.sources ≡ with_name (firsts_of old.sources) source
  pub used : new.used ≡ old.used
  pub came : new.came.items ≡ old.came.items ++ record { number = number_from old.top seq; time = max old.moment at } ∷ []
  pub top : new.top ≡ max old.top (number_from old.top seq)
  pub moment : new.moment ≡ max old.moment at

-- the buffer was told and gave what the story says, these sources were named, and all that is kept
pub record Hearing (t : State) (h : StreamPackets) (story : Story) (names : Firsts) : Type 0 where
  pub wait : story.wait ≡ usual_wait
  pub tracks : Tracks t story
  pub sources : firsts_of h.sources ≡ names
  pub used : h.used.items ≡ map due_in story.given
  pub came : h.came.items ≡ came_in (numbered story.past)
  pub top : h.top ≡ greatest (numbered story.past)
  pub moment : h.moment ≡ story.moment

-- other packets were given
abbrev pub with_given : Story → List Given → Story
with_given story given = record story { given = given }

-- all that is ready was given, and is kept
abbrev pub Drains : State → List Due → State → List Due → Type 0
Drains old used new more = (story : Story) → Tracks old story → used ≡ map due_in story.given
    → Tracks new (with_given story (ready_dues story)) × (more ≡ map due_in (ready_dues story))

-- this packet came at the moment
abbrev pub HearsPacket : ℕ → Packet → State → StreamPackets → State → StreamPackets → Type 0
HearsPacket at p t old u new = (story : Story) (names : Firsts) → Hearing t old story names
    → (given : List Given) × Hearing u new (with_given (stories.came story at p) given) (with_name names p.source)

abbrev pub HearsCurrent : ℕ → State → StreamPackets → State → StreamPackets → Type 0
HearsCurrent at t old u new = HearsPacket at (packet_of (current_of t)) t old u new

abbrev pub HearsViewed : ℕ → TextView → State → StreamPackets → State → StreamPackets → Type 0
HearsViewed at view t old u new = HearsPacket at (packet_in view) t old u new

-- ---- of a stream

-- these records came
pub record Listening (ssrc : ℕ) (payload_types : PayloadTypes) (t : State) (h : StreamPackets) (items : List Item) : Type 0 where
  pub story : Story
  pub told : IsToldOf story (arrivals_after ssrc payload_types [] items)
  pub hearing : Hearing t h story (sources ssrc payload_types items)

-- a packet with these octets came
abbrev pub HearsOctets : ℕ → PayloadTypes → ℕ → List ℕ → State → StreamPackets → State → StreamPackets → Type 0
HearsOctets ssrc payload_types at octets t old u new = (items : List Item)
    → Listening ssrc payload_types t old items → Listening ssrc payload_types u new (items ++ sent_item (at, octets) ∷ [])

-- nothing came before, and then these records
abbrev pub HearsRecords : ℕ → PayloadTypes → List ℕ → State → StreamPackets → State → StreamPackets → Type 0
HearsRecords ssrc payload_types octets t old u new = Listening ssrc payload_types t old []
    → OfRecords octets (Listening ssrc payload_types u new)

-- ---- once all is heard

-- these are the numbers of the packets that came
pub record HasNumbers (h : StreamPackets) (past : List Numbered) : Type 0 where
  pub used : h.used.items ≡ map due_in (dues_of usual_wait past)
  pub came : h.came.items ≡ came_in past

-- all that these records have was heard
pub record IsHeard (ssrc : ℕ) (payload_types : PayloadTypes) (h : StreamPackets) (items : List Item) : Type 0 where
  pub sources : firsts_of h.sources ≡ sources ssrc payload_types items
  pub numbers : HasNumbers h (numbered (arrivals_after ssrc payload_types [] items))
