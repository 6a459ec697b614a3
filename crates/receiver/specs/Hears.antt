-- What an ear stands for: what it was told, and what it gave (profile).
use Rattle.std.specs.Prelude.{◌≡◌, ℕ, Bool, true, not, ◌&&◌, Option, None, Some, Result, Ok, Err, List, [], ◌∷◌, ◌++◌, filter, map}
use Rattle.wire_spec.specs.declared.faults.TextFault.{TextFault}
use Rattle.wire_spec.specs.Packets.{Packet, Arrival, AreTextArrivals}
use Rattle.wire_spec.specs.Text.{text_within}
use Rattle.file_spec.specs.Primaries.{primary_limit}
use Rattle.wire_spec.specs.Dump.{latest}
use Rattle.stream_spec.specs.Numbering.{Numbered}
use Rattle.stream_spec.specs.Hearing.{AreHeardTexts}
use Rattle.stream_spec.specs.Ready.{Chunk, chunk, chunks}
use Rattle.stream_spec.specs.Fronts.{is_ready_by}
use Rattle.stream_spec.specs.ChunksBy.{chunks_by}
use Rattle.reorder_buffer.specs.Stories.{Story, Given, begun, came, ended, dues, ready_dues}
use Rattle.reorder_buffer.specs.Tracks.{Tracks}
use Rattle.reorder_buffer.specs.States.{has_ready}
use Rattle.reorder_buffer.specs.States as buffer
use Rattle.receiver.specs.Stands.{Stands, latest_number}
use Rattle.receiver.specs.Cuts.{chunks_given}
use Rattle.receiver.specs.PiecesLeft.{is_given, pieces_left}
use Rattle.receiver.specs.declared.settings.EarSettings.{EarSettings}
use Rattle.receiver.specs.declared.ears.Ear.{Ear}

-- ---- what is seen of an ear

abbrev pub settings_of : Ear → EarSettings
settings_of e = e.settings

-- how many packets came
abbrev pub arrival_count : Ear → ℕ
arrival_count e = buffer.arrival_count e.buffer

abbrev pub is_finished : Ear → Bool
is_finished e = buffer.is_finished e.buffer

-- nothing is left of the packet given last
abbrev pub is_clear : Ear → Bool
is_clear e = is_given e.piece

-- all that is settled by now was given
abbrev pub is_quiet : Ear → Bool
is_quiet e = not (has_ready e.buffer) && is_clear e

-- what is still to be handed out of the packet given last
abbrev pub texts_left : Ear → List (List ℕ)
texts_left e = pieces_left e.settings.cut e.piece (buffer.current_of e.buffer)

-- ---- what it was told

-- the packet of the stream that these octets are, or why they are none
abbrev pub text_for : EarSettings → List ℕ → Result Packet TextFault
text_for settings octets = text_within (primary_limit settings.long) octets (Some settings.ssrc) settings.payload_types

-- an octet string that is a packet of text comes at `now`; nothing else hands in a moment
abbrev pub told : Story → ℕ → Result Packet TextFault → Story
told story now (Ok p) = came story now p
told story now (Err fault) = story

-- it was told of these arrivals, newest first, and of no other moment
pub record IsToldOf (story : Story) (past : List Arrival) : Type 0 where
  pub arrivals : story.past ≡ past
  pub moment : story.moment ≡ latest past

-- all that is ready was given
abbrev pub all_given : Story → Story
all_given story = record story { given = ready_dues story }

-- ---- what it gave

-- a packet that was given, with the moment at which it was ready
abbrev pub ready_packet : Given → Numbered
ready_packet g = record { time = g.ready; number = g.number; packet = g.packet }

abbrev pub ready_packets : List Given → List Numbered
ready_packets given = map ready_packet given

abbrev pub last_after : Option ℕ → List Numbered → Option ℕ
last_after last [] = last
last_after last (u ∷ us) = last_after (Some u.number) us

-- The ear listens to these sources. Its buffer was told and gave what the story says, and its receiver took that.
pub record Hears (e : Ear) (settings : EarSettings) (sources : List ℕ) (story : Story) : Type 0 where
  pub asked : e.settings ≡ settings
  pub wait : story.wait ≡ settings.wait
  pub tracks : Tracks e.buffer story
  pub stands : Stands e.receiver sources (ready_packets story.given)
  pub latest : latest_number e.receiver ≡ last_after None (ready_packets story.given)
  pub texts : AreTextArrivals story.past

-- The ear listens to one source and gave these chunks, oldest first. With what is left of the packet given last they
-- are what is handed out of the chunks of all packets given. Their source is 0: whose they are is set by who mixes.
pub record Gave (e : Ear) (settings : EarSettings) (source : ℕ) (story : Story) (gave : List Chunk) : Type 0 where
  pub hears : Hears e settings (source ∷ []) story
  pub chunks : gave ++ map (chunk 0 e.ready) (texts_left e)
      ≡ chunks_given settings.cut (chunks_by 0 (ready_packets story.given) source)
  pub texts : AreHeardTexts (texts_left e)

abbrev pub IsGiving : Ear → Type 0
IsGiving e = (settings : EarSettings) × (source : ℕ) × (story : Story) × (gave : List Chunk) × Gave e settings source story gave

-- the ear gave them, having taken some of the packets that are ready
abbrev pub GaveSome : Ear → EarSettings → ℕ → Story → List Chunk → Type 0
GaveSome e settings source story gave = (given : List Given) × Gave e settings source (record story { given = given }) gave

-- whatever it gave before, it hears this source now, of which nothing came yet
abbrev pub BeginsAnew : Ear → Ear → ℕ → Type 0
BeginsAnew old new ssrc =
    (settings : EarSettings) (source : ℕ) (story : Story) (gave : List Chunk)
    → Gave old settings source story gave → Gave new (record settings { ssrc = ssrc }) ssrc (begun settings.wait) []

-- ---- by when it gave it

-- all chunks of the source, by what came so far
abbrev pub whole_chunks : EarSettings → ℕ → Story → List Chunk
whole_chunks settings source story = chunks settings.wait 0 story.past source

-- those of them that are ready by the greatest moment
abbrev pub whole_ready : EarSettings → ℕ → Story → List Chunk
whole_ready settings source story = filter (is_ready_by story.moment) (whole_chunks settings source story)

-- what is handed out of them
abbrev pub story_chunks : EarSettings → ℕ → Story → List Chunk
story_chunks settings source story = chunks_given settings.cut (whole_chunks settings source story)

abbrev pub ready_chunks : EarSettings → ℕ → Story → List Chunk
ready_chunks settings source story = chunks_given settings.cut (whole_ready settings source story)

-- ---- what calls make of it

-- what came is another, and what was given stays, of which nothing is left
pub record Becomes (old new : Ear) (f : EarSettings → Story → Story) : Type 0 where
  pub hears : (settings : EarSettings) (sources : List ℕ) (story : Story) → Hears old settings sources story
      → Hears new settings sources (f settings story)
  pub gave : (settings : EarSettings) (source : ℕ) (story : Story) (gave : List Chunk)
      → Gave old settings source story gave → Gave new settings source (f settings story) gave
  pub clear : is_clear new ≡ true

-- a chunk was given
abbrev pub GivesChunk : Ear → Ear → Chunk → Type 0
GivesChunk old new c = (settings : EarSettings) (source : ℕ) (story : Story) (gave : List Chunk)
    → Gave old settings source story gave → GaveSome new settings source story (gave ++ c ∷ [])

-- none was given
abbrev pub GivesNone : Ear → Ear → Type 0
GivesNone old new = (settings : EarSettings) (source : ℕ) (story : Story) (gave : List Chunk)
    → Gave old settings source story gave → GaveSome new settings source story gave

-- exactly the chunks that are ready by the greatest moment were given
abbrev pub GaveReady : Ear → Type 0
GaveReady e = (settings : EarSettings) (source : ℕ) (story : Story) (gave : List Chunk)
    → Gave e settings source story gave → gave ≡ ready_chunks settings source story

-- what was given is a front of all chunks
abbrev pub GaveFront : Ear → Type 0
GaveFront e = (settings : EarSettings) (source : ℕ) (story : Story) (gave : List Chunk)
    → Gave e settings source story gave → (rest : List Chunk) × (story_chunks settings source story ≡ gave ++ rest)

-- each used packet is ready by the end, and so is each chunk
pub record IsReadyAtEnd (settings : EarSettings) (story : Story) : Type 0 where
  pub packets : ready_dues (ended story) ≡ dues story
  pub chunks : (source : ℕ) → ready_chunks settings source (ended story) ≡ story_chunks settings source story

abbrev pub AllReady : Ear → Type 0
AllReady e = (settings : EarSettings) (sources : List ℕ) (story : Story) → Hears e settings sources story
    → IsReadyAtEnd settings story
