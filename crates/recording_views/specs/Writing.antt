-- What was written of the texts of a recording whose records come one after another.
use Rattle.std.specs.Prelude.{false, ◌≡◌, ℕ, List, [], ◌∷◌, ◌++◌, flat_map}
use Rattle.wire_spec.specs.Packets.{Arrival}
use Rattle.wire_spec.specs.Dump.{Recording, Item, arrivals_after, arrivals_with, dump, usual_limit}
use Rattle.stream_spec.specs.Ready.{Chunk}
use Rattle.command_spec.specs.declared.requests.ReadRequest.{ReadRequest}
use Rattle.command_spec.specs.Reading.{usual_wait}
use Rattle.command_spec.specs.Transcripts.{chunk_line, chunks_read, transcript_view}
use Rattle.reorder_buffer.specs.Stories.{Story, begun}
use Rattle.receiver.specs.declared.cuts.TextCut.TheVariants.{Never}
use Rattle.receiver.specs.declared.settings.EarSettings.{EarSettings}
use Rattle.receiver.specs.declared.ears.Ear.{Ear}
use Rattle.receiver.specs.Hears.{Gave, GaveSome, IsToldOf, ready_chunks, story_chunks, text_for, told}

-- the texts that are heard, oldest first
abbrev pub Texts : Type 0
Texts = List Chunk

-- what an ear is asked for
abbrev pub asked_of : ReadRequest → EarSettings
asked_of r = record { ssrc = r.ssrc; payload_types = r.payload_types; wait = usual_wait; long = false; cut = Never }

-- the ear for this request was told nothing
abbrev pub IsBegunFor : ReadRequest → Ear → Type 0
IsBegunFor r ear = Gave ear (asked_of r) r.source (begun usual_wait) []

module _ {O : Type 0} (wrote : O → O → Texts → Type 0) where
  -- whatever was written before, this text was written behind it
  abbrev pub WritesText : O → O → Chunk → Type 0
  WritesText old new c = (first : O) (gave : Texts) → wrote first old gave → wrote first new (gave ++ c ∷ [])

  -- the ear was told this, and all that it gave was written
  abbrev pub Written : O → Ear → O → EarSettings → ℕ → Story → Type 0
  Written first ear out settings source story = (gave : Texts) × GaveSome ear settings source story gave × wrote first out gave

  -- ---- what calls make of it
  -- it was told nothing, and what is ready was written
  abbrev pub WritesReady : Ear → O → Ear → O → Type 0
  WritesReady before old after new = (first : O) (settings : EarSettings) (source : ℕ) (story : Story)
      → Written first before old settings source story
      → Written first after new settings source story × wrote first new (ready_chunks settings source story)

  -- these octets came at this moment, and some of what is ready was written
  abbrev pub WritesPacket : ℕ → List ℕ → Ear → O → Ear → O → Type 0
  WritesPacket at octets before old after new = (first : O) (settings : EarSettings) (source : ℕ) (story : Story)
      → Written first before old settings source story
      → Written first after new settings source (told story at (text_for settings octets))

  -- it was told of the end, and everything was written
  abbrev pub WritesEnd : Ear → O → O → Type 0
  WritesEnd before old new = (first : O) (settings : EarSettings) (source : ℕ) (story : Story)
      → Written first before old settings source story
      → wrote first new (story_chunks settings source story)

  -- ---- the records of a recording
  -- The ear for this request was told of these arrivals, newest first.
  abbrev pub HasWritten : ReadRequest → O → List Arrival → Ear → O → Type 0
  HasWritten r first past ear out = (story : Story) × IsToldOf story past × Written first ear out (asked_of r) r.source story

  -- this record came
  abbrev pub WritesItem : Item → Ear → O → Ear → O → Type 0
  WritesItem item before old after new = (r : ReadRequest) (first : O) (past : List Arrival) → HasWritten r first past before old
      → HasWritten r first (arrivals_with r.ssrc r.payload_types item past) after new

  -- some records came; those of this recording, where this tells it
  abbrev pub WritesAll : Type 0 → Recording → Ear → O → Ear → O → Type 0
  WritesAll tells recording before old after new = (r : ReadRequest) (first : O) (past : List Arrival)
      → HasWritten r first past before old
      → (all : List Arrival) × HasWritten r first all after new × (tells → all ≡ arrivals_after r.ssrc r.payload_types past recording.items)

  -- all that is heard of the source in this recording was written
  abbrev pub WritesRecording : ReadRequest → Recording → O → O → Type 0
  WritesRecording r recording old new = (first : O) → wrote first old [] → (octets : List ℕ)
      → recording ≡ dump usual_limit octets → wrote first new (chunks_read r octets)

-- ---- as a script
-- the lines of these
abbrev pub lines_of : Texts → List ℕ
lines_of texts = flat_map chunk_line texts

-- their lines stand behind the first
abbrev pub AreLines : List ℕ → List ℕ → Texts → Type 0
AreLines first printed texts = printed ≡ first ++ lines_of texts

-- this is what is printed of the recording
abbrev pub IsTranscript : ReadRequest → Recording → List ℕ → Type 0
IsTranscript r recording printed = (octets : List ℕ) → recording ≡ dump usual_limit octets
    → printed ≡ transcript_view r octets
