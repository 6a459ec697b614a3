-- What a leg gives of its recording (profile).
use Rattle.std.specs.Prelude.{◌≡◌, ℕ, Bool, true, false, None, Result, Ok, Err, List, [], ◌∷◌, ◌++◌}
use Rattle.wire_spec.specs.Packets.{Arrival}
use Rattle.wire_spec.specs.Dump.{Item, Recording, dump, arrivals_within}
use Rattle.file_spec.specs.Primaries.{primary_limit}
use Rattle.stream_spec.specs.Ready.{Chunk, chunks}
use Rattle.reorder_buffer.specs.Stories.{Story}
use Rattle.rtpdump_io.specs.declared.items.DumpFault.{DumpFault}
use Rattle.rtpdump_io.specs.declared.readers.DumpReader.{DumpReader}
use Rattle.rtpdump_io.specs.Reading.{to_come, is_ended, most_answers, IsFaultOf}
use Rattle.rtpdump_io.specs.Reading as reading
use Rattle.receiver.specs.declared.settings.EarSettings.{EarSettings}
use Rattle.receiver.specs.Cuts.{chunks_given}
use Rattle.receiver.specs.Hears.{Gave, IsToldOf, ready_chunks, story_chunks}
use Rattle.receiver.specs.Hears as ear
use Rattle.leg.specs.declared.steps.LegStep.{LegStep}
use Rattle.leg.specs.declared.steps.LegStep.TheVariants as step
use Rattle.leg.specs.declared.legs.Leg.{Leg}

-- ---- the past of a leg

-- It is to hear the source `settings.ssrc` in a recording of these octets, at most `limit`, and gave these chunks so
-- far, oldest first.
pub record LegPast : Type 0 where
  pub settings : EarSettings
  pub limit : ℕ
  pub octets : List ℕ
  pub gave : List Chunk

-- nothing was given yet
abbrev pub begins : EarSettings → ℕ → List ℕ → LegPast
begins settings limit octets = record { settings = settings; limit = limit; octets = octets; gave = [] }

-- one more chunk
abbrev pub gave_chunk : LegPast → Chunk → LegPast
gave_chunk past c = record past { gave = past.gave ++ c ∷ [] }

abbrev pub recording_of : LegPast → Recording
recording_of past = dump past.limit past.octets

-- what comes by these records behind others, newest first
abbrev pub came_after : EarSettings → List Arrival → List Item → List Arrival
came_after settings came items =
    arrivals_within (primary_limit settings.long) settings.ssrc settings.payload_types came items

-- what comes of the recording
abbrev pub came_of : LegPast → List Arrival
came_of past = came_after past.settings [] (recording_of past).items

-- what is handed out of all chunks of the recording, whose source is 0: whose they are is set by who mixes
abbrev pub chunks_of : LegPast → List Chunk
chunks_of past = chunks_given past.settings.cut (chunks past.settings.wait 0 (came_of past) past.settings.ssrc)

-- ---- what it answers

-- nothing comes after this answer
abbrev pub is_last : Result LegStep DumpFault → Bool
is_last (Ok step.Chunk) = false
is_last (Ok step.More) = false
is_last (Ok step.End) = true
is_last (Err fault) = true

-- ---- what it stands for

-- The records that are still to come, after those of which the ear was told, are those of the recording.
pub record IsRead (past : LegPast) (story : Story) (rest : Recording) : Type 0 where
  pub came : List Arrival
  pub told : IsToldOf story came
  pub same : came_after past.settings came rest.items ≡ came_of past
  pub fault : rest.fault ≡ (recording_of past).fault

-- the ear was told of the whole recording, and of its end
pub record IsWhole (past : LegPast) (story : Story) : Type 0 where
  pub came : story.past ≡ came_of past
  pub ready : ready_chunks past.settings past.settings.ssrc story ≡ story_chunks past.settings past.settings.ssrc story
  pub no_fault : (recording_of past).fault ≡ None

module _ {S : Type 0} where
  -- it gave its last answer
  abbrev pub is_over : Leg S → Bool
  is_over leg = leg.over

  -- all that is ready by now was given
  abbrev pub is_quiet : Leg S → Bool
  is_quiet leg = ear.is_quiet leg.ear

  -- how many records it may still read, at most
  abbrev pub unread : Leg S → ℕ
  unread leg = most_answers leg.reader

  -- what it reads from
  abbrev pub source_of : Leg S → S
  source_of leg = reading.source_of leg.reader

  pub data Phase (left : S → List ℕ) (reader : DumpReader S) (past : LegPast) (story : Story) : Type 0 where
    Within : is_ended reader ≡ false → IsRead past story (to_come left reader) → Phase left reader past story
    Behind : is_ended reader ≡ true → IsWhole past story → Phase left reader past story

  -- it has this past
  pub record Stands (left : S → List ℕ) (leg : Leg S) (past : LegPast) : Type 0 where
    pub story : Story
    pub gave : Gave leg.ear past.settings past.settings.ssrc story past.gave
    pub phase : Phase left leg.reader past story

  -- one step of a leg with this past, in which this chunk was handed out
  abbrev pub Steps : (S → List ℕ) → Result LegStep DumpFault → Chunk → LegPast → Leg S → Type 0
  Steps left (Ok step.Chunk) c past leg = Stands left leg (gave_chunk past c)
  Steps left (Ok step.More) c past leg = Stands left leg past
  Steps left (Ok step.End) c past leg = (past.gave ≡ chunks_of past) × ((recording_of past).fault ≡ None)
  Steps left (Err fault) c past leg = IsFaultOf (recording_of past) fault

  -- whatever past it had, it has one more step behind it
  abbrev pub Follows : (S → List ℕ) → Leg S → Leg S → Result LegStep DumpFault → Chunk → Type 0
  Follows left old new result c = (past : LegPast) → Stands left old past → Steps left result c past new
