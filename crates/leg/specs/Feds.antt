-- What a leg that is read by who mixes gave of its recording.
use Rattle.std.specs.Prelude.{◌≡◌, ◌<◌, ◌≤◌, ℕ, Bool, false, not, None, Result, Ok, Err, List, []}
use Rattle.wire_spec.specs.declared.faults.DumpKind.TheVariants.{Read}
use Rattle.wire_spec.specs.Dump.{Recording}
use Rattle.stream_spec.specs.Ready.{Chunk}
use Rattle.rtt_io.specs.Counts.{Rose}
use Rattle.rtpdump_io.specs.declared.items.DumpFault.{DumpFault}
use Rattle.rtpdump_io.specs.Reading.{IsFaultOf, is_of_source}
use Rattle.receiver.specs.declared.settings.EarSettings.{EarSettings}
use Rattle.leg.specs.declared.steps.LegStep.{LegStep}
use Rattle.leg.specs.declared.steps.LegStep.TheVariants as step
use Rattle.leg.specs.declared.legs.Leg.{Leg}
use Rattle.leg.specs.Gives.{LegPast, Stands, chunks_of, recording_of, is_over, source_of, unread}
use Rattle.mix_loop.specs.declared.items.Item.{Item}
use Rattle.mix_loop.specs.declared.items.Item.TheVariants as item
use Rattle.mix_loop.specs.declared.items.TextsEnd.{TextsEnd}
use Rattle.mix_loop.specs.declared.items.TextsEnd.TheVariants.{Open, AtEnd, AtFault}
use Rattle.mix_loop.specs.Items.{Gave, is_open}
use Rattle.leg.specs.declared.inlets.LegInlet.{LegInlet}

-- what a leg is asked for: what it hears, in a recording of these octets, at most `limit`
pub record Asked : Type 0 where
  pub settings : EarSettings
  pub limit : ℕ
  pub octets : List ℕ

-- where it gave these chunks
abbrev pub past_of : Asked → List Chunk → LegPast
past_of a heard = record { settings = a.settings; limit = a.limit; octets = a.octets; gave = heard }

abbrev pub recording_asked : Asked → Recording
recording_asked a = recording_of (past_of a [])

-- all that is handed out of the recording, whose source is 0
abbrev pub chunks_asked : Asked → List Chunk
chunks_asked a = chunks_of (past_of a [])

-- what an answer of a leg comes to
abbrev pub item_for : Result LegStep DumpFault → Item DumpFault
item_for (Ok step.Chunk) = item.Chunk
item_for (Ok step.More) = item.Later
item_for (Ok step.End) = item.End
item_for (Err fault) = item.Fault fault

-- by how a leg's texts ended, a reading of its source failed
abbrev pub is_source_fault : TextsEnd DumpFault → Bool
is_source_fault Open = false
is_source_fault AtEnd = false
is_source_fault (AtFault fault) = is_of_source fault.kind

module _ {S : Type 0} where
  -- a leg that gave these chunks, by how they ended
  abbrev pub GivesAs : (S → List ℕ) → Leg S → Asked → List Chunk → TextsEnd DumpFault → Type 0
  GivesAs left leg a chunks Open = Stands left leg (past_of a chunks)
  GivesAs left leg a chunks AtEnd = (chunks ≡ chunks_asked a) × ((recording_asked a).fault ≡ None)
  GivesAs left leg a chunks (AtFault fault) = IsFaultOf (recording_asked a) fault

  -- From `first` on, which gave nothing, this was given, and now it is `now`.
  pub record Fed (tells : Type 0) (left : S → List ℕ) (faults : S → ℕ) (name : S → List ℕ) (first now : LegInlet S) (gave : Gave DumpFault) : Type 0 where
    pub open_still : is_open gave.ended ≡ not (is_over now.leg)
    pub gives : tells → (a : Asked) → Stands left first.leg (past_of a [])
        → GivesAs left now.leg a gave.chunks gave.ended
    pub never_falls : faults (source_of first.leg) ≤ faults (source_of now.leg)
    pub read : (fault : DumpFault) → gave.ended ≡ AtFault fault → fault.kind ≡ Read
        → Rose (faults (source_of first.leg)) (faults (source_of now.leg))
    pub calm : is_source_fault gave.ended ≡ false → faults (source_of now.leg) ≡ faults (source_of first.leg)
    pub same_name : name (source_of now.leg) ≡ name (source_of first.leg)

  -- A step of the leg that gave nothing: a record was read.
  abbrev pub GetsOn : LegInlet S → LegInlet S → Type 0
  GetsOn old new = unread new.leg < unread old.leg
