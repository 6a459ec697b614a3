-- The recordings of a call as they are begun.
use Rattle.std.specs.Prelude.{ℕ, ◌-◌, ◌^◌, min, List, map}
use Rattle.std.specs.Arc.{arc_value}
use Rattle.rtt_io.specs.declared.sinks.Sink as sinks
use Rattle.recorded_links.specs.declared.call_recordings.CallRecording.{CallRecording}
use Rattle.recorded_links.specs.declared.journals.Journals as journals
use Rattle.recorded_links.specs.declared.calls.CallTrack.{CallTrack}
use Rattle.recorded_links.specs.Calls.{Named, named, call_track}

-- a recording begins at the wall clock that it is told, or at the last that one tells
abbrev pub begun_at : ℕ → ℕ
begun_at start = min start (2 ^ 62 - 1)

module _ {J R F : Type 0} {g : journals.Ghosts J F} {s : sinks.Ghosts F} where
  abbrev pub recordings_of : CallRecording J R F g s → List CallTrack
  recordings_of c =
      map (λ t. call_track t.port t.way t.recorder.stem t.recorder.start (arc_value t.shelf)) c.tracks.items

  abbrev pub names_of : CallRecording J R F g s → List Named
  names_of c = map named (recordings_of c)
