-- The recordings of a call, and the shelves on which they wait.
use Rattle.std.specs.Prelude.{◌≡◌, ℕ, List, [], ◌∷◌, ◌++◌, slice_get}
use Rattle.file_spec.specs.Conference.{port}
use Rattle.file_spec.specs.declared.conference_lines.LegLine.{LegLine}
use Rattle.std.specs.Prelude.{Option, None, Some}
use Rattle.recorded_links.specs.declared.calls.CallTrack.{CallTrack}
use Rattle.recorded_links.specs.declared.names.Way.{Way}
use Rattle.recorded_links.specs.declared.names.Way.TheVariants.{In, Out}
use Rattle.recorded_links.specs.declared.passes.Shelf.{Shelf}
use Rattle.recorded_links.specs.declared.passes.NotePass.{NotePass}
use Rattle.recorded_links.specs.Names.{stem_of}

-- at this end what is noted on the shelf is
abbrev pub IsEndOf : Shelf → NotePass → Type 0
IsEndOf s p = p.pass.table_id ≡ s.line.table.shared.table_id

-- two are ends of one shelf
abbrev pub IsSameEnd : NotePass → NotePass → Type 0
IsSameEnd old new = new.pass.table_id ≡ old.pass.table_id

abbrev pub call_track : (port : ℕ) → Way → (stem : List ℕ) → (start : ℕ) → Shelf → CallTrack
call_track port way stem start shelf = record { port = port; way = way; stem = stem; start = start; shelf = shelf }

-- what is noted at this end is of the recording with this number
abbrev pub WaitsOn : List CallTrack → ℕ → NotePass → Type 0
WaitsOn rs number pass = (r : CallTrack) → slice_get rs number ≡ Some r → IsEndOf r.shelf pass

-- what a recording is of, what the names of its files begin with, and the wall clock at moment 0
abbrev pub Named : Type 0
Named = ℕ × Way × List ℕ × ℕ

abbrev pub named : CallTrack → Named
named r = (r.port, r.way, r.stem, r.start)

-- the port at which a link of the leg hears; 0 where it has none
abbrev pub port_or_none : Option ℕ → ℕ
port_or_none None = 0
port_or_none (Some p) = p

abbrev pub leg_port : LegLine → ℕ
leg_port leg = port_or_none (port leg.input)

-- those of a leg
abbrev pub leg_named : List ℕ → ℕ → LegLine → List Named
leg_named prefix start leg =
    (leg_port leg, In, stem_of prefix leg.name In, start) ∷ (leg_port leg, Out, stem_of prefix leg.name Out, start) ∷ []

-- those of legs
abbrev pub legs_named : List ℕ → ℕ → List LegLine → List Named
legs_named prefix start [] = []
legs_named prefix start (leg ∷ legs) = leg_named prefix start leg ++ legs_named prefix start legs
