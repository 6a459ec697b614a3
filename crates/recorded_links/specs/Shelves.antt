-- What a clause says of a shelf and of its two ends.
use Rattle.std.specs.Prelude.{◌≡◌, Option, None, Some, List, [], ◌++◌}
use Rattle.crossbeam_queue.specs.Passes.{view, IsPassOf}
use Rattle.recorded_links.specs.declared.batches.Batch.{Batch}
use Rattle.recorded_links.specs.declared.rule.NotedEntry.{NotedEntry}
use Rattle.recorded_links.specs.declared.passes.Shelf.{Shelf}
use Rattle.recorded_links.specs.declared.passes.NotePass.{NotePass}
use Rattle.recorded_links.specs.declared.passes.TakePass.{TakePass}
use Rattle.recorded_links.specs.Rule.{entries_of}

-- all that was noted at this end, oldest first
abbrev pub noted : NotePass → List NotedEntry
noted p = (view p.pass).noted

-- what was lifted from the shelf at this end, and not yet laid down
abbrev pub hand : NotePass → List NotedEntry
hand p = (view p.pass).hand

-- all that was taken away at this end, oldest first
abbrev pub taken : TakePass → List NotedEntry
taken p = (view p.pass).taken

-- the end is one of this shelf's
abbrev pub IsNoteOf : Shelf → NotePass → Type 0
IsNoteOf s p = IsPassOf s.line p.pass

abbrev pub IsTakeOf : Shelf → TakePass → Type 0
IsTakeOf s p = IsPassOf s.line p.pass

abbrev pub entries_if : Option Batch → List NotedEntry
entries_if None = []
entries_if (Some b) = entries_of b

-- the batch begins with this, and goes on
abbrev pub BeginsWith : List NotedEntry → Batch → Type 0
BeginsWith front b = (more : List NotedEntry) × (entries_of b ≡ front ++ more)
