use Rattle.std.proofs.Common.{◌≡◌, drop}
use Rattle.recorded_links.specs.Notes.{entries_in}
use Rattle.recorded_links.specs.Writing.{TouchesOwn}
use Rattle.recorded_links.proofs.Taking.{Reaches}
use Rattle.recorded_links.proofs.tracks.note_each.Given as goal

abbrev pub invariant-loop-note : goal.invariant-loop-note
invariant-loop-note g l = record {
  named : (l.recorder.stem ≡ l.fn.recorder.stem) × (l.recorder.start ≡ l.fn.recorder.start);
  others : g.J.Journals.tells → TouchesOwn g.J.Journals.contents l.fn.journals l.journals l.fn.recorder.stem;
  reaches : g.J.Journals.tells → Reaches g.J.File.Sink (g.J.Journals.contents l.fn.journals) (g.J.Journals.contents l.journals) l.fn.recorder l.recorder
      (entries_in l.fn.notes l.fn.octets) (entries_in (drop l.note-index l.notes) l.rest);
}
