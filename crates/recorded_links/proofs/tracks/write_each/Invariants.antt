use Rattle.std.specs.Arc.{arc_value}
use Rattle.recorded_links.specs.Calls.{call_track}
use Rattle.recorded_links.specs.Shelves.{taken}
use Rattle.recorded_links.proofs.Others.{Written}
use Rattle.recorded_links.proofs.tracks.write_each.Given as goal

abbrev pub invariant-loop-number : goal.invariant-loop-number
invariant-loop-number g l = Written g.J.File.Sink g.J.Journals.tells (λ t. call_track t.port t.way t.recorder.stem t.recorder.start (arc_value t.shelf)) (λ t. t.recorder) (λ t. taken t.pass) (g.J.Journals.contents l.fn.journals) (g.J.Journals.contents l.journals) l.fn.tracks.items l.tracks.items
