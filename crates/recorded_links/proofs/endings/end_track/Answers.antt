use Rattle.std.proofs.Common.{subst, sym}
use Rattle.recorded_links.specs.Ended.{HoldsAll}
use Rattle.recorded_links.specs.Shelves.{noted}
use Rattle.recorded_links.proofs.endings.end_track.Goals as goal

pub returns-then-whole-clause-whole : goal.returns-then-whole-clause-whole
returns-then-whole-clause-whole g c = λ tells has e.
    let w = c.in-Some.ensures.whole in
    (w.0, w.1, w.2, w.3, w.4, w.5, subst (λ p. HoldsAll c.args.track.recorder.stem c.args.track.recorder.start (g.J.Journals.contents c.end_whole-whole.new.journals) (noted p)) (sym w.6) (c.end_whole-whole.ensures.whole tells has c.if-whole.true))
