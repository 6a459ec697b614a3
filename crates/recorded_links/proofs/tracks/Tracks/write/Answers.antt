use Rattle.std.proofs.Math.Logic.{∥∥₁_map}
use Rattle.std.proofs.Common.{refl, ◌∙◌}
use Rattle.std.specs.Arc.{arc_value}
use Rattle.recorded_links.specs.Calls.{call_track}
use Rattle.recorded_links.proofs.Others.{apart_of}
use Rattle.recorded_links.proofs.tracks.Tracks.write.Goals as goal

pub invariant_of-self-clause-have : goal.invariant_of-self-clause-have
invariant_of-self-clause-have g c = λ tells.
    ∥∥₁_map (c.args.self.now.have tells) (c.write_each.ensures.have tells (apart_of (λ t. call_track t.port t.way t.recorder.stem t.recorder.start (arc_value t.shelf)) (λ t. t.recorder) (λ x. refl)
    g.C.Call.recordings c.args.self.now.tracks.items c.args.self.now.are (c.args.self.now.apart tells)))
