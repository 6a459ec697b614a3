use Rattle.std.proofs.Common.{List, ℕ, subst}
use Rattle.rtt_io.specs.Names.{CountsNoOther}
use Rattle.rtt_attend.proofs.Legs.{calm_read, failed_read}
use Rattle.rtt_attend.proofs.input_notes.hear_leg.Goals as goal

pub returns-clause-read : goal.returns-clause-read
returns-clause-read g c =
    failed_read g.W.World.tells g.W.Src.Source.left g.W.Src.Source.faults g.W.Src.Source.name c.hear_input-source.result.said c.args.source c.hear_input-source.result.source (g.W.World.object_faults c.args.world.now) (g.W.World.object_faults c.done_src.new.self)
    c.hear_input-source.ensures.read c.requires.fresh c.done_src.ensures.added

pub returns-clause-calm : goal.returns-clause-calm
returns-clause-calm g c =
    calm_read g.W.World.tells g.W.Src.Source.left g.W.Src.Source.faults g.W.Src.Source.name c.hear_input-source.result.said c.args.source c.hear_input-source.result.source (g.W.World.object_faults c.args.world.now) (g.W.World.object_faults c.done_src.new.self)
    c.hear_input-source.ensures.read c.requires.fresh c.done_src.ensures.calm

pub returns-clause-no_other : goal.returns-clause-no_other
returns-clause-no_other g c = λ t.
    subst (λ (n : List ℕ). CountsNoOther g.W.World.contents g.W.World.object_faults n c.args.world.now c.done_src.new.self) c.hear_input-source.ensures.read.same_name (c.done_src.ensures.no_other t)
