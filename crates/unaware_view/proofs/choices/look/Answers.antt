use Rattle.unaware_view.proofs.choices.look.Goals as goal
use Rattle.std.proofs.Common.{rules, ◌<◌, length, length-set, false, ◌∙◌}
use Rattle.mixer_spec.specs.Composed.{waits_here}
use Rattle.unaware_view.proofs.Flags.{flag_step}

pub loop-i-preserved : goal.loop-i-preserved
loop-i-preserved c =
    let l : c.loop-i.i < length c.loop-i.waits = search rules in
    record {
      legs = length-set c.loop-i.waits c.loop-i.i c.waits_here-here.result ∙ c.loop-i.invariant.legs;
      flags = λ s t h k b. flag_step c.loop-i.waits c.loop-i.i c.waits_here-here.result false (waits_here c.args.own (t.terminals c.args.own).waits) l (c.loop-i.invariant.flags s t h) (c.waits_here-here.ensures s t h) k b;
    }

pub returns-clause-waits : goal.returns-clause-waits
returns-clause-waits c = λ s t h i b. let l : i < c.loop-i.i = search rules in c.loop-i.invariant.flags s t h i l
