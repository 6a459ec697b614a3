use Rattle.std.proofs.Common.{refl, sym, ◌∙◌, subst}
use Rattle.rtt_show.specs.Strays.{Drains}
use Rattle.rtt_show.proofs.Following.{drains_none, drains_one}
use Rattle.rtt_show.proofs.strays.drain.Goals as goal

pub loop-due-init : goal.loop-due-init
loop-due-init c = record { drains = drains_none c.args.buffer.now; arrivals = refl }

pub loop-due-preserved : goal.loop-due-preserved
loop-due-preserved c = record {
  drains = drains_one c.args.buffer.now c.loop-due.buffer c.next.new.self c.in-Some.due c.loop-due.invariant.drains c.in-Some.ensures.some;
  arrivals = c.in-Some.ensures.arrivals ∙ c.loop-due.invariant.arrivals;
}

pub returns-clause-drains : goal.returns-clause-drains
returns-clause-drains c = subst (Drains c.args.buffer.now) (sym c.in_default.ensures.unchanged) c.loop-due.invariant.drains
