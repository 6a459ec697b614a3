use Rattle.std.proofs.Common.{◌≡◌, ◌-◌, List}
use Rattle.file_spec.specs.declared.conference_lines.PlanLine.{PlanLine}
use Rattle.command_spec.specs.Draws.{times}
use Rattle.command_spec.specs.Generated.{plan_line, without_repeats}
use Rattle.rtt_make.proofs.Times.{and_more}
use Rattle.rtt_make.proofs.plans.draw_plan.Given as goal

abbrev pub invariant-loop : goal.invariant-loop
invariant-loop l = record {
  front : List PlanLine;
  kept : l.plan ≡ without_repeats front;
  drawn : times 200 (plan_line l.legs) l.fn.draws ≡ and_more front (plan_line l.legs) (200 - l.counter) l.draws;
}
