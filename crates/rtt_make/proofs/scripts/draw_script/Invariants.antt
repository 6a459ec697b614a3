use Rattle.std.proofs.Common.{◌≡◌, ◌+◌, ◌-◌, ◌*◌, ◌<◌}
use Rattle.command_spec.specs.Generated.{script_from}
use Rattle.rtt_make.proofs.Times.{and_script}
use Rattle.rtt_make.proofs.scripts.draw_script.Given as goal

abbrev pub invariant-loop : goal.invariant-loop
invariant-loop l = record {
  early : l.at < 1000 + l.counter * 1000;
  lines : script_from l.lines l.from l.fn.draws ≡ and_script l.script (l.lines - l.counter) l.at l.draws;
}
