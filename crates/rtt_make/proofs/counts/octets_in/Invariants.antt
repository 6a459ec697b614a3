use Rattle.std.proofs.Common.{◌≡◌, length, take}
use Rattle.std.specs.List.{sum_by}
use Rattle.command_spec.specs.Scripts.{text_of_lines}
use Rattle.rtt_make.proofs.counts.octets_in.Given as goal

abbrev pub invariant-loop-script : goal.invariant-loop-script
invariant-loop-script l = l.octets ≡ sum_by (λ s. length (text_of_lines s)) (take l.script-index l.scripts)
