use Rattle.std.proofs.Common.{◌≡◌, ◌-◌, List, map}
use Rattle.command_spec.specs.Draws.{times}
use Rattle.command_spec.specs.Generated.{Typist, typist}
use Rattle.rtt_make.proofs.Times.{and_more}
use Rattle.rtt_make.proofs.conferences.draw_typed.Given as goal

abbrev pub invariant-loop : goal.invariant-loop
invariant-loop l = record {
  front : List Typist;
  scripts : l.scripts ≡ map (λ t. t.script) front;
  seqs : l.seqs ≡ map (λ t. t.first) front;
  drawn : times l.legs typist l.fn.draws ≡ and_more front typist (l.legs - l.counter) l.draws;
}
