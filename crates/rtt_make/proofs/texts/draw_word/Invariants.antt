use Rattle.std.proofs.Common.{◌≡◌, ◌-◌}
use Rattle.command_spec.specs.Draws.{times}
use Rattle.command_spec.specs.Generated.{letter}
use Rattle.rtt_make.proofs.Times.{and_more}
use Rattle.rtt_make.proofs.texts.draw_word.Given as goal

abbrev pub invariant-loop : goal.invariant-loop
invariant-loop l = times l.letters letter l.fn.draws ≡ and_more l.word letter (l.letters - l.counter) l.draws
