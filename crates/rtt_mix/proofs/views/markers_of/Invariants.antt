use Rattle.std.proofs.Common.{◌≡◌, take}
use Rattle.std.specs.List.{sum_by}
use Rattle.terminal.specs.Terminals.{texts_of}
use Rattle.rtt_mix.proofs.views.markers_of.Given as goal

abbrev pub invariant-loop-text : goal.invariant-loop-text
invariant-loop-text l = l.markers ≡ sum_by (λ text. text.markers) (take l.text-index (texts_of l.terminal))
