use Rattle.std.proofs.Common.{◌≡◌, ◌++◌}
use Rattle.std.specs.Prelude.{flat_map}
use Rattle.std.specs.List.{concat}
use Rattle.view_spec.specs.Views.{source_view}
use Rattle.sent_log.specs.States.{OfTerminal, sents}
use Rattle.rtt_mix.specs.SentViews.{said_of}
use Rattle.rtt_mix.proofs.SentViews.{from_on}
use Rattle.rtt_mix.proofs.sent_views.add_said.Given as goal

-- what was added so far and what is still to come is all
abbrev pub invariant-loop-place : goal.invariant-loop-place
invariant-loop-place l = OfTerminal l.log l.terminal (λ x. concat l.pieces.items ++ from_on l.names l.sources (sents x.sent) l.place ≡ concat l.fn.pieces.items ++ flat_map source_view (said_of l.names l.sources (sents x.sent)))
