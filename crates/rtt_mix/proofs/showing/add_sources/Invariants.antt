use Rattle.std.proofs.Common.{◌≡◌, ◌++◌, drop}
use Rattle.std.specs.Prelude.{flat_map}
use Rattle.std.specs.List.{concat}
use Rattle.view_spec.specs.Views.{source_view}
use Rattle.terminal.specs.Views.{named}
use Rattle.rtt_mix.proofs.showing.add_sources.Given as goal

-- what was added so far and what is still to come is all
abbrev pub invariant-loop-index : goal.invariant-loop-index
invariant-loop-index l =
    concat l.pieces.items ++ flat_map source_view (named (drop l.index l.names) (drop l.index l.texts)) ≡ concat l.fn.pieces.items ++ flat_map source_view (named l.names l.texts)
