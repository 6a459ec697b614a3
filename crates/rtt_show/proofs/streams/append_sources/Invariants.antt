use Rattle.std.proofs.Common.{◌≡◌, ◌++◌, drop, map}
use Rattle.std.specs.Prelude.{flat_map, decimal}
use Rattle.view_spec.specs.Views.{source_view}
use Rattle.terminal.specs.Views.{named}
use Rattle.rtt_show.proofs.streams.append_sources.Given as goal

-- what is printed so far and what is still to come is all
abbrev pub invariant-loop-index : goal.invariant-loop-index
invariant-loop-index l =
    l.out ++ flat_map source_view (named (map decimal (drop l.index l.sources)) (drop l.index l.texts)) ≡ l.fn.out ++ flat_map source_view (named (map decimal l.sources) l.texts)
