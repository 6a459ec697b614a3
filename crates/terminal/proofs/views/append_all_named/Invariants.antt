use Rattle.std.proofs.Common.{◌≡◌, ◌++◌, drop}
use Rattle.std.specs.Prelude.{flat_map}
use Rattle.view_spec.specs.Views.{source_view}
use Rattle.t140_text.specs.Displays.{Extends}
use Rattle.terminal.specs.Views.{named}
use Rattle.terminal.proofs.views.append_all_named.Given as goal

-- what is printed so far and what is still to come is all
abbrev pub invariant-loop-index : goal.invariant-loop-index
invariant-loop-index l = record {
  printed : l.out ++ flat_map source_view (named (drop l.index l.names) (drop l.index l.texts)) ≡ l.fn.out ++ flat_map source_view (named l.names l.texts);
  kept : Extends l.fn.out l.out;
}
