use Rattle.std.proofs.Common.{◌≡◌, ℕ, ◌<◌, ◌^◌, Option, List, ◌++◌, length, map, flat_map, drop}
use Rattle.std.specs.Prelude.{All}
use Rattle.wire_spec.specs.Dump.{Item}
use Rattle.command_spec.specs.Streams.{Sort, naming}
use Rattle.rtt_show.specs.Groups.{GroupHolds}
use Rattle.rtt_show.specs.Whole.{shape_view}
use Rattle.rtt_show.proofs.views.show_groups.Given as goal

-- what is printed so far and what is still to come is all
abbrev pub invariant-loop-index : goal.invariant-loop-index
invariant-loop-index l =
    (of : Sort → Option ℕ) (items : List Item) → length items < 2 ^ 32 → All (GroupHolds of items) l.fn.groups
    → l.out ++ flat_map (λ name. shape_view l.fn.shape name (naming of name items)) (map (λ group. group.name) (drop l.index l.fn.groups))
    ≡ l.fn.out ++ flat_map (λ name. shape_view l.fn.shape name (naming of name items)) (map (λ group. group.name) l.fn.groups)
