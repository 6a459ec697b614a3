use Rattle.std.proofs.Common.{ℕ, List, ◌++◌, ap, sym, subst, ◌∙◌}
use Rattle.std.specs.Prelude.{All}
use Rattle.command_spec.specs.Streams.{stream_of, pair_of}
use Rattle.command_spec.specs.Showing.{end_line}
use Rattle.report_spec.specs.Showing.{start_line}
use Rattle.rtt_show.specs.declared.groups.Group.{Group}
use Rattle.rtt_show.specs.declared.views.Shape.TheVariants.{Stream, Pair}
use Rattle.rtt_show.specs.Whole.{IsGroupOf, AreShown, ends}
use Rattle.rtt_show.proofs.Showing.{ready, all_shown}
use Rattle.rtt_show.proofs.views.show_found.Goals as goal

pub show_groups-requires : goal.show_groups-requires
show_groups-requires c =
    let shape = Stream c.args.found.now.payload_types in
    subst (All (IsGroupOf shape)) (sym c.as_slice.ensures.value) (ready shape (stream_of c.args.found.now.payload_types) c.args.found.now.streams c.requires.found.0 c.requires.found.1 c.requires.found.2.streams)

pub show_groups-requires-2 : goal.show_groups-requires-2
show_groups-requires-2 c = subst (All (IsGroupOf Pair)) (sym c.as_slice-2.ensures.value) (ready Pair (pair_of c.args.found.now.payload_types) c.args.found.now.pairs c.requires.found.0 c.requires.found.1 c.requires.found.2.pairs)

pub returns : goal.returns
returns c = λ items few w.
    c.in_ok-append_start.ensures
    ∙ ap (λ (xs : List ℕ). xs ++ start_line c.args.start)
    (all_shown c.args.found.now items (end_line (ends c.args.end)) c.new-out.result c.show_groups.new.out c.show_groups-2.new.out c.append_others.new.out c.append_end.new.out w few c.new-out.ensures
    (subst (λ (gs : List Group). AreShown (Stream c.args.found.now.payload_types) gs c.new-out.result c.show_groups.new.out) c.as_slice.ensures.value c.in_ok-show_groups.ensures)
    (subst (λ (gs : List Group). AreShown Pair gs c.show_groups.new.out c.show_groups-2.new.out) c.as_slice-2.ensures.value c.in_ok-show_groups-2.ensures)
    c.in_ok-append_others.ensures c.in_ok-append_end.ensures)
