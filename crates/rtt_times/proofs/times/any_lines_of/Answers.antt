use Rattle.std.proofs.Common.{◌∙◌, List, ap, arith, length, sym, subst}
use Rattle.std.specs.Prelude.{All}
use Rattle.rtt_show.specs.declared.first_sources.FirstSources.{FirstSources}
use Rattle.rtt_show.specs.declared.groups.Group.{Group}
use Rattle.rtt_times.specs.Found.{AreNumbered, AreTexted, IsStream, sum_others}
use Rattle.rtt_times.proofs.Telling.{all_told, are_streams, few_streams, lines_early}
use Rattle.rtt_times.proofs.times.any_lines_of.Goals as goal

pub add_all_numbers-requires : goal.add_all_numbers-requires
add_all_numbers-requires c = subst (All IsStream) (sym c.as_slice-streams.ensures.value) (are_streams c.args.found.now c.requires)

pub add_all_texts-requires-clause-streams : goal.add_all_texts-requires-clause-streams
add_all_texts-requires-clause-streams c = subst (All IsStream) (sym c.as_slice-streams.ensures.value) (are_streams c.args.found.now c.requires)

pub others_of-requires-clause-few : goal.others_of-requires-clause-few
others_of-requires-clause-few c =
    omega (arith, ap length c.as_slice-2.ensures.value, c.in_ok-named.ensures.each, ap length c.as_slice-streams.ensures.value, few_streams c.args.found.now c.requires)

pub returns-clause-told : goal.returns-clause-told
returns-clause-told c =
    let found = c.args.found.now in
    let named = c.in_ok-named.named.items in
    let one = c.new-lines.result in
    let two = c.add_all_numbers.new.lines in
    let three = c.add_all_texts.new.lines in
    let streams = c.as_slice-streams.ensures.value in
    all_told found named c.others_of.result one two three c.sort.new.self c.new-lines.ensures
    (subst (λ (gs : List Group). AreNumbered found.payload_types gs named one two) streams c.in_ok-named.ensures.numbers)
    (subst (λ (gs : List Group). AreTexted found.payload_types gs named two three) streams (subst (λ (ns : List FirstSources). AreTexted found.payload_types c.as_slice-streams.result.now ns two three) c.as_slice.ensures.value c.in_ok-add_all_texts.ensures))
    c.in_ok-sort.ensures (c.others_of.ensures ∙ ap sum_others c.as_slice-2.ensures.value)

pub returns-clause-early : goal.returns-clause-early
returns-clause-early c = lines_early c.args.found.now c.sort.new.self c.others_of.result (returns-clause-told c) c.requires
