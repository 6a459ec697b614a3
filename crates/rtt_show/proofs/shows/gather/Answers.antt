use Rattle.std.proofs.Common.{◌≡◌, false, [], ◌∷◌, ◌++◌, length, refl, sym, ap, subst, ◌∙◌, arith, length-append}
use Rattle.rtpdump_io.specs.Reading.{to_come}
use Rattle.wire_spec.specs.Dump.{with_item}
use Rattle.rtpdump_io.specs.Answers.{is_end, record_of}
use Rattle.rtpdump_io.proofs.Records.{gives_item, not_end, not_last, most_few}
use Rattle.rtt_show.specs.Finds.{IsSmall}
use Rattle.rtt_show.proofs.Gathering.{one_more}
use Rattle.rtt_show.proofs.shows.gather.Goals as goal

pub loop-item-init : goal.loop-item-init
loop-item-init g c = record {
  items = [];
  not_ended = c.requires.open;
  payload_types = refl;
  is_found = c.requires.nothing;
  small = c.requires.small;
  few = omega (arith, most_few c.args.reader.now.stage c.args.reader.now.offset);
  never_falls = omega arith;
  same_name = refl;
  is = λ t. refl;
}

pub loop-item-preserved : goal.loop-item-preserved
loop-item-preserved g c =
    let i = c.loop-item.invariant in
    let item = c.in-Ok.item in
    let more : is_end item ≡ false = not_end item c.in_default.not-End in
    let told = record_of item c.as_slice.result.now in
    let now = to_come g.S.Source.left c.loop-item.reader in
    let next = to_come g.S.Source.left c.next.new.self in
    let longer = length-append i.items (told ∷ []) in
    record {
      items = i.items ++ told ∷ [];
      not_ended = c.in-Ok.ensures.ended ∙ not_last item more;
      payload_types = c.take.ensures.payload_types ∙ i.payload_types;
      is_found = c.in-Ok-take.ensures.more i.items i.is_found;
      small = subst (λ n. IsSmall n c.take.new.self) (sym longer) (c.in-Ok-take.ensures.small (length i.items) i.small);
      few = omega (arith, longer, c.in-Ok.ensures.nearer, i.few);
      never_falls = omega (arith, c.in-Ok.ensures.never_falls, i.never_falls);
      same_name = c.in-Ok.ensures.same_name ∙ i.same_name;
      is = one_more g.S.Source.tells (to_come g.S.Source.left c.args.reader.now) now next i.items told i.is
          (λ t. gives_item item c.next.new.out now next more (c.in-Ok.ensures.gives t) ∙ ap (λ o. with_item (record_of item o) next) (sym c.as_slice.ensures.value));
    }
