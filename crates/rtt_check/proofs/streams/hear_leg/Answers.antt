use Rattle.std.proofs.Common.{[], ◌∷◌, ◌++◌, false, ◌||◌, refl, sym, ap, ◌∙◌}
use Rattle.std.specs.List.{list_any}
use Rattle.std.specs.Option.{option_map_or}
use Rattle.wire_spec.specs.Dump.{Recording}
use Rattle.rtpdump_io.specs.Answers.{record_of}
use Rattle.rtpdump_io.proofs.Records.{all_read, more_read, none_read, read_to_end}
use Rattle.report_spec.specs.Inputs.{first_stream, is_of_leg, is_stream_of, or_later}
use Rattle.rtt_check.proofs.Hearing.{any_push, first_push}
use Rattle.rtt_check.proofs.streams.hear_leg.Goals as goal

pub loop-item-init : goal.loop-item-init
loop-item-init g c = record {
  items = [];
  read = none_read g.S.Source.tells g.S.Source.left g.S.Source.faults g.S.Source.name c.args.reader.now;
  heard_is = refl;
  first_is = refl;
}

pub loop-item-preserved : goal.loop-item-preserved
loop-item-preserved g c =
    let i = c.loop-item.invariant in
    let leg = c.args.leg.now in
    let came = record_of c.in-Some.item c.as_slice.result.now in
    let read = more_read g.S.Source.tells g.S.Source.left g.S.Source.faults g.S.Source.name c.args.reader.now c.loop-item.reader c.next_record.new.self i.items c.next_record.new.out i.read c.in-Some.item c.as_slice.result.now c.as_slice.ensures.value (rw c.in-Some.is at c.in_ok-item.ensures) in
    let stream = c.stream_of-stream.result in
    record {
      items = i.items ++ came ∷ [];
      read = read;
      heard_is = c.and_stream-so_far.ensures.heard
          ∙ (ap (λ b. b || option_map_or (is_stream_of leg) stream false) i.heard_is
          ∙ (ap (λ s. list_any (is_of_leg leg) i.items || option_map_or (is_stream_of leg) s false) c.stream_of-stream.ensures
          ∙ sym (any_push (is_of_leg leg) i.items came)));
      first_is = c.and_stream-so_far.ensures.first
          ∙ (ap (λ f. or_later f stream) i.first_is
          ∙ (ap (or_later (first_stream i.items)) c.stream_of-stream.ensures ∙ sym (first_push i.items came)));
    }

pub returns-clause-heard : goal.returns-clause-heard
returns-clause-heard g c = λ t.
    let whole = all_read g.S.Source.tells g.S.Source.left g.S.Source.faults g.S.Source.name c.args.reader.now c.loop-item.reader c.next_record.new.self c.loop-item.invariant.items c.next_record.new.out c.loop-item.invariant.read (rw c.in_default.is at c.in_ok-item.ensures) t in
    c.loop-item.invariant.heard_is ∙ ap (λ (r : Recording). list_any (is_of_leg c.args.leg.now) r.items) (sym whole)

pub returns-clause-first : goal.returns-clause-first
returns-clause-first g c = λ t.
    let whole = all_read g.S.Source.tells g.S.Source.left g.S.Source.faults g.S.Source.name c.args.reader.now c.loop-item.reader c.next_record.new.self c.loop-item.invariant.items c.next_record.new.out c.loop-item.invariant.read (rw c.in_default.is at c.in_ok-item.ensures) t in
    c.loop-item.invariant.first_is ∙ ap (λ (r : Recording). first_stream r.items) (sym whole)

pub returns-clause-reads : goal.returns-clause-reads
returns-clause-reads g c = read_to_end g.S.Source.tells g.S.Source.left g.S.Source.faults g.S.Source.name c.args.reader.now c.loop-item.reader c.next_record.new.self c.loop-item.invariant.items c.next_record.new.out c.loop-item.invariant.read c.loop-item.so_far (rw c.in_default.is at c.in_ok-item.ensures)
