use Rattle.std.proofs.Common.{[], ◌∷◌, ◌++◌, List, ℕ, refl, sym, ap, ◌∙◌, arith, append-nil, length, length-append, flat_map}
use Rattle.rtt_base.specs.declared.text_packets.PayloadTypes.{PayloadTypes}
use Rattle.wire_spec.specs.Dump.{Recording}
use Rattle.rtpdump_io.specs.Answers.{record_of}
use Rattle.rtpdump_io.proofs.Records.{all_read, more_read, none_read, read_partly, read_to_end}
use Rattle.command_spec.specs.Listing.{record_line}
use Rattle.recording_views.proofs.Going.{one_listed}
use Rattle.recording_views.proofs.lists.append_records.Goals as goal

pub loop-item-init : goal.loop-item-init
loop-item-init g c = record {
  items = [];
  read = none_read g.S.Source.tells g.S.Source.left g.S.Source.faults g.S.Source.name c.args.reader.now;
  same_payload_types = c.new-lines.ensures;
  records_are = refl;
  few = omega arith;
  lines = sym (append-nil c.args.out.now);
}

pub loop-item-preserved : goal.loop-item-preserved
loop-item-preserved g c =
    let i = c.loop-item.invariant in
    let came = record_of c.in-Some.item c.as_slice.result.now in
    let read = more_read g.S.Source.tells g.S.Source.left g.S.Source.faults g.S.Source.name c.args.reader.now c.loop-item.reader c.next_record.new.self i.items c.next_record.new.out i.read c.in-Some.item c.as_slice.result.now c.as_slice.ensures.value (rw c.in-Some.is at c.in_ok-item.ensures) in
    record {
      items = i.items ++ came ∷ [];
      read = read;
      same_payload_types = c.make.ensures.same_payload_types ∙ i.same_payload_types;
      records_are = omega (arith, i.records_are, length-append i.items (came ∷ []));
      few = omega (arith, i.records_are, length-append i.items (came ∷ []), read.few);
      lines = one_listed c.args.payload_types c.args.out.now c.loop-item.out c.append.new.self i.items came i.lines
          (c.in_ok-append.ensures.ok ∙ ap (λ (o : List ℕ). c.loop-item.out ++ o) (c.line.ensures ∙ (c.make.ensures.line ∙ ap (λ (p : PayloadTypes). record_line p came) i.same_payload_types)));
    }

pub returns-clause-lines : goal.returns-clause-lines
returns-clause-lines g c = λ t.
    let whole = all_read g.S.Source.tells g.S.Source.left g.S.Source.faults g.S.Source.name c.args.reader.now c.loop-item.reader c.next_record.new.self c.loop-item.invariant.items c.next_record.new.out c.loop-item.invariant.read (rw c.in_default.is at c.in_ok-item.ensures) t in
    c.loop-item.invariant.lines ∙ ap (λ (r : Recording). c.args.out.now ++ flat_map (record_line c.args.payload_types) r.items) (sym whole)

pub returns-clause-records : goal.returns-clause-records
returns-clause-records g c = λ t.
    let whole = all_read g.S.Source.tells g.S.Source.left g.S.Source.faults g.S.Source.name c.args.reader.now c.loop-item.reader c.next_record.new.self c.loop-item.invariant.items c.next_record.new.out c.loop-item.invariant.read (rw c.in_default.is at c.in_ok-item.ensures) t in
    c.loop-item.invariant.records_are ∙ ap (λ (r : Recording). length r.items) (sym whole)

pub returns-clause-reads : goal.returns-clause-reads
returns-clause-reads g c = read_to_end g.S.Source.tells g.S.Source.left g.S.Source.faults g.S.Source.name c.args.reader.now c.loop-item.reader c.next_record.new.self c.loop-item.invariant.items c.next_record.new.out c.loop-item.invariant.read c.loop-item.records (rw c.in_default.is at c.in_ok-item.ensures)

pub returns-in_err-append-clause-reads : goal.returns-in_err-append-clause-reads
returns-in_err-append-clause-reads g c =
    read_partly g.S.Source.tells g.S.Source.left g.S.Source.faults g.S.Source.name c.args.reader.now c.loop-item.reader c.next_record.new.self c.loop-item.invariant.items c.next_record.new.out c.loop-item.invariant.read c.in_ok-item.field-0 c.from_residual-in_err-append.result c.from_residual-in_err-append.ensures.1 c.in_ok-item.ensures
