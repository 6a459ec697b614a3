use Rattle.std.proofs.Common.{[], ◌∷◌, ◌++◌, arith, length-append}
use Rattle.wire_spec.specs.Dump.{arrivals_with}
use Rattle.rtpdump_io.specs.Answers.{record_of}
use Rattle.rtpdump_io.proofs.Records.{all_came, more_read, none_read, read_partly, read_to_end}
use Rattle.cascade.specs.Splits.{TakesItems}
use Rattle.cascade.proofs.Hearing.{takes_more}
use Rattle.cascade.proofs.splits.listen.Goals as goal

pub loop-item-init : goal.loop-item-init
loop-item-init g c = record {
  items = [];
  read = none_read g.S.Source.tells g.S.Source.left g.S.Source.faults g.S.Source.name c.args.reader.now;
  listens = c.requires.listens;
  few = omega (arith, c.requires.few);
  hears = λ t sources past h. h;
}

pub loop-item-preserved : goal.loop-item-preserved
loop-item-preserved g c =
    let i = c.loop-item.invariant in
    let told = record_of c.in-Some.item c.as_slice.result.now in
    let r = i.listens in
    record {
      items = i.items ++ told ∷ [];
      read = more_read g.S.Source.tells g.S.Source.left g.S.Source.faults g.S.Source.name c.args.reader.now c.loop-item.reader c.next_record.new.self i.items c.next_record.new.out i.read
          c.in-Some.item c.as_slice.result.now c.as_slice.ensures.value (rw c.in-Some.is at c.in_ok-item.ensures);
      listens = (r.0, r.1, arrivals_with r.0.ssrc r.0.payload_types told r.2, c.in_ok-hear_record.ensures.takes r.0 r.1 r.2 r.3);
      few = omega (arith, c.in_ok-hear_record.ensures.arrivals, i.few, length-append i.items (told ∷ []));
      hears = takes_more c.args.divider.now c.loop-item.divider c.hear_record.new.divider i.items told i.hears c.in_ok-hear_record.ensures.takes;
    }

pub returns-clause-hears : goal.returns-clause-hears
returns-clause-hears g c = all_came g.S.Source.tells g.S.Source.left g.S.Source.faults g.S.Source.name c.args.reader.now c.loop-item.reader c.next_record.new.self c.loop-item.invariant.items c.next_record.new.out c.loop-item.invariant.read (TakesItems c.args.divider.now c.loop-item.divider) c.loop-item.invariant.hears (rw c.in_default.is at c.in_ok-item.ensures)

pub returns-clause-reads : goal.returns-clause-reads
returns-clause-reads g c = read_to_end g.S.Source.tells g.S.Source.left g.S.Source.faults g.S.Source.name c.args.reader.now c.loop-item.reader c.next_record.new.self c.loop-item.invariant.items c.next_record.new.out c.loop-item.invariant.read tt (rw c.in_default.is at c.in_ok-item.ensures)

pub returns-in_err-hear_record-clause-reads : goal.returns-in_err-hear_record-clause-reads
returns-in_err-hear_record-clause-reads g c =
    read_partly g.S.Source.tells g.S.Source.left g.S.Source.faults g.S.Source.name c.args.reader.now c.loop-item.reader c.next_record.new.self c.loop-item.invariant.items c.next_record.new.out c.loop-item.invariant.read c.in_ok-item.field-0 c.from_residual-in_err-hear_record.result c.from_residual-in_err-hear_record.ensures.1 c.in_ok-item.ensures
