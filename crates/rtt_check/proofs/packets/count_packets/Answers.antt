use Rattle.std.proofs.Common.{[], ◌∷◌, ◌++◌, refl, sym, ap, ◌∙◌, arith, length-append}
use Rattle.wire_spec.specs.Dump.{Recording}
use Rattle.rtpdump_io.specs.Answers.{record_of}
use Rattle.rtpdump_io.proofs.Records.{all_read, more_read, none_read, read_partly, read_to_end}
use Rattle.report_spec.specs.Checking.{packets_in}
use Rattle.rtt_check.proofs.Counting.{few_packets, one_more}
use Rattle.rtt_check.proofs.packets.count_packets.Goals as goal

pub loop-item-init : goal.loop-item-init
loop-item-init g c = record {
  items = [];
  read = none_read g.S.Source.tells g.S.Source.left g.S.Source.faults g.S.Source.name c.args.reader.now;
  packets_are = refl;
  few = omega arith;
}

pub loop-item-preserved : goal.loop-item-preserved
loop-item-preserved g c =
    let i = c.loop-item.invariant in
    let came = record_of c.in-Some.item c.next_record.new.out in
    let read = more_read g.S.Source.tells g.S.Source.left g.S.Source.faults g.S.Source.name c.args.reader.now c.loop-item.reader c.next_record.new.self i.items c.next_record.new.out i.read c.in-Some.item c.next_record.new.out refl (rw c.in-Some.is at c.in_ok-item.ensures) in
    let counted = c.packets_of-packets.ensures c.next_record.new.out in
    record {
      items = i.items ++ came ∷ [];
      read = read;
      packets_are = omega (arith, i.packets_are, counted, one_more i.items came);
      few = omega (arith, i.packets_are, counted, one_more i.items came, few_packets (i.items ++ came ∷ []), read.few);
    }

pub returns-clause-packets : goal.returns-clause-packets
returns-clause-packets g c = λ t.
    let whole = all_read g.S.Source.tells g.S.Source.left g.S.Source.faults g.S.Source.name c.args.reader.now c.loop-item.reader c.next_record.new.self c.loop-item.invariant.items c.next_record.new.out c.loop-item.invariant.read (rw c.in_default.is at c.in_ok-item.ensures) t in
    c.loop-item.invariant.packets_are ∙ ap (λ (r : Recording). packets_in r.items) (sym whole)

pub returns-clause-reads : goal.returns-clause-reads
returns-clause-reads g c = read_to_end g.S.Source.tells g.S.Source.left g.S.Source.faults g.S.Source.name c.args.reader.now c.loop-item.reader c.next_record.new.self c.loop-item.invariant.items c.next_record.new.out c.loop-item.invariant.read c.loop-item.packets (rw c.in_default.is at c.in_ok-item.ensures)
