use Rattle.std.proofs.Common.{[], ◌∷◌, ◌++◌, arith, length-append}
use Rattle.rtpdump_io.specs.Answers.{record_of}
use Rattle.rtpdump_io.proofs.Records.{all_came, more_read, read_partly, read_to_end}
use Rattle.terminal.specs.Told.{Takes}
use Rattle.recording_views.proofs.Hearing.{begins, hears_more}
use Rattle.recording_views.proofs.reads.listen.Goals as goal

pub loop-item-init : goal.loop-item-init
loop-item-init g c = begins g.S.Source.tells g.S.Source.left g.S.Source.faults g.S.Source.name c.args.reader.now c.args.terminal.now c.requires.open c.requires.few

pub loop-item-preserved : goal.loop-item-preserved
loop-item-preserved g c =
    let i = c.loop-item.invariant in
    let told = record_of c.in-Some.item c.as_slice.result.now in
    record {
      items = i.items ++ told ∷ [];
      read = more_read g.S.Source.tells g.S.Source.left g.S.Source.faults g.S.Source.name c.args.reader.now c.loop-item.reader c.next_record.new.self i.items c.next_record.new.out i.read
          c.in-Some.item c.as_slice.result.now c.as_slice.ensures.value (rw c.in-Some.is at c.in_ok-item.ensures);
      open_still = c.in_ok-hear_record.ensures.open;
      few = omega (arith, c.in_ok-hear_record.ensures.few, i.few, length-append i.items (told ∷ []));
      hears = hears_more c.args.terminal.now c.loop-item.terminal c.hear_record.new.terminal i.items told i.hears c.in_ok-hear_record.ensures.hears;
    }

pub returns-clause-hears : goal.returns-clause-hears
returns-clause-hears g c = all_came g.S.Source.tells g.S.Source.left g.S.Source.faults g.S.Source.name c.args.reader.now c.loop-item.reader c.next_record.new.self c.loop-item.invariant.items c.next_record.new.out c.loop-item.invariant.read (λ items. Takes c.args.terminal.now items c.loop-item.terminal) c.loop-item.invariant.hears (rw c.in_default.is at c.in_ok-item.ensures)

pub returns-clause-few : goal.returns-clause-few
returns-clause-few g c = omega (arith, c.loop-item.invariant.few, c.loop-item.invariant.read.few)

pub returns-clause-reads : goal.returns-clause-reads
returns-clause-reads g c = read_to_end g.S.Source.tells g.S.Source.left g.S.Source.faults g.S.Source.name c.args.reader.now c.loop-item.reader c.next_record.new.self c.loop-item.invariant.items c.next_record.new.out c.loop-item.invariant.read tt (rw c.in_default.is at c.in_ok-item.ensures)

pub returns-in_err-hear_record-clause-reads : goal.returns-in_err-hear_record-clause-reads
returns-in_err-hear_record-clause-reads g c =
    read_partly g.S.Source.tells g.S.Source.left g.S.Source.faults g.S.Source.name c.args.reader.now c.loop-item.reader c.next_record.new.self c.loop-item.invariant.items c.next_record.new.out c.loop-item.invariant.read c.in_ok-item.field-0 c.from_residual-in_err-hear_record.result c.from_residual-in_err-hear_record.ensures.1 c.in_ok-item.ensures
