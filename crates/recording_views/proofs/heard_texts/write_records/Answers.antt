use Rattle.std.proofs.Common.{[], ◌∷◌, ◌++◌, List, ℕ, sym, ap, ◌∙◌, arith, length-append}
use Rattle.wire_spec.specs.Dump.{with_item}
use Rattle.rtpdump_io.specs.Reading.{to_come}
use Rattle.rtpdump_io.specs.Answers.{record_of}
use Rattle.rtpdump_io.proofs.Records.{more_read, none_read, read_partly, read_to_end}
use Rattle.recording_views.proofs.Writing.{all_written, some_more, some_none}
use Rattle.recording_views.proofs.heard_texts.write_records.Goals as goal

pub loop-item-init : goal.loop-item-init
loop-item-init g c = record {
  items = [];
  read = none_read g.S.Source.tells g.S.Source.left g.S.Source.faults g.S.Source.name c.args.reader.now;
  giving = c.requires.giving;
  quiet = c.requires.quiet;
  open_still = c.requires.open;
  few = omega (arith, c.requires.none);
  written = some_none (g.W.TextWriter.wrote c.args.writer.now) g.S.Source.tells (to_come g.S.Source.left c.args.reader.now) c.args.ear.now c.args.out.now;
}

pub loop-item-preserved : goal.loop-item-preserved
loop-item-preserved g c =
    let i = c.loop-item.invariant in
    let told = record_of c.in-Some.item c.as_slice.result.now in
    let next = to_come g.S.Source.left c.next_record.new.self in
    let read = rw c.in-Some.is at c.in_ok-item.ensures in
    let said = c.in_ok-write_record.ensures in
    record {
      items = i.items ++ told ∷ [];
      read = more_read g.S.Source.tells g.S.Source.left g.S.Source.faults g.S.Source.name c.args.reader.now c.loop-item.reader c.next_record.new.self i.items c.next_record.new.out i.read c.in-Some.item c.as_slice.result.now c.as_slice.ensures.value read;
      giving = said.giving;
      quiet = said.quiet;
      open_still = said.finished ∙ i.open_still;
      few = omega (arith, said.few, i.few, length-append i.items (told ∷ []));
      written = some_more (g.W.TextWriter.wrote c.args.writer.now) g.S.Source.tells (to_come g.S.Source.left c.args.reader.now) (to_come g.S.Source.left c.loop-item.reader) next c.args.ear.now c.loop-item.ear c.write_record.new.ear c.args.out.now c.loop-item.out c.write_record.new.out told i.written
          (λ t. read.came t ∙ ap (λ (o : List ℕ). with_item (record_of c.in-Some.item o) next) (sym c.as_slice.ensures.value)) said.writes;
    }

pub returns-clause-writes : goal.returns-clause-writes
returns-clause-writes g c =
    let read = rw c.in_default.is at c.in_ok-item.ensures in
    all_written (g.W.TextWriter.wrote c.args.writer.now) g.S.Source.tells (to_come g.S.Source.left c.args.reader.now) (to_come g.S.Source.left c.loop-item.reader) c.args.ear.now c.loop-item.ear c.args.out.now c.loop-item.out c.loop-item.invariant.written read.came

pub returns-clause-reads : goal.returns-clause-reads
returns-clause-reads g c = read_to_end g.S.Source.tells g.S.Source.left g.S.Source.faults g.S.Source.name c.args.reader.now c.loop-item.reader c.next_record.new.self c.loop-item.invariant.items c.next_record.new.out c.loop-item.invariant.read tt (rw c.in_default.is at c.in_ok-item.ensures)

pub returns-in_err-write_record-clause-reads : goal.returns-in_err-write_record-clause-reads
returns-in_err-write_record-clause-reads g c =
    read_partly g.S.Source.tells g.S.Source.left g.S.Source.faults g.S.Source.name c.args.reader.now c.loop-item.reader c.next_record.new.self c.loop-item.invariant.items c.next_record.new.out c.loop-item.invariant.read c.in_ok-item.field-0 c.from_residual-in_err-write_record.result c.from_residual-in_err-write_record.ensures.1 c.in_ok-item.ensures
