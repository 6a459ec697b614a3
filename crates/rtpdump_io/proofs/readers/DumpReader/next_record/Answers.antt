use Rattle.std.proofs.Common.{sym, ◌∙◌}
use Rattle.rtpdump_io.proofs.Records.{ended_read, item_read}
use Rattle.rtpdump_io.proofs.readers.DumpReader.next_record.Goals as goal

pub returns-then-ended : goal.returns-then-ended
returns-then-ended g c = ended_read g.S.Source.tells g.S.Source.left g.S.Source.faults g.S.Source.name c.args.self.now c.args.out.now (sym c.ended.ensures ∙ c.if-ended.true)

pub returns-in-Ok : goal.returns-in-Ok
returns-in-Ok g c = rw c.unless_end.ensures (item_read g.S.Source.tells g.S.Source.left g.S.Source.faults g.S.Source.name c.args.self.now c.next.new.self c.next.new.out c.in-Ok.item c.in-Ok.ensures)
