use Rattle.std.proofs.Common.{subst, sym}
use Rattle.rtpdump_io.specs.Entries.{entries_to_come}
use Rattle.rtpdump_io.specs.Reading.{source_of, to_come}
use Rattle.rtt_attend.specs.Heard.{IsRead}
use Rattle.rtt_attend.proofs.Records.{heard_input}
use Rattle.rtt_attend.proofs.inputs.hear_input.Goals as goal

pub returns-clause-hears : goal.returns-clause-hears
returns-clause-hears g c = λ t.
    heard_input c.args.limit c.args.sender (g.S.Source.left c.args.source) (entries_to_come g.S.Source.left c.with_limit-reader.result) (to_come g.S.Source.left c.with_limit-reader.result) c.hear_records-said.result c.with_limit-reader.ensures.entries c.with_limit-reader.ensures.to_come (c.hear_records-said.ensures.hears t)

pub returns-clause-read : goal.returns-clause-read
returns-clause-read g c =
    subst (λ (s : g.row.S.Denot). IsRead g.S.Source.faults g.S.Source.name c.hear_records-said.result s c.into_source.result) c.with_limit-reader.ensures.source
    (subst (λ (s : g.row.S.Denot). IsRead g.S.Source.faults g.S.Source.name c.hear_records-said.result (source_of c.with_limit-reader.result) s) (sym c.into_source.ensures) c.hear_records-said.ensures.read)
