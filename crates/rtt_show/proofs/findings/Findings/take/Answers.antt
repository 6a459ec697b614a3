use Rattle.std.proofs.Common.{sym, ◌∙◌}
use Rattle.rtpdump_io.specs.Answers.{record_of}
use Rattle.rtt_show.proofs.Finding.{tallied, sort_without}
use Rattle.rtt_show.proofs.findings.Findings.take.Goals as goal

pub returns-clause-more : goal.returns-clause-more
returns-clause-more c =
    tallied c.args.self.now c.tally.new.self (record_of c.args.item c.args.octets.now) c.unread_of.result (sort_without c.args.item c.args.octets.now c.in_default.not-Packet ∙ sym c.unread_of.ensures) c.tally.ensures.tallied
