use Rattle.std.proofs.Common.{ap, sym, ◌∙◌}
use Rattle.wire_spec.specs.Dump.{sent_item}
use Rattle.rtt_show.specs.Finds.{unread_sort}
use Rattle.rtt_show.proofs.Finding.{tallied}
use Rattle.rtt_show.proofs.findings.Findings.take_packet.Goals as goal
use Rattle.rtt_show.proofs.findings.Findings.take_packet.Goals.{in-NoRtp, in-Rtcp}

pub returns-clause-more : goal.returns-clause-more
returns-clause-more c = elim c.match-sort_packet.branch [
  | in-NoRtp w ↦ tallied c.args.self.now c.tally.new.self (sent_item (c.args.at, c.args.octets.now)) c.match-sort_packet.unread (sym w.in-NoRtp.ensures ∙ ap unread_sort (sym w.unread-is)) c.tally.ensures.tallied
  | in-Rtcp w ↦ tallied c.args.self.now c.tally.new.self (sent_item (c.args.at, c.args.octets.now)) c.match-sort_packet.unread (sym w.in-Rtcp.ensures ∙ ap unread_sort (sym w.unread-is)) c.tally.ensures.tallied
]
