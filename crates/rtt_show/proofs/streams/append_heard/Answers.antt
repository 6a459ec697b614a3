use Rattle.rtt_show.proofs.Grouping.{on_ok}
use Rattle.rtt_show.proofs.Showing.{heard_is}
use Rattle.rtt_show.proofs.streams.append_heard.Goals as goal

pub returns : goal.returns
returns c =
    on_ok c.append_number_line.result (λ e.
    heard_is c.args.found.now c.args.terminal.now c.args.out.now c.append_sources.new.out c.append_counts.new.out c.append_refusals.new.out c.append_number_line.new.out c.as_slice.result.now c.heard.result.now c.counts.result
    c.as_slice.ensures.value c.heard.ensures c.counts.ensures c.in_ok-append_sources.ensures c.in_ok-append_counts.ensures.ok c.in_ok-append_refusals.ensures e)
    c.append_number_line.ensures
