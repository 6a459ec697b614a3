use Rattle.std.specs.Prelude.{map}
use Rattle.wire_spec.specs.Dump.{sent_item}
use Rattle.rtt_show.proofs.hearing_passes.hear_all.Goals as goal

pub returns : goal.returns
returns c = λ records a.
    let q = c.args.settings in
    let sources = c.args.sources.now in
    c.in_ok-finish.ensures.heard q sources (map sent_item records) (c.in_ok-hear_records.ensures.listens q sources c.in_ok-terminal.ensures.listens records a)
