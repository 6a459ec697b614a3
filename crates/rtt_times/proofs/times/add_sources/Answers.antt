use Rattle.std.proofs.Common.{◌<◌, arith, get_or, length, refl}
use Rattle.rtt_times.proofs.Kept.{place_is}
use Rattle.rtt_times.proofs.Telling.{texts_more}
use Rattle.rtt_times.proofs.times.add_sources.Goals as goal

pub loop-index-preserved : goal.loop-index-preserved
loop-index-preserved c =
    let sources = c.args.sources.now in
    let there : c.loop-index.index < length sources = omega arith in
    texts_more c.args.ssrc c.args.payload_types sources c.args.records.now c.loop-index.index (get_or sources c.loop-index.index 0) c.args.lines.now c.loop-index.lines c.add_texts.new.lines there (place_is sources sources c.loop-index.index 0 refl there) c.loop-index.invariant c.in_ok-_arrivals.ensures.source
