use Rattle.std.proofs.Common.{◌<◌, arith, get_or, length, refl}
use Rattle.rtt_times.specs.declared.stream_packets.TimedPacket.{TimedPacket}
use Rattle.rtt_times.proofs.Kept.{place_is}
use Rattle.rtt_times.proofs.Missing.{late_more}
use Rattle.rtt_times.proofs.numbers.add_late.Goals as goal

pub loop-index-preserved : goal.loop-index-preserved
loop-index-preserved c =
    let late = c.args.late.now in
    let there : c.loop-index.index < length late = omega arith in
    let one : TimedPacket = get_or late c.loop-index.index (record { number = 0; time = 0 }) in
    late_more c.args.ssrc late c.loop-index.index one c.args.lines.now c.loop-index.lines c.add_late.new.self there (place_is late late c.loop-index.index _ refl there) c.in_ok-add_late.ensures c.loop-index.invariant
