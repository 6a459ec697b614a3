use Rattle.std.proofs.Common.{◌<◌, ◌≤◌, arith, get_or, length, refl}
use Rattle.rtt_times.proofs.Kept.{place_is}
use Rattle.rtt_times.proofs.Missing.{rows_end, rows_more}
use Rattle.rtt_times.proofs.numbers.add_rows.Goals as goal
use Rattle.receiver.proofs.Parts.{on_ok_then as on_ok}

pub loop-index-preserved : goal.loop-index-preserved
loop-index-preserved c =
    let late = c.args.late.now in
    let there : c.loop-index.index < length late = omega arith in
    rows_more c.args.at c.args.ssrc c.args.low c.args.high late c.loop-index.index c.loop-index.from (get_or late c.loop-index.index 0) c.in_ok-next.next c.args.lines.now c.loop-index.lines c.add_before.new.lines c.requires there (place_is late late c.loop-index.index 0 refl there) c.in_ok-next.ensures c.loop-index.invariant

pub returns : goal.returns
returns c =
    let over : length c.args.late.now ≤ c.loop-index.index = omega arith in
    on_ok c.add_row.result (rows_end c.args.at c.args.ssrc c.args.low c.args.high c.args.late.now c.loop-index.index c.loop-index.from c.args.lines.now c.loop-index.lines c.add_row.new.lines over c.loop-index.invariant) c.add_row.ensures
