use Rattle.std.proofs.Common.{◌<◌, arith}
use Rattle.rtt_times.proofs.Missing.{row_added}
use Rattle.rtt_times.proofs.numbers.add_row.Goals as goal
use Rattle.receiver.proofs.Parts.{on_ok_then as on_ok}

pub returns : goal.returns
returns c =
    let some : c.args.low < c.args.high = omega arith in
    on_ok c.add_lost.result (row_added c.args.at c.args.ssrc c.args.low c.args.high c.args.lines.now c.add_lost.new.self some) c.add_lost.ensures
