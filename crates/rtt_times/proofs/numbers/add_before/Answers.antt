use Rattle.std.proofs.Common.{◌<◌, ◌≤◌, arith}
use Rattle.rtt_times.proofs.Missing.{before_in, before_out}
use Rattle.rtt_times.proofs.numbers.add_before.Goals as goal

pub returns-then-low-number : goal.returns-then-low-number
returns-then-low-number c =
    let out : c.args.number < c.args.low = omega arith in
    before_out c.args.at c.args.ssrc c.args.low c.args.number c.args.high c.args.lines.now (λ a b. omega (arith, a, out))

pub returns-then-number-high : goal.returns-then-number-high
returns-then-number-high c =
    let out : c.args.high ≤ c.args.number = omega arith in
    before_out c.args.at c.args.ssrc c.args.low c.args.number c.args.high c.args.lines.now (λ a b. omega (arith, b, out))

pub returns : goal.returns
returns c = before_in c.args.at c.args.ssrc c.args.low c.args.number c.args.high c.args.lines.now c.add_row.new.lines (omega arith) (omega arith) c.in_ok-add_row.ensures
