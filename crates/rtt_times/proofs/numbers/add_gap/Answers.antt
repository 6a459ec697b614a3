use Rattle.std.proofs.Common.{◌≡◌, ◌+◌, ℕ, suc, arith, subst}
use Rattle.rtt_times.specs.Numbers.{AddsMissing}
use Rattle.rtt_times.proofs.Missing.{part_added}
use Rattle.rtt_times.proofs.numbers.add_gap.Goals as goal
use Rattle.receiver.proofs.Parts.{on_ok_then as on_ok}

pub returns : goal.returns
returns c =
    let next : c.args.number + 1 ≡ suc c.args.number = omega arith in
    on_ok c.add_rows.result (λ adds. subst (λ (n : ℕ). AddsMissing c.args.next.ready c.args.ssrc c.args.late.now n c.args.next.number c.args.lines.now c.add_rows.new.lines) next
    (part_added c.args.next.ready c.args.ssrc (c.args.number + 1) c.args.next.number c.args.late.now c.between-inside.result.now c.args.lines.now c.add_rows.new.lines c.between-inside.ensures.part adds)) c.add_rows.ensures
