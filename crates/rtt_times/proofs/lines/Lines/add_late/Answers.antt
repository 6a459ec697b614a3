use Rattle.std.proofs.Common.{ℕ, refl, subst}
use Rattle.rtt_times.specs.declared.lines.Lines.{Lines}
use Rattle.rtt_times.specs.Lines.{KeepsFrom}
use Rattle.rtt_times.proofs.Kept.{kept}
use Rattle.rtt_times.proofs.lines.Lines.add_late.Goals as goal
use Rattle.receiver.proofs.Parts.{on_ok_then as on_ok}

pub returns : goal.returns
returns c =
    let mid : Lines = record c.args.self.now { octets = c.append_late.new.out } in
    on_ok c.keep.result (λ k. kept c.args.self.now mid c.keep.new.self c.args.at _ refl c.in_ok-append_late.ensures (subst (λ (n : ℕ). KeepsFrom c.args.at n mid c.keep.new.self) c.len-from.ensures k)) c.keep.ensures
