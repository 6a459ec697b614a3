use Rattle.std.proofs.Common.{◌∙◌, ◌≤◌, ap, arith, length}
use Rattle.rtpdump_io.specs.Input.{held}
use Rattle.rtpdump_io.proofs.Pieces.{passes_more}
use Rattle.rtpdump_io.proofs.inputs.Input.pass.Goals as goal

pub loop-done-preserved : goal.loop-done-preserved
loop-done-preserved g c =
    let kept = c.loop-done.invariant in
    let filled = c.in_ok-fill.ensures in
    let same = c.advance.ensures.source in
    let number : c.min-number.result ≤ length (held c.fill.new.self) = omega (arith, ap length c.held.ensures) in
    record {
      within = omega arith;
      never_falls = omega (arith, kept.never_falls, filled.counts.0, ap g.S.Source.faults same);
      calm = ap g.S.Source.faults same ∙ filled.counts.2 ∙ kept.calm;
      same_name = ap g.S.Source.name same ∙ filled.counts.3 ∙ kept.same_name;
      passes = λ t. rw (same, c.advance.ensures.held) (passes_more _ _ _ _ _ _ (kept.passes t) (filled.unread t) number);
    }
