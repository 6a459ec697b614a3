use Rattle.std.proofs.Common.{◌≡◌, ◌∙◌, ◌≤◌, ℕ, List, ap, arith, take, length, ◌++◌, length-append, length-take}
use Rattle.rtpdump_io.specs.Input.{held}
use Rattle.rtpdump_io.proofs.Pieces.{passes_more, copies_more}
use Rattle.rtpdump_io.proofs.inputs.Input.copy_parts.Goals as goal

pub loop-done-preserved : goal.loop-done-preserved
loop-done-preserved g c =
    let kept = c.loop-done.invariant in
    let filled = c.in_ok-fill.ensures in
    let same = c.advance.ensures.source in
    let number : c.min-number.result ≤ length (held c.fill.new.self) = omega (arith, ap length c.held.ensures) in
    let grown : c.append.new.out ≡ c.loop-done.out ++ take c.min-number.result (held c.fill.new.self) = c.append.ensures ∙ ap (λ (l : List ℕ). c.loop-done.out ++ take c.min-number.result l) c.held-in-loop-done.ensures in
    record {
      within = omega arith;
      size = ap length grown ∙ simp (length-append, length-take) (omega arith);
      never_falls = omega (arith, kept.never_falls, filled.counts.0, ap g.S.Source.faults same);
      calm = ap g.S.Source.faults same ∙ filled.counts.2 ∙ kept.calm;
      same_name = ap g.S.Source.name same ∙ filled.counts.3 ∙ kept.same_name;
      passes = λ t. rw (same, c.advance.ensures.held) (passes_more _ _ _ _ _ _ (kept.passes t) (filled.unread t) number);
      copied = λ t. grown ∙ ap (λ (l : List ℕ). l ++ take c.min-number.result (held c.fill.new.self)) (kept.copied t) ∙ copies_more _ _ _ _ _ _ _ (kept.passes t) (filled.unread t) number;
    }
