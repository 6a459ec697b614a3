use Rattle.std.proofs.Common.{◌≡◌, ◌∙◌, ◌≤◌, ◌-◌, ap, arith, length, length-append, length-take, length-drop}
use Rattle.rtpdump_io.proofs.Pieces.{fills_more}
use Rattle.rtpdump_io.proofs.inputs.Input.read_parts.Goals as goal

pub loop-done-preserved : goal.loop-done-preserved
loop-done-preserved g c =
    let kept = c.loop-done.invariant in
    let filled = c.in_ok-fill.ensures in
    let moved = c.hand_out-number.ensures in
    let tail : length c.hand_out-number.new.buf ≡ length c.loop-done.buf - c.loop-done.done = moved.size ∙ simp (length-take, length-drop) (omega arith) in
    let number : c.hand_out-number.result ≤ length c.hand_out-number.new.buf = omega (arith, moved.number, moved.size) in
    record {
      within = simp (length-append, length-take, length-drop) (omega (arith, kept.within, tail, number));
      size = simp (length-append, length-take, length-drop) (omega (arith, kept.within, kept.size, tail));
      never_falls = omega (arith, kept.never_falls, filled.counts.0, ap g.S.Source.faults moved.source);
      calm = ap g.S.Source.faults moved.source ∙ filled.counts.2 ∙ kept.calm;
      same_name = ap g.S.Source.name moved.source ∙ filled.counts.3 ∙ kept.same_name;
      given = λ t. rw moved.source (fills_more _ _ _ _ _ _ _ _ _ _ (kept.given t) (filled.unread t) moved.given kept.within number);
    }
