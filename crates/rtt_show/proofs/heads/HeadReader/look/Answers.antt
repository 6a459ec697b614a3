use Rattle.std.proofs.Common.{◌≤◌, ◌∙◌, [], append-nil, arith, length, length-append, length-drop, length-take, sym, take}
use Rattle.rtpdump_io.proofs.Pieces.{fills_more}
use Rattle.rtt_show.proofs.heads.HeadReader.look.Goals as goal

pub loop-self-preserved : goal.loop-self-preserved
loop-self-preserved g c =
    let kept = c.loop-self.invariant in
    let said = c.in_ok-number.ensures in
    let tail = c.read.new.buf in
    let number = c.in_ok-number.number in
    record {
      never_falls = omega (arith, kept.never_falls, said.never_falls);
      calm = said.calm ∙ kept.calm;
      same_name = said.same_name ∙ kept.same_name;
      given = kept.given;
      room = simp (length-append, length-take, length-drop) (omega (arith, kept.room, said.fits));
      looks = λ t. fills_more _ _ (take number tail) [] _ _ tail _ c.loop-self.self.size number (kept.looks t) (sym (said.given t)) (sym (append-nil (take number tail))) (omega (arith, kept.room)) said.fits;
    }
