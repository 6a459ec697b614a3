use Rattle.std.proofs.Common.{arith, length-take, length-drop}
use Rattle.std.proofs.Math.Seq.{take-add}
use Rattle.std.proofs.lemmas.List.{take_rest}
use Rattle.rtt_io.proofs.Known.{appends_appends}
use Rattle.rtt_io.proofs.streams.write_whole.Goals as goal

pub loop-done-preserved : goal.loop-done-preserved
loop-done-preserved g c =
    let fits = simp (length-take, length-drop) at c.in_ok-number.ensures.fits in
    let more = c.in_ok-number.ensures.appended in
    record {
      within = omega (arith, fits);
      appended = rw take-add (appends_appends _ _ _ _ _ c.loop-done.invariant.appended (rw take_rest at more));
    }
