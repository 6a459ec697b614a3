use Rattle.std.proofs.Common.{◌≡◌, ◌+◌, ◌-◌, ◌++◌, ℕ, List, length, map, ap, sym, subst, arith}
use Rattle.std.specs.List.{range_with_len}
use Rattle.file_spec.specs.Script.{ScriptLine}
use Rattle.command_spec.specs.Making.{recording_at, recordings}
use Rattle.rtt_make.specs.Mades.{made_of}
use Rattle.rtt_make.proofs.Times.{range_step}
use Rattle.rtt_make.proofs.senders.recordings_of.Goals as goal

pub loop-leg-preserved : goal.loop-leg-preserved
loop-leg-preserved c =
    let made = made_of c.args.made.now in
    let n = length c.args.made.now.scripts in
    let fewer = n - (c.loop-leg.leg + 1) in
    let P : List (List ℕ) → Type 0 = λ l. recordings made ≡ l ++ map (recording_at made) (range_with_len (c.loop-leg.leg + 1) fewer) in
    let e = ap (λ (l : List (List ScriptLine)). length l) c.as_slice-leg-end.ensures in
    subst P (sym c.in_ok-push.ensures.items) (range_step (recording_at made) (recordings made) c.loop-leg.all.items (n - c.loop-leg.leg) fewer c.loop-leg.leg c.in_ok-octets.octets
    c.loop-leg.invariant (omega (arith, e, c.loop-leg-test.true)) c.in_ok-octets.ensures)
