use Rattle.std.proofs.Common.{arith}
use Rattle.std.proofs.lemmas.Result.{on_ok_weaker}
use Rattle.mixer_spec.specs.Arrives.{copies}
use Rattle.playback.proofs.Packets.{times_more}
use Rattle.playback.proofs.copies.append_either.Goals as goal

pub returns-then-fate-eq0-clause-times : goal.returns-then-fate-eq0-clause-times
returns-then-fate-eq0-clause-times c lines is =
    on_ok_weaker c.append_copies.result (λ e x. omega (arith, times_more x c.args.in_time.now.items c.append_copies.new.out.items (copies lines c.args.index c.args.sent) e)) (c.append_copies.ensures.copies lines is)

pub returns-else-fate-eq0-clause-times : goal.returns-else-fate-eq0-clause-times
returns-else-fate-eq0-clause-times c lines is =
    let done = c.append_copies-else-fate-eq0 in
    on_ok_weaker done.result (λ e x. omega (arith, times_more x c.args.late.now.items done.new.out.items (copies lines c.args.index c.args.sent) e)) (done.ensures.copies lines is)
