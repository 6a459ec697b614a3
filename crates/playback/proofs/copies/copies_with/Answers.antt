use Rattle.std.proofs.Common.{◌<◌, ◌∙◌, length, ap, arith}
use Rattle.mixer_spec.specs.Arrives.{lines_of}
use Rattle.playback.specs.Arriving.{times_of}
use Rattle.playback.proofs.Packets.{times_at_end, times_from, times_joined}
use Rattle.playback.proofs.copies.copies_with.Goals as goal

pub loop-index-preserved : goal.loop-index-preserved
loop-index-preserved c =
    let k = c.loop-index.index in
    let i = c.loop-index.invariant in
    let below : k < length c.args.fates.now = omega arith in
    record {
      copies = λ plan t are x. omega (arith, i.copies plan t are x, times_from x plan t k c.args.sent.now c.loop-index-test.true, c.in_ok-append_either.ensures.times (lines_of plan t k) (are k _ below) x);
      sent = c.in_ok-append_either.ensures.sent (length c.args.sent.now) c.loop-index-test.true i.sent;
      late = c.in_ok-append_either.ensures.late (length c.args.sent.now) c.loop-index-test.true i.late;
    }

pub returns-clause-copies : goal.returns-clause-copies
returns-clause-copies c plan t are x =
    let i = c.loop-index.invariant.copies plan t are x in
    let k = c.loop-index.index in
    let end = times_at_end x plan t k c.args.sent.now c.loop-index-test.false in
    omega (arith, i, end, ap (times_of x) c.in_ok-append.ensures.items ∙ times_joined x c.loop-index.copies.items c.loop-index.late.items)
