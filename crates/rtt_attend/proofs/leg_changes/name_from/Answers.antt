use Rattle.std.proofs.Common.{length, ap, arith}
use Rattle.rtt_attend.proofs.Changes.{not_letter}
use Rattle.rtt_attend.proofs.leg_changes.name_from.Goals as goal

pub returns-then-not-push_octet : goal.returns-then-not-push_octet
returns-then-not-push_octet c =
    let same = c.as_bytes-octet-items.ensures.value in
    not_letter c.args.text.now c.as_bytes-octet-items.result.now c.loop-octet.octet-index _ c.without_space.result same (omega (arith, c.loop-octet-test.true, c.loop-octet.auto.octet-index-end, ap length same))
    c.without_space.ensures c.if-not-push_octet.ensures.letter
