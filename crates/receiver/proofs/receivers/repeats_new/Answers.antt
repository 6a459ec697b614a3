use Rattle.std.proofs.Common.{arith, sym}
use Rattle.rtp_text.specs.Views.{headers_in}
use Rattle.receiver.specs.Plain.{any_gives_since}
use Rattle.receiver.proofs.Plain.{header_found, next_header}
use Rattle.receiver.proofs.receivers.repeats_new.Goals as goal

pub returns-then-gives_text : goal.returns-then-gives_text
returns-then-gives_text c =
    let v = c.args.view.now in
    header_found c.args.seen v.timestamp v.count c.loop-place.place v.headers.now c.header-header.result (any_gives_since c.args.seen v.timestamp (headers_in v)) c.loop-place-test.true c.header-header.ensures.value (sym c.if-gives_text.ensures) c.loop-place.invariant.1

pub loop-place-preserved : goal.loop-place-preserved
loop-place-preserved c =
    let v = c.args.view.now in (
      omega (arith, c.loop-place-test.true),
      next_header c.args.seen v.timestamp v.count c.loop-place.place v.headers.now c.header-header.result (any_gives_since c.args.seen v.timestamp (headers_in v)) c.loop-place-test.true c.header-header.ensures.value (sym c.if-gives_text.ensures) c.loop-place.invariant.1,
    )
