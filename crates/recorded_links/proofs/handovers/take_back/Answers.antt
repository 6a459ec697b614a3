use Rattle.std.proofs.Common.{◌<◌, arith, get_or, length}
use Rattle.std.proofs.lemmas.List.{get_or_default}
use Rattle.recorded_links.specs.Kept.{IsHadBack}
use Rattle.recorded_links.proofs.Handing.{gone_all, gone_one, had_left, left_still}
use Rattle.recorded_links.proofs.handovers.take_back.Goals as goal

pub loop-number-preserved : goal.loop-number-preserved
loop-number-preserved g c =
    let places = c.loop-number.places in
    let n = c.loop-number.number in
    let place = get_or places n c.index-places-number.result in
    let low : n < length places = omega (arith, c.loop-number-test.true, c.loop-number.auto.places) in
    let is = get_or_default places n c.index-places-number.result place low in
    let was = c.loop-number.invariant in
    let new = c.take_back-left.new.self in
    record {
      gone = gone_one (IsHadBack c.args.port c.args.way c.args.noter) n _ c.args.places.now places place new (omega arith) low is
          (had_left c.args.port c.args.way c.args.noter c.loop-number.left was.left place new c.take_back-left.ensures.place) was.gone;
      left = left_still c.args.noter c.loop-number.left c.take_back-left.result was.left c.take_back-left.ensures.left;
    }

pub returns : goal.returns
returns g c =
    gone_all (IsHadBack c.args.port c.args.way c.args.noter) c.loop-number.number c.args.places.now c.loop-number.places
    (omega (arith, c.loop-number-test.false, c.loop-number.auto.places, c.loop-number.auto.number-end)) c.loop-number.invariant.gone
