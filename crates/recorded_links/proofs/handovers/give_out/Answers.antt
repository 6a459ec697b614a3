use Rattle.std.proofs.Common.{◌≡◌, ◌<◌, [], arith, get_or, length}
use Rattle.std.proofs.lemmas.List.{get_or_default}
use Rattle.recorded_links.specs.Calls.{WaitsOn}
use Rattle.recorded_links.specs.Kept.{IsGivenOut, IsPlaceIn}
use Rattle.recorded_links.specs.Shelves.{noted}
use Rattle.recorded_links.proofs.Handing.{either_of, gone_all, gone_one, holds_next}
use Rattle.recorded_links.proofs.handovers.give_out.Goals as goal

pub loop-number-preserved : goal.loop-number-preserved
loop-number-preserved g c =
    let places = c.loop-number.places in
    let n = c.loop-number.number in
    let place = get_or places n c.index-places-number.result in
    let low : n < length places = omega (arith, c.loop-number-test.true, c.loop-number.auto.places) in
    let is = get_or_default places n c.index-places-number.result place low in
    let was = c.loop-number.invariant in
    let ends = c.loop-number.ends in
    let noter = c.give-noter.result in
    let now = c.with_one-ends in
    record {
      gone = gone_one (IsGivenOut c.args.port) n _ c.args.places.now places place c.give-noter.new.self (omega arith) low is c.give-noter.ensures.place was.gone;
      fresh_in = either_of (λ x. noted x.pass ≡ []) now.result.0 ends.0 noter now.ensures.inbound was.fresh_in c.give-noter.ensures.fresh;
      fresh_out = either_of (λ x. noted x.pass ≡ []) now.result.1 ends.1 noter now.ensures.outbound was.fresh_out c.give-noter.ensures.fresh;
      known_in = λ rs placed. either_of (λ x. WaitsOn rs x.number x.pass) now.result.0 ends.0 noter now.ensures.inbound (was.known_in rs placed)
          (c.give-noter.ensures.known rs (holds_next (IsGivenOut c.args.port) (IsPlaceIn rs) n c.args.places.now places place low is was.gone placed));
      known_out = λ rs placed. either_of (λ x. WaitsOn rs x.number x.pass) now.result.1 ends.1 noter now.ensures.outbound (was.known_out rs placed)
          (c.give-noter.ensures.known rs (holds_next (IsGivenOut c.args.port) (IsPlaceIn rs) n c.args.places.now places place low is was.gone placed));
    }

pub returns-clause-places : goal.returns-clause-places
returns-clause-places g c =
    gone_all (IsGivenOut c.args.port) c.loop-number.number c.args.places.now c.loop-number.places
    (omega (arith, c.loop-number-test.false, c.loop-number.auto.places, c.loop-number.auto.number-end)) c.loop-number.invariant.gone
