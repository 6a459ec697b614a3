use Rattle.std.proofs.Common.{◌∙◌, refl, arith, subst, Option, Ok}
use Rattle.text_conversions.specs.declared.fronts.FrameView.{FrameView}
use Rattle.text_conversions.specs.Fronts.{place_of, IsFront}
use Rattle.text_conversions.proofs.Taking.{needs, takes_frame, takes_none, refuses}
use Rattle.text_conversions.proofs.readers.FrameReader.take.Goals as goal

pub take_missing-taken-requires-clause-few : goal.take_missing-taken-requires-clause-few
take_missing-taken-requires-clause-few c = let n = needs (place_of c.args.self.now.place) c.args.self.now.held c.args.self.now.begun in omega (arith, n.few)

pub take_missing-taken-requires-clause-missing : goal.take_missing-taken-requires-clause-missing
take_missing-taken-requires-clause-missing c = (needs (place_of c.args.self.now.place) c.args.self.now.held c.args.self.now.begun).some

pub returns-in-Ok-Some-clause-takes : goal.returns-in-Ok-Some-clause-takes
returns-in-Ok-Some-clause-takes c =
    let front = subst (λ (o : Option FrameView). IsFront (place_of c.args.self.now.place) c.as_slice.result.now (Ok o)) c.in-Ok-Some.field-0-is c.in-Ok-Some.ensures in
    takes_frame c.args.self.now _ c.args.piece.now c.args.out.now c.push_copy.new.self c.take_missing-taken.result c.as_slice.result.now c.in-Ok-Some.view
    c.take_missing-taken.ensures.needed c.take_missing-taken.ensures.within (c.as_slice.ensures.value ∙ c.take_missing-taken.ensures.held)
    front.0 front.1 c.push_copy.ensures refl c.clear.ensures

pub returns-in-Ok-None-clause-takes : goal.returns-in-Ok-None-clause-takes
returns-in-Ok-None-clause-takes c =
    takes_none c.args.self.now _ c.args.piece.now c.args.out.now c.take_missing-taken.result c.take_missing-taken.ensures.held refl

pub returns-in-Err-clause-takes : goal.returns-in-Err-clause-takes
returns-in-Err-clause-takes c =
    refuses c.args.self.now _ c.args.piece.now c.args.out.now c.take_missing-taken.result c.as_slice.result.now c.in-Err.kind
    (c.as_slice.ensures.value ∙ c.take_missing-taken.ensures.held) c.in-Err.ensures.0 c.in-Err.ensures.1 refl
