use Rattle.std.proofs.Common.{List, Option, Ok, sym, refl, subst}
use Rattle.file_spec.specs.Script.{ScriptLine}
use Rattle.file_spec.specs.declared.frame_kinds.FrameKind.TheVariants.{EndsInside}
use Rattle.file_spec.specs.Frames.{read_frames}
use Rattle.text_conversions.specs.Fronts.{IsFront, place_of}
use Rattle.text_conversions.specs.declared.fronts.FrameView.{FrameView}
use Rattle.text_conversions.specs.RelayAnswers.{IsFrameCause}
use Rattle.text_conversions.specs.declared.relay_faults.RelayFault.{RelayFault}
use Rattle.text_conversions.proofs.RelayLines.{Reads, reads_first, reads_more, reads_fault, reads_end, some_left, none_left, smaller}
use Rattle.text_conversions.proofs.relays.read_lines.Goals as goal

pub loop-rest-init : goal.loop-rest-init
loop-rest-init c = subst (λ (lines : List ScriptLine). Reads c.args.octets.now lines (record { byte = 0; latest = 0 }) c.args.octets.now) (sym c.new-script.ensures) (reads_first c.args.octets.now)

pub first_frame-requires : goal.first_frame-requires
first_frame-requires c = c.loop-rest.invariant.within

pub returns-in-Ok-None-clause-cause : goal.returns-in-Ok-None-clause-cause
returns-in-Ok-None-clause-cause c =
    let front = subst (λ (o : Option FrameView). IsFront (place_of c.loop-rest.place) c.loop-rest.rest.now (Ok o)) c.in-Ok-None.field-0-is c.in-Ok-None.ensures in
    subst (λ (f : RelayFault). IsFrameCause f (read_frames c.args.octets.now).fault) (sym c.refused.ensures)
    (reads_fault c.args.octets.now c.loop-rest.script c.loop-rest.place c.loop-rest.rest.now EndsInside c.loop-rest.invariant (some_left c.loop-rest.rest.now c.is_empty.result c.is_empty.ensures c.loop-rest-test.true) front)

pub returns-in-Err-clause-cause : goal.returns-in-Err-clause-cause
returns-in-Err-clause-cause c =
    subst (λ (f : RelayFault). IsFrameCause f (read_frames c.args.octets.now).fault) (sym c.refused-in-Err.ensures)
    (reads_fault c.args.octets.now c.loop-rest.script c.loop-rest.place c.loop-rest.rest.now c.in-Err.kind c.loop-rest.invariant (some_left c.loop-rest.rest.now c.is_empty.result c.is_empty.ensures c.loop-rest-test.true) c.in-Err.ensures.0)

pub loop-rest-smaller : goal.loop-rest-smaller
loop-rest-smaller c =
    let front = subst (λ (o : Option FrameView). IsFront (place_of c.loop-rest.place) c.loop-rest.rest.now (Ok o)) c.in-Ok-Some.field-0-is c.in-Ok-Some.ensures in
    smaller c.loop-rest.place c.loop-rest.rest.now c.in-Ok-Some.view front.0 front.2

pub loop-rest-preserved : goal.loop-rest-preserved
loop-rest-preserved c =
    let front = subst (λ (o : Option FrameView). IsFront (place_of c.loop-rest.place) c.loop-rest.rest.now (Ok o)) c.in-Ok-Some.field-0-is c.in-Ok-Some.ensures in
    reads_more c.args.octets.now c.loop-rest.script c.push.new.self c.loop-rest.place _ c.loop-rest.rest.now _ c.in-Ok-Some.view c.loop-rest.invariant front.0 front.1 front.2 c.in-Ok.ensures.ok refl refl

pub returns-clause-lines : goal.returns-clause-lines
returns-clause-lines c = (reads_end c.args.octets.now c.loop-rest.script c.loop-rest.place c.loop-rest.rest.now c.loop-rest.invariant (none_left c.loop-rest.rest.now c.is_empty.result c.is_empty.ensures c.loop-rest-test.false)).0

pub returns-clause-whole : goal.returns-clause-whole
returns-clause-whole c = (reads_end c.args.octets.now c.loop-rest.script c.loop-rest.place c.loop-rest.rest.now c.loop-rest.invariant (none_left c.loop-rest.rest.now c.is_empty.result c.is_empty.ensures c.loop-rest-test.false)).1
