use Rattle.std.proofs.Common.{◌<◌, sym, subst, arith}
use Rattle.cascade.specs.declared.splitters.SourceRecording.{SourceRecording}
use Rattle.cascade.specs.Splitters.{Closes}
use Rattle.cascade.proofs.Gathering.{closing_none, closing_one, closing_all, still_typed}
use Rattle.cascade.proofs.dividers.close_all.Goals as goal

pub loop-place-init : goal.loop-place-init
loop-place-init c = closing_none c.args.splitters.now

pub close-requires : goal.close-requires
close-requires c =
    record {
      t140 = subst (λ (x : SourceRecording). x.payload_types.t140 < 128) c.index-splitters-place.is
          (still_typed c.args.splitters.now c.loop-place.splitters c.loop-place.place c.index-splitters-place.result c.loop-place.invariant
          (omega (arith, c.loop-place-test.true, c.loop-place.invariant.each)) c.index-splitters-place.is c.requires.t140);
    }

pub loop-place-preserved : goal.loop-place-preserved
loop-place-preserved c =
    closing_one c.args.splitters.now c.loop-place.splitters c.loop-place.place c.index-splitters-place.result c.close.new.self c.loop-place.invariant
    (omega (arith, c.loop-place-test.true, c.loop-place.invariant.each)) c.index-splitters-place.is
    (subst (λ (x : SourceRecording). Closes x c.close.new.self) (sym c.index-splitters-place.is) c.in_ok-close.ensures.closes)

pub returns : goal.returns
returns c = record { closes = closing_all c.args.splitters.now c.loop-place.splitters c.loop-place.place c.loop-place.invariant c.loop-place-test.false }
