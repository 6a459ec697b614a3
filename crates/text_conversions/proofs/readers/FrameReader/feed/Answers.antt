use Rattle.std.proofs.Common.{◌++◌, arith, subst, sym, refl, Some}
use Rattle.text_conversions.specs.Readers.{IsFed}
use Rattle.text_conversions.proofs.Feeding.{feeding_first, feeding_more, feeds_all, meets_one, still}
use Rattle.text_conversions.proofs.readers.FrameReader.feed.Goals as goal

pub loop-taken-init : goal.loop-taken-init
loop-taken-init c = feeding_first c.args.self.now c.args.piece.now c.clear.new.self c.clear.ensures c.in_default.is

pub take-requires-clause-open : goal.take-requires-clause-open
take-requires-clause-open c = c.loop-taken.invariant.no_fault

pub loop-taken-preserved : goal.loop-taken-preserved
loop-taken-preserved c = feeding_more c.args.self.now c.loop-taken.self c.take.new.self c.args.piece.now _ c.loop-taken.out c.take.new.out c.loop-taken.taken c.in-Ok.more refl c.loop-taken.invariant c.in-Ok.ensures.takes c.in-Ok.ensures.open c.take.ensures.few c.in-Ok.ensures.within

pub returns-in-Err-clause-feeds : goal.returns-in-Err-clause-feeds
returns-in-Err-clause-feeds c = λ octets s. meets_one c.args.self.now c.loop-taken.self c.take.new.self c.args.piece.now _ octets c.loop-taken.out c.take.new.out c.loop-taken.taken c.in-Err.fault c.in_default.is refl c.loop-taken.invariant c.in-Err.ensures.takes s

pub returns-in-Some-clause-feeds : goal.returns-in-Some-clause-feeds
returns-in-Some-clause-feeds c = λ octets s. subst (λ fs. IsFed c.args.self.now octets (octets ++ c.args.piece.now) fs (Some c.in-Some.fault)) (sym c.clear.ensures) (still c.args.self.now c.args.piece.now octets c.in-Some.fault c.in-Some.is s)

pub returns-else-len-lt-MOST_BATCH_FRAMES-clause-feeds : goal.returns-else-len-lt-MOST_BATCH_FRAMES-clause-feeds
returns-else-len-lt-MOST_BATCH_FRAMES-clause-feeds c = λ octets s. feeds_all c.args.self.now c.loop-taken.self c.args.piece.now octets c.loop-taken.out c.loop-taken.taken c.in_default.is c.loop-taken.invariant c.loop-taken.self.begun s

pub returns-after-loop-taken-clause-feeds : goal.returns-after-loop-taken-clause-feeds
returns-after-loop-taken-clause-feeds c = λ octets s. feeds_all c.args.self.now c.loop-taken.self c.args.piece.now octets c.loop-taken.out c.loop-taken.taken c.in_default.is c.loop-taken.invariant c.loop-taken.self.begun s

pub returns-after-loop-taken-clause-few : goal.returns-after-loop-taken-clause-few
returns-after-loop-taken-clause-few c = c.loop-taken.invariant.few

pub returns-after-loop-taken-clause-within : goal.returns-after-loop-taken-clause-within
returns-after-loop-taken-clause-within c = c.loop-taken.invariant.within

pub returns-after-loop-taken-clause-whole : goal.returns-after-loop-taken-clause-whole
returns-after-loop-taken-clause-whole c = λ l. let w = c.loop-taken.invariant.within in let t = c.loop-taken-test.false in omega (arith, w, t)
