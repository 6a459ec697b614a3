use Rattle.std.proofs.Common.{◌≡◌, ℕ, Some, List, [], ◌∷◌, ◌++◌, length, length-append, ap, subst, sym, ◌∙◌, arith}
use Rattle.std.specs.Prelude.{slice_get}
use Rattle.mixer_places.specs.Lanes.{Waiting}
use Rattle.mixer_places.proofs.Sources.{Starts, stands_new, starts_more}
use Rattle.mixer_places.proofs.slots.Slots.new.Goals as goal

pub loop-source-preserved : goal.loop-source-preserved
loop-source-preserved c =
    let old = c.loop-source.lanes.items in
    let lane = c.in_ok-lane.lane in
    let pushed : c.push.new.self.items ≡ old ++ lane ∷ [] = c.in_ok-push.ensures.items in
    let new : Starts c.args.legs (length old) lane =
    subst (λ (i : ℕ). Starts c.args.legs i lane) (sym c.loop-source.invariant.count) (record { parts = c.in_ok-lane.ensures.terminals; holds = c.in_ok-lane.ensures.holds }) in
    record {
      count = omega (arith, ap (λ (xs : List Waiting). length xs) pushed, length-append old (lane ∷ []), c.loop-source.invariant.count);
      each = subst (λ (xs : List Waiting). (k : ℕ) (w : Waiting) → slice_get xs k ≡ Some w → Starts c.args.legs k w) (sym pushed) (starts_more c.args.legs old lane c.loop-source.invariant.each new);
    }

pub invariant_of-result : goal.invariant_of-result
invariant_of-result c = λ i w g. (c.loop-source.invariant.each i w g).parts ∙ omega (arith, c.loop-source-test.false, c.loop-source.auto.source-end, c.loop-source.invariant.count)

pub returns-clause-stands : goal.returns-clause-stands
returns-clause-stands c = λ s e.
    stands_new s c.loop-source.lanes.items c.args.legs e (omega (arith, c.loop-source-test.false, c.loop-source.auto.source-end, c.loop-source.invariant.count)) c.loop-source.invariant.each
