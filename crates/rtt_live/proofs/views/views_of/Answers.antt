use Rattle.std.proofs.Common.{◌≡◌, ◌<◌, ◌≤◌, ◌++◌, [], ◌∷◌, ℕ, List, Some, length, ap, subst, sym, ◌∙◌, append_assoc, arith}
use Rattle.std.specs.Prelude.{slice_get}
use Rattle.std.specs.Vec.Iter.{into_iter_items}
use Rattle.std.proofs.lemmas.List.{length-append, length_push}
use Rattle.file_spec.specs.Conferences.{meaning_of}
use Rattle.rtt_live.specs.Listeners.{AreViewsOf, Listening}
use Rattle.rtt_live.proofs.Showing.{first_all, first_more, no_leg}
use Rattle.rtt_live.proofs.views.views_of.Goals as goal
use Rattle.workers.proofs.Matching.{get_behind as get_seam}

pub add_view-requires : goal.add_view-requires
add_view-requires c =
    let i = c.loop-listener.invariant in
    let yielded = c.loop-listener.yielded in
    let rest = into_iter_items c.next.new.self in
    let steps = c.in-Some.ensures.steps.0 in
    let whole = ap (λ (xs : List Listening). yielded ++ xs) (sym steps) ∙ i.all in
    let given = c.into_iter-listener-iterator.ensures.into_iter_gives.0 in
    omega (arith, i.number, ap (λ (xs : List Listening). length xs) whole, length-append yielded (c.in-Some.listener ∷ rest), ap (λ (xs : List Listening). length xs) given, c.requires.each)

pub loop-listener-preserved : goal.loop-listener-preserved
loop-listener-preserved c =
    let i = c.loop-listener.invariant in
    let conference = meaning_of c.args.conference.now in
    let yielded = c.loop-listener.yielded in
    let own = c.loop-listener.own in
    let listener = c.in-Some.listener in
    let rest = into_iter_items c.next.new.self in
    let all = into_iter_items c.into_iter-listener-iterator.result in
    let steps : into_iter_items c.loop-listener.listener-iterator ≡ listener ∷ rest = c.in-Some.ensures.steps.0 in
    let whole : yielded ++ listener ∷ rest ≡ all = ap (λ (xs : List Listening). yielded ++ xs) (sym steps) ∙ i.all in
    let given = c.into_iter-listener-iterator.ensures.into_iter_gives.0 in
    let below : own < length c.args.conference.now.legs =
    omega (arith, i.number, ap (λ (xs : List Listening). length xs) whole, length-append yielded (listener ∷ rest), ap (λ (xs : List Listening). length xs) given, c.requires.each) in
    let at : slice_get all own ≡ Some listener =
    subst (λ (n : ℕ). slice_get all n ≡ Some listener) (sym i.number) (subst (λ (xs : List Listening). slice_get xs (length yielded) ≡ Some listener) whole (get_seam yielded listener rest)) in
    record {
      all = append_assoc yielded (listener ∷ []) rest ∙ whole;
      left = omega (arith, i.left, c.in-Some.ensures.steps.1, ap (λ (xs : List Listening). length xs) steps);
      number = omega (arith, i.number, length_push yielded listener);
      views = first_more conference all own no_leg listener c.loop-listener.views c.add_view.new.views below at i.views c.in_ok-add_view.ensures;
    }

pub returns : goal.returns
returns c =
    let i = c.loop-listener.invariant in
    let conference = meaning_of c.args.conference.now in
    let yielded = c.loop-listener.yielded in
    let rest = into_iter_items c.loop-listener.listener-iterator in
    let all = into_iter_items c.into_iter-listener-iterator.result in
    let given = c.into_iter-listener-iterator.ensures.into_iter_gives.0 in
    let many : length c.args.conference.now.legs ≤ c.loop-listener.own =
    omega (arith, i.number, i.left, c.in-None.ensures.steps.0, ap (λ (xs : List Listening). length xs) i.all, length-append yielded rest, ap (λ (xs : List Listening). length xs) given, c.requires.each) in
    subst (λ (xs : List Listening). AreViewsOf conference xs c.loop-listener.views) given (first_all conference all c.loop-listener.own c.loop-listener.views many i.views)
