use Rattle.std.proofs.Common.{◌≡◌, ◌-◌, ◌≤◌, ℕ, List, [], ◌∷◌, ◌++◌, length, refl, sym, ◌∙◌, ap, subst, arith, length-append}
use Rattle.std.specs.Prelude.{All}
use Rattle.std.proofs.lemmas.List.Elements.{All-push}
use Rattle.playback.proofs.Going.{found_more, found_pushed, found_all}
use Rattle.playback.proofs.indexes.find_records.Goals as goal
use Rattle.rtpdump_io.proofs.Fronts.{left_less}

pub loop-moment-preserved : goal.loop-moment-preserved
loop-moment-preserved c =
    let i = c.loop-moment.invariant in
    let rest = c.loop-moment.rest.now in
    let more = c.in-Some.more.now in
    let packet = c.in-Some.field-0-1.now in
    let octets = c.args.records.now in
    let ms = c.loop-moment.moments.items in
    let ps = c.loop-moment.places.items in
    let place = length octets - length rest in
    let pushed : c.push.new.self.items ≡ ms ++ c.in-Some.moment ∷ [] = c.in_ok-push.ensures.items in
    let placed : c.push-in-Some.new.self.items ≡ ps ++ place ∷ [] = c.in_ok-push-2.ensures.items in
    let more_moments = ap (λ (xs : List ℕ). length xs) pushed ∙ length-append ms (c.in-Some.moment ∷ []) in
    let more_places = ap (λ (xs : List ℕ). length xs) placed ∙ length-append ps (place ∷ []) in
    record {
      left = left_less rest c.in-Some.moment packet more (length ms) (length c.push.new.self.items) c.in-Some.ensures.record c.in-Some.ensures.shorter (omega (arith, more_moments)) i.left;
      each = omega (arith, more_moments, more_places, i.each);
      within = subst (λ (xs : List ℕ). All (λ p. p ≤ length octets) xs) (sym placed) (All-push (λ p. p ≤ length octets) ps place i.within (omega arith));
      shorter = omega (arith, c.in-Some.ensures.shorter, i.shorter);
      found = λ all a. found_pushed c.push.new.self.items c.push-in-Some.new.self.items octets more all (ms ++ c.in-Some.moment ∷ []) (ps ++ place ∷ []) pushed placed
          (found_more ms ps octets rest all c.in-Some.moment place packet more c.in-Some.ensures.record c.in-Some.ensures.shorter a refl (i.found all a));
    }

pub returns-clause-finds : goal.returns-clause-finds
returns-clause-finds c = λ all a.
    let h = c.loop-moment.invariant.found all a in
    found_all c.args.records.now c.loop-moment.rest.now all _ c.in_default.ensures.record h
