use Rattle.std.proofs.Common.{◌≡◌, ◌<◌, [], ◌∷◌, ◌++◌, List, length, refl, ap, subst, sym, ◌∙◌, append_assoc, arith, ℕ}
use Rattle.std.specs.Vec.Iter.{into_iter_items}
use Rattle.std.proofs.Math.Seq.{get_or-append_seam}
use Rattle.std.proofs.lemmas.Option.{slice_get_read}
use Rattle.std.proofs.lemmas.List.{length-append, length_push}
use Rattle.leg.specs.declared.inlets.LegInlet.{LegInlet}
use Rattle.command_spec.specs.Mixing.{input_at}
use Rattle.rtt_io.specs.declared.mem_sources.SteadySource.{SteadySource}
use Rattle.rtt_io.specs.contracts.mem_sources.SteadySourceSource.TheImpl.{left-value}
use Rattle.rtt_mix.specs.Opened.{AllOver, IsOver}
use Rattle.rtt_mix.proofs.Opening.{leg_got, over_more}
use Rattle.rtt_mix.proofs.legs.held_legs.Goals as goal

pub loop-octets-preserved : goal.loop-octets-preserved
loop-octets-preserved c =
    let i = c.loop-octets.invariant in
    let legs = c.args.legs.now in
    let yielded = c.loop-octets.yielded in
    let octets = c.in-Some.octets in
    let inputs = into_iter_items c.into_iter-octets-iterator.result in
    let now = c.loop-octets.inlets.items in
    let number = c.len-number.result in
    let items = c.push_reserved.ensures.items in
    let steps : into_iter_items c.loop-octets.octets-iterator ≡ octets ∷ into_iter_items c.next.new.self = c.in-Some.ensures.steps.0 in
    let whole : yielded ++ octets ∷ into_iter_items c.next.new.self ≡ inputs = ap (λ (xs : List (List ℕ)). yielded ++ xs) (sym steps) ∙ i.all in
    let given = c.into_iter-octets-iterator.ensures.into_iter_gives.0 in
    let below : number < length legs = omega (
      arith,
      c.len-number.ensures,
      i.len,
      ap (λ (xs : List (List ℕ)). length xs) whole,
      length-append yielded (octets ∷ into_iter_items c.next.new.self),
      ap (λ (xs : List (List ℕ)). length xs) given,
      c.requires.each,
    ) in
    let at : length yielded ≡ number = omega (arith, c.len-number.ensures, i.len) in
    let is : octets ≡ input_at inputs number =
    sym (get_or-append_seam yielded octets (into_iter_items c.next.new.self) []) ∙ (ap (λ (xs : List (List ℕ)). input_at xs (length yielded)) whole ∙ ap (λ (n : ℕ). input_at inputs n) at) in
    let got = leg_got legs number ∙ slice_get_read legs (length legs) number c.index-legs-number.result refl below c.index-legs-number.is in
    let over : IsOver (Unit {0}) left-value.it c.args.hearing c.args.limit c.index-legs-number.result octets c.in-Ok.inlet
    = subst (λ (os : List ℕ). IsOver (Unit {0}) left-value.it c.args.hearing c.args.limit c.index-legs-number.result os c.in-Ok.inlet) c.new-source.ensures c.in-Ok.ensures.over in
    record {
      all = append_assoc yielded (octets ∷ []) (into_iter_items c.next.new.self) ∙ whole;
      left = omega (arith, i.left, c.in-Some.ensures.steps.1, ap (λ (xs : List (List ℕ)). length xs) steps);
      count = ap (λ (xs : List (LegInlet SteadySource)). length xs) items ∙ omega (arith, length_push now c.in-Ok.inlet, length_push yielded octets, i.count);
      len = omega (arith, c.push_reserved.ensures.len, i.len, length_push yielded octets);
      room = omega (arith, c.push_reserved.ensures.capacity, i.room);
      over = subst (λ (xs : List (LegInlet SteadySource)). AllOver (Unit {0}) left-value.it c.args.hearing c.args.limit legs inputs xs) (sym items)
          (over_more (Unit {0}) left-value.it c.args.hearing c.args.limit number legs c.index-legs-number.result inputs octets now c.in-Ok.inlet i.over (omega (arith, i.count, at)) got is over);
    }

pub returns-clause-over : goal.returns-clause-over
returns-clause-over c = subst (λ (os : List (List ℕ)). AllOver (Unit {0}) left-value.it c.args.hearing c.args.limit c.args.legs.now os c.loop-octets.inlets.items) c.into_iter-octets-iterator.ensures.into_iter_gives.0 c.loop-octets.invariant.over
