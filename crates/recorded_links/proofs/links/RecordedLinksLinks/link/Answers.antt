use Rattle.std.proofs.Common.{◌≡◌, ap, arith, length, sym, subst, ◌∙◌}
use Rattle.std.specs.Prelude.{All}
use Rattle.std.proofs.lemmas.Option.{IfSome_then}
use Rattle.recorded_links.specs.Coming.{takes_noted}
use Rattle.recorded_links.specs.Kept.{IsGivenOut, IsKept, IsPlaceIn}
use Rattle.recorded_links.proofs.Keeping.{all_moved, kept_given, place_given}
use Rattle.recorded_links.proofs.links.RecordedLinksLinks.link.Goals as goal

pub invariant_of-self-2 : goal.invariant_of-self-2
invariant_of-self-2 g c =
    let rs = g.C.Call.recordings in
    let places = c.args.self.now.places in
    let lent = c.as_mut_slice.result.now in
    let new = c.give_out-notes_in.new.places in
    let is = c.as_mut_slice.ensures.value in
    let still = c.give_out-notes_in.auto.places in
    let low = ap (λ l. length l) is in
    let many : length new ≡ places.len = omega (arith, still, low, places.ok.0) in
    let port = c.args.port in
    let l = g.L.Links in
    let old = c.args.self.now.links in
    let next = c.link.new.self in
    let ends = g.L.In.LinkIn.tells × g.L.Out.LinkOut.tells in
    record {
      placed = all_moved (IsPlaceIn rs) (IsPlaceIn rs) (IsGivenOut port) (place_given rs port) places lent new is many c.give_out-notes_in.ensures.places c.args.self.now.placed;
      kept = λ tells. all_moved
          (IsKept ends (l.opened old) g.C.Call.before (l.leads old) (l.taken_at old) (l.given_at old))
          (IsKept ends (l.opened next) g.C.Call.before (l.leads next) (l.taken_at next) (l.given_at next))
          (IsGivenOut port)
          (kept_given ends (l.opened old) (l.opened next) g.C.Call.before (l.leads old) (l.leads next) (l.taken_at old) (l.taken_at next) (l.given_at old) (l.given_at next) port c.args.to.now
          (c.in-Ok.ensures.told tells) (c.in-Ok.ensures.opens tells) (c.link.ensures.stay_opened tells) (c.in-Ok.ensures.leads_there tells) (c.link.ensures.same_taken tells) (c.link.ensures.same_given tells))
          places lent new is many c.give_out-notes_in.ensures.places (c.args.self.now.kept tells);
    }

pub new-requires-clause-known : goal.new-requires-clause-known
new-requires-clause-known g c =
    let rs = g.C.Call.recordings in
    c.give_out-notes_in.ensures.known_in rs (subst (All (IsPlaceIn rs)) (sym c.as_mut_slice.ensures.value) c.args.self.now.placed)

pub new-requires-2-clause-known : goal.new-requires-2-clause-known
new-requires-2-clause-known g c =
    let rs = g.C.Call.recordings in
    c.give_out-notes_in.ensures.known_out rs (subst (All (IsPlaceIn rs)) (sym c.as_mut_slice.ensures.value) c.args.self.now.placed)

pub new-requires-clause-noted : goal.new-requires-clause-noted
new-requires-clause-noted g c = λ tells. IfSome_then c.give_out-notes_in.result.0 c.give_out-notes_in.ensures.fresh_in
    (λ n fresh over. fresh ∙ sym (ap takes_noted c.in-Ok.ensures.none.0))
