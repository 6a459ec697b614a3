use Rattle.std.proofs.Common.{◌≡◌, ap, sym, ◌∙◌, arith, length}
use Rattle.recorded_links.specs.declared.names.Way.TheVariants.{Out}
use Rattle.recorded_links.specs.Kept.{IsHadBack, IsKept, IsPlaceIn}
use Rattle.recorded_links.proofs.Keeping.{all_moved, kept_out, place_back}
use Rattle.recorded_links.proofs.links.RecordedLinksLinks.done_out.Goals as goal

pub invariant_of-self : goal.invariant_of-self
invariant_of-self g c =
    let rs = g.C.Call.recordings in
    let places = c.args.self.now.places in
    let lent = c.as_mut_slice.result.now in
    let new = c.take_back.new.places in
    let is = c.as_mut_slice.ensures.value in
    let still = c.take_back.auto.places in
    let low = ap (λ l. length l) is in
    let many : length new ≡ places.len = omega (arith, still, low, places.ok.0) in
    let port = c.into_parts-link.result.1 in
    let noter = c.into_parts-link.result.2 in
    let at = c.into_parts-link.ensures.at in
    let l = g.L.Links in
    let old = c.args.self.now.links in
    let next = c.done_out.new.self in
    let done = c.done_out.ensures in
    let ends = g.L.In.LinkIn.tells × g.L.Out.LinkOut.tells in
    record {
      placed = all_moved (IsPlaceIn rs) (IsPlaceIn rs) (IsHadBack port Out noter) (place_back rs port Out noter c.into_parts-link.ensures.known) places lent new is many c.take_back.ensures c.args.self.now.placed;
      kept = λ tells. all_moved
          (IsKept ends (l.opened old) g.C.Call.before (l.leads old) (l.taken_at old) (l.given_at old))
          (IsKept ends (l.opened next) g.C.Call.before (l.leads next) (l.taken_at next) (l.given_at next))
          (IsHadBack port Out noter)
          (kept_out ends (l.opened old) (l.opened next) g.C.Call.before (l.leads old) (l.leads next) (l.taken_at old) (l.taken_at next) (l.given_at old) (l.given_at next) port noter (g.L.Out.LinkOut.given c.into_parts-link.result.0)
          (done.same_opened tells) (done.same_leads tells) (λ x other. done.other_given tells x (λ e. other (e ∙ sym at)))
          (λ o. ap (l.given_at next) at ∙ done.stored tells (ap (l.opened old) (sym at) ∙ o)) (done.same_taken tells) (λ e. c.into_parts-link.ensures.noted e.1))
          places lent new is many c.take_back.ensures (c.args.self.now.kept tells);
    }
