use Rattle.std.proofs.Math.Logic.{∥∥₁_map}
use Rattle.std.proofs.Common.{sym, subst}
use Rattle.std.specs.Prelude.{All}
use Rattle.recorded_links.specs.Kept.{AreWhole, IsPlaceIn}
use Rattle.recorded_links.specs.Recordings.{HaveOwnNames}
use Rattle.recorded_links.proofs.Keeping.{are_recorded}
use Rattle.recorded_links.proofs.links.RecordedLinks.finish.Goals as goal

pub end_all-failed-requires-after_bounds : goal.end_all-failed-requires-after_bounds
end_all-failed-requires-after_bounds g c κs within = subst (λ rs. All (IsPlaceIn rs) c.args.self.places.items) (sym c.finish-journals.result.are) c.args.self.placed

pub returns-clause-recorded : goal.returns-clause-recorded
returns-clause-recorded g c = λ tells told whole.
    let all = c.args.self in
    let kept = c.finish-journals.result in
    let l = g.L.Links in
    let contents = g.J.Journals.contents c.end_all-failed.new.journals in
    ∥∥₁_map (kept.have tells) (λ h. are_recorded g.C.Call.recordings (g.L.In.LinkIn.tells × g.L.Out.LinkOut.tells) (l.opened all.links) g.C.Call.before (l.leads all.links) (l.taken_at all.links) (l.given_at all.links) contents
    all.places.items all.placed (all.kept told)
    (subst (λ rs. AreWhole rs all.places.items contents) kept.are
    (c.end_all-failed.ensures.whole tells whole (subst HaveOwnNames (sym kept.are) (kept.apart tells)) h)))
