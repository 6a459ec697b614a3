use Rattle.recorded_links.proofs.Keeping.{all_still}
use Rattle.recorded_links.proofs.links.RecordedLinksLinks.now.Goals as goal

pub invariant_of-self-clause-kept : goal.invariant_of-self-clause-kept
invariant_of-self-clause-kept g c = λ tells.
    let l = g.L.Links in
    let old = c.args.self.now.links in
    let next = c.now-moment.new.self in
    let done = c.now-moment.ensures in
    all_still (g.L.In.LinkIn.tells × g.L.Out.LinkOut.tells) (l.opened old) (l.opened next) g.C.Call.before (l.leads old) (l.leads next) (l.taken_at old) (l.taken_at next) (l.given_at old) (l.given_at next) c.args.self.now.places.items
    (done.same_opened tells) (done.same_leads tells) (done.same_taken tells) (done.same_given tells) (c.args.self.now.kept tells)
