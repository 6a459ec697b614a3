use Rattle.recorded_links.proofs.Keeping.{all_still}
use Rattle.recorded_links.proofs.links.RecordedLinksLinks.pause_until.Goals as goal

pub invariant_of-self-clause-kept : goal.invariant_of-self-clause-kept
invariant_of-self-clause-kept g c = λ tells.
    let l = g.L.Links in
    let ends = g.L.In.LinkIn.tells × g.L.Out.LinkOut.tells in
    let old = c.args.self.now.links in
    let mid = c.pause_until.new.self in
    let next = c.now-moment.new.self in
    let one = c.pause_until.ensures in
    let two = c.now-moment.ensures in
    let ps = c.args.self.now.places.items in
    all_still ends (l.opened mid) (l.opened next) g.C.Call.before (l.leads mid) (l.leads next) (l.taken_at mid) (l.taken_at next) (l.given_at mid) (l.given_at next) ps
    (two.same_opened tells) (two.same_leads tells) (two.same_taken tells) (two.same_given tells)
    (all_still ends (l.opened old) (l.opened mid) g.C.Call.before (l.leads old) (l.leads mid) (l.taken_at old) (l.taken_at mid) (l.given_at old) (l.given_at mid) ps
    (one.same_opened tells) (one.same_leads tells) (one.same_taken tells) (one.same_given tells) (c.args.self.now.kept tells))
