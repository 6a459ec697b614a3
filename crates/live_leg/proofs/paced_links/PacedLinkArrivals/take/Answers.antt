use Rattle.live_leg.proofs.Pacing.{link_came, link_failed, link_told}
use Rattle.live_leg.proofs.paced_links.PacedLinkArrivals.take.Goals as goal

pub returns-then-load-clause-failed : goal.returns-then-load-clause-failed
returns-then-load-clause-failed g c = link_told g.L.LinkIn c.args.self.now

pub returns-in-Ok-clause-came : goal.returns-in-Ok-clause-came
returns-in-Ok-clause-came g c = link_came g.L.LinkIn c.args.self.now _ c.in-Ok.taken c.take.new.out c.in-Ok.ensures.appended c.in-Ok.ensures.closing c.in-Ok.ensures.calm c.in-Ok.ensures.same_port

pub returns-in-Err-clause-failed : goal.returns-in-Err-clause-failed
returns-in-Err-clause-failed g c = link_failed g.L.LinkIn c.args.self.now _ c.in-Err.ensures.unchanged c.in-Err.ensures.still_open c.in-Err.ensures.never_falls c.in-Err.ensures.failed c.in-Err.ensures.same_port
