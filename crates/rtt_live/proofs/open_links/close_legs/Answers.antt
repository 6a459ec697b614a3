use Rattle.std.proofs.Common.{◌≡◌, ◌≢◌, ℕ, true, inl, refl, ap, subst, ◌∙◌, arith}
use Rattle.rtt_io.specs.Counts.{counted}
use Rattle.live_leg.specs.declared.paced_links.PacedLink.{PacedLink}
use Rattle.live_leg.specs.LinkLegs.{LinkLeg}
use Rattle.mixer_posts.proofs.Backward.{all_done, front_still, last_of_all}
use Rattle.rtt_live.proofs.Closing.{failed_more, stored_more}
use Rattle.rtt_live.proofs.open_links.close_legs.Goals as goal

pub loop-leg-init : goal.loop-leg-init
loop-leg-init g c = record { same_own = λ p. refl; pauses = refl; moment = refl; never_fall = λ p. omega arith; front = λ j x e. e; calm = λ a p. refl; failed = λ j x e. inl e; opened = λ t p. refl; leads = λ t. refl; other = λ t p. refl; stored = λ t own j x e. inl e }

pub loop-leg-preserved : goal.loop-leg-preserved
loop-leg-preserved g c =
    let faults : LinkLeg g.row.W-In.Denot → _ = λ leg. g.W.In.LinkIn.faults leg.arrivals.link in
    let port_of : LinkLeg g.row.W-In.Denot → _ = λ leg. g.W.In.LinkIn.port leg.arrivals.link in
    let objects = g.W.Links.object_faults in
    let i = c.loop-leg.invariant in
    let done = c.done_in.ensures in
    let all = c.args.legs.items in
    let now = c.loop-leg.legs.items in
    let xs = c.pop.new.self.items in
    let x = c.in-Some.leg in
    let items = c.in-Some.ensures.items in
    let link = c.into_link.ensures ∙ ap (λ (a : PacedLink g.row.W-In.Denot). a.link) c.into_arrivals.ensures in
    let added : objects c.done_in.new.self (port_of x) ≡ counted (objects c.loop-leg.world (port_of x)) (faults x) =
    subst (λ (s : g.row.W-In.Denot). objects c.done_in.new.self (g.W.In.LinkIn.port s) ≡ counted (objects c.loop-leg.world (g.W.In.LinkIn.port s)) (g.W.In.LinkIn.faults s)) link done.added in
    record {
      same_own = λ p. done.same_own p ∙ i.same_own p;
      pauses = done.same_pauses ∙ i.pauses;
      moment = done.same_moment ∙ i.moment;
      never_fall = λ p. omega (arith, i.never_fall p, done.objects_never_fall p);
      front = front_still all now xs x items i.front;
      calm = λ a p. done.calm (ap g.W.In.LinkIn.faults link ∙ a _ x (last_of_all all now xs x items i.front)) p ∙ i.calm a p;
      failed = failed_more all now xs x items faults port_of (objects c.args.world.now) (objects c.loop-leg.world) (objects c.done_in.new.self) i.never_fall done.objects_never_fall added i.failed;
      opened = λ t p. done.same_opened t p ∙ i.opened t p;
      leads = λ t. done.same_leads t ∙ i.leads t;
      other = λ t p. done.same_given t p ∙ i.other t p;
      stored = λ t own.
          let at : g.W.Links.opened c.loop-leg.world (port_of x) ≡ true → g.W.Links.taken_at c.done_in.new.self (port_of x) ≡ g.W.In.LinkIn.taken x.arrivals.link =
          subst (λ (s : g.row.W-In.Denot). g.W.Links.opened c.loop-leg.world (g.W.In.LinkIn.port s) ≡ true → g.W.Links.taken_at c.done_in.new.self (g.W.In.LinkIn.port s) ≡ g.W.In.LinkIn.taken s) link (done.stored t) in
          let others : (p : ℕ) → p ≢ port_of x → g.W.Links.taken_at c.done_in.new.self p ≡ g.W.Links.taken_at c.loop-leg.world p =
          subst (λ (s : g.row.W-In.Denot). (p : ℕ) → p ≢ g.W.In.LinkIn.port s → g.W.Links.taken_at c.done_in.new.self p ≡ g.W.Links.taken_at c.loop-leg.world p) link (done.other_taken t) in
          stored_more all now xs x items (λ (leg : LinkLeg g.row.W-In.Denot). g.W.In.LinkIn.taken leg.arrivals.link) port_of (g.W.Links.opened c.args.world.now) (g.W.Links.opened c.loop-leg.world) (g.W.Links.taken_at c.loop-leg.world) (g.W.Links.taken_at c.done_in.new.self)
          own (last_of_all all now xs x items i.front) (i.opened t (port_of x)) at others (i.stored t own);
    }

pub returns-clause-calm : goal.returns-clause-calm
returns-clause-calm g c = c.loop-leg.invariant.calm

pub returns-clause-failed : goal.returns-clause-failed
returns-clause-failed g c = λ j x e. all_done c.loop-leg.legs.items _ c.pop.result c.loop-leg.legs.ok.0 c.pop.ensures.variant.1 c.in_default.is j x (c.loop-leg.invariant.failed j x e)

pub returns-clause-stored : goal.returns-clause-stored
returns-clause-stored g c = λ t own j x e. all_done c.loop-leg.legs.items _ c.pop.result c.loop-leg.legs.ok.0 c.pop.ensures.variant.1 c.in_default.is j x (c.loop-leg.invariant.stored t own j x e)

pub returns-clause-same_given : goal.returns-clause-same_given
returns-clause-same_given g c = c.loop-leg.invariant.other

pub returns-clause-same_opened : goal.returns-clause-same_opened
returns-clause-same_opened g c = c.loop-leg.invariant.opened

pub returns-clause-same_leads : goal.returns-clause-same_leads
returns-clause-same_leads g c = c.loop-leg.invariant.leads
