use Rattle.std.proofs.Common.{inl, refl, ◌∙◌, arith}
use Rattle.mixer_posts.proofs.Backward.{all_done, front_still, last_of_all}
use Rattle.rtt_live.proofs.Closing.{failed_more, nothing_more, stored_more}
use Rattle.rtt_live.proofs.open_links.close_ends.Goals as goal

pub loop-end-init : goal.loop-end-init
loop-end-init g c = record { same_own = λ p. refl; pauses = refl; moment = refl; never_fall = λ p. omega arith; front = λ j x e. e; calm = λ a p. refl; failed = λ j x e. inl e; opened = λ t p. refl; leads = λ t. refl; other = λ t p. refl; stored = λ t own j x e. inl e; nothing = λ t e p. inl refl }

pub loop-end-preserved : goal.loop-end-preserved
loop-end-preserved g c =
    let faults : g.row.W-Out.Denot → _ = g.W.Out.LinkOut.faults in
    let port_of : g.row.W-Out.Denot → _ = g.W.Out.LinkOut.port in
    let objects = g.W.Links.object_faults in
    let i = c.loop-end.invariant in
    let done = c.done_out.ensures in
    let all = c.args.ends.items in
    let now = c.loop-end.ends.items in
    let xs = c.pop.new.self.items in
    let x = c.in-Some.end in
    let items = c.in-Some.ensures.items in
    record {
      same_own = λ p. done.same_own p ∙ i.same_own p;
      pauses = done.same_pauses ∙ i.pauses;
      moment = done.same_moment ∙ i.moment;
      never_fall = λ p. omega (arith, i.never_fall p, done.objects_never_fall p);
      front = front_still all now xs x items i.front;
      calm = λ a p. done.calm (a _ x (last_of_all all now xs x items i.front)) p ∙ i.calm a p;
      failed = failed_more all now xs x items faults port_of (objects c.args.world.now) (objects c.loop-end.world) (objects c.done_out.new.self) i.never_fall done.objects_never_fall done.added i.failed;
      opened = λ t p. done.same_opened t p ∙ i.opened t p;
      leads = λ t. done.same_leads t ∙ i.leads t;
      other = λ t p. done.same_taken t p ∙ i.other t p;
      stored = λ t own. stored_more all now xs x items g.W.Out.LinkOut.given port_of (g.W.Links.opened c.args.world.now) (g.W.Links.opened c.loop-end.world) (g.W.Links.given_at c.loop-end.world) (g.W.Links.given_at c.done_out.new.self)
          own (last_of_all all now xs x items i.front) (i.opened t (port_of x)) (done.stored t) (done.other_given t) (i.stored t own);
      nothing = λ t empty.
          let last = empty _ x (last_of_all all now xs x items i.front) in
          nothing_more (port_of x) (g.W.Links.given_at c.args.world.now) (g.W.Links.given_at c.loop-end.world) (g.W.Links.given_at c.done_out.new.self)
          (done.stored t (i.opened t (port_of x) ∙ last.1) ∙ last.0) (done.other_given t) (i.nothing t empty);
    }

pub returns-clause-calm : goal.returns-clause-calm
returns-clause-calm g c = c.loop-end.invariant.calm

pub returns-clause-failed : goal.returns-clause-failed
returns-clause-failed g c = λ j x e. all_done c.loop-end.ends.items _ c.pop.result c.loop-end.ends.ok.0 c.pop.ensures.variant.1 c.in_default.is j x (c.loop-end.invariant.failed j x e)

pub returns-clause-stored : goal.returns-clause-stored
returns-clause-stored g c = λ t own j x e. all_done c.loop-end.ends.items _ c.pop.result c.loop-end.ends.ok.0 c.pop.ensures.variant.1 c.in_default.is j x (c.loop-end.invariant.stored t own j x e)

pub returns-clause-same_taken : goal.returns-clause-same_taken
returns-clause-same_taken g c = c.loop-end.invariant.other

pub returns-clause-same_opened : goal.returns-clause-same_opened
returns-clause-same_opened g c = c.loop-end.invariant.opened

pub returns-clause-same_leads : goal.returns-clause-same_leads
returns-clause-same_leads g c = c.loop-end.invariant.leads

pub returns-clause-empty : goal.returns-clause-empty
returns-clause-empty g c = c.loop-end.invariant.nothing
