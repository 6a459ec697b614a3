use Rattle.std.proofs.Common.{◌≡◌, inl, inr, refl, ap, subst, sym, ◌∙◌, arith}
use Rattle.rtt_io.specs.Counts.{counted}
use Rattle.mixer_posts.proofs.Backward.{all_done, front_still, last_of_all, left_or_last}
use Rattle.leg.specs.declared.inlets.LegInlet.{LegInlet}
use Rattle.leg.specs.Answers.{source_in}
use Rattle.rtt_mix.specs.Opened.{LeavesCount}
use Rattle.rtt_mix.proofs.Opening.{left_by, rose_behind, rose_on}
use Rattle.rtt_mix.proofs.legs.close_legs.Goals as goal

pub loop-inlet-init : goal.loop-inlet-init
loop-inlet-init g c = record { same_own = λ n. refl; never_fall = λ n. omega arith; contents = λ t n. refl; front = λ j p e. e; calm = λ a n. refl; failed = λ j p e. inl e; left = λ t n h. refl }

pub loop-inlet-preserved : goal.loop-inlet-preserved
loop-inlet-preserved g c =
    let faults = g.W.Src.Source.faults in
    let name = g.W.Src.Source.name in
    let objects = g.W.World.object_faults in
    let i = c.loop-inlet.invariant in
    let done = c.done_src.ensures in
    let source = c.into_source.ensures in
    let x = c.in-Some.inlet in
    let last = last_of_all c.args.inlets.items c.loop-inlet.inlets.items c.pop.new.self.items x c.in-Some.ensures.items i.front in
    record {
      same_own = λ n. done.same_own n ∙ i.same_own n;
      never_fall = λ n. omega (arith, i.never_fall n, done.objects_never_fall n);
      contents = λ t n. done.same_contents t n ∙ i.contents t n;
      front = front_still c.args.inlets.items c.loop-inlet.inlets.items c.pop.new.self.items x c.in-Some.ensures.items i.front;
      calm = λ a n. done.calm (ap faults source ∙ a _ x last) n ∙ i.calm a n;
      failed = λ j p e. elim (i.failed j p e) [
        | inl at ↦ elim (left_or_last c.args.inlets.items c.loop-inlet.inlets.items c.pop.new.self.items x c.in-Some.ensures.items j p at) [
          | inl f ↦ inl f
          | inr q ↦ inr (λ r.
              let is = source ∙ ap (λ (y : LegInlet g.row.W-Src.Denot). source_in y) (sym q) in
              let added = subst (λ (s : g.row.W-Src.Denot). objects c.done_src.new.self (name s) ≡ counted (objects c.loop-inlet.world (name s)) (faults s)) is done.added in
              rose_behind (objects c.args.world.now (name (source_in p))) (objects c.loop-inlet.world (name (source_in p))) (objects c.done_src.new.self (name (source_in p))) (faults (source_in p)) (i.never_fall (name (source_in p))) added r)
        ]
        | inr past ↦ inr (λ r. rose_on (objects c.args.world.now (name (source_in p))) (objects c.loop-inlet.world (name (source_in p))) (objects c.done_src.new.self (name (source_in p))) (i.never_fall (name (source_in p))) (done.objects_never_fall (name (source_in p))) (past r))
      ];
      left = λ t n h.
          left_by faults name (g.W.World.contents c.args.world.now) (g.W.World.contents c.loop-inlet.world) (objects c.loop-inlet.world) (objects c.done_src.new.self) c.into_source.result n (i.contents t) done.calm (done.no_other t)
          (subst (λ (s : g.row.W-Src.Denot). LeavesCount faults name (g.W.World.contents c.args.world.now) n s) (sym source) (h _ x last))
          ∙ i.left t n h;
    }

pub returns-clause-counts : goal.returns-clause-counts
returns-clause-counts g c = record {
  calm = c.loop-inlet.invariant.calm;
  failed = λ j p e. all_done c.loop-inlet.inlets.items _ c.pop.result c.loop-inlet.inlets.ok.0 c.pop.ensures.variant.1 c.in_default.is j p (c.loop-inlet.invariant.failed j p e);
  left = c.loop-inlet.invariant.left;
}
