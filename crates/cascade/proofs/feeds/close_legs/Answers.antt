use Rattle.std.proofs.Common.{inl, inr, refl, subst, sym, ◌∙◌, arith}
use Rattle.mixer_posts.proofs.Backward.{all_done, front_still, last_of_all, left_or_last}
use Rattle.leg.specs.declared.inlets.LegInlet.{LegInlet}
use Rattle.leg.specs.Answers.{source_in}
use Rattle.cascade.specs.declared.trunk_sources.TrunkSource.{TrunkSource}
use Rattle.cascade.specs.TrunkSources.{faults_in, name_in}
use Rattle.cascade.specs.Feeding.{AddsFaults, RisesFor}
use Rattle.cascade.proofs.MixedOpening.{left_by, risen_by, risen_on}
use Rattle.cascade.proofs.feeds.close_legs.Goals as goal

pub loop-inlet-init : goal.loop-inlet-init
loop-inlet-init g c = record { same_own = λ n. refl; never_fall = λ n. omega arith; contents = λ t n. refl; front = λ j p e. e; calm = λ a n. refl; failed = λ j p e. inl e; left = λ t n h. refl }

pub loop-inlet-preserved : goal.loop-inlet-preserved
loop-inlet-preserved g c =
    let faults = faults_in g.W.Src.Source.faults in
    let name = name_in g.W.Src.Source.name in
    let held = g.W.World.contents in
    let objects = g.W.World.object_faults in
    let i = c.loop-inlet.invariant in
    let done = c.hand_back.ensures in
    let x = c.in-Some.inlet in
    let last = last_of_all c.args.inlets.items c.loop-inlet.inlets.items c.pop.new.self.items x c.in-Some.ensures.items i.front in
    let adds : AddsFaults g.W.World.tells (held c.loop-inlet.world) (objects c.loop-inlet.world) (objects c.hand_back.new.world) (faults (source_in x)) (name (source_in x)) =
    subst (λ (s : TrunkSource g.row.W-Src.Denot). AddsFaults g.W.World.tells (held c.loop-inlet.world) (objects c.loop-inlet.world) (objects c.hand_back.new.world) (faults s) (name s)) c.into_source.ensures done.counts in
    record {
      same_own = λ n. done.same_own n ∙ i.same_own n;
      never_fall = λ n. omega (arith, i.never_fall n, done.objects_never_fall n);
      contents = λ t n. done.same_contents t n ∙ i.contents t n;
      front = front_still c.args.inlets.items c.loop-inlet.inlets.items c.pop.new.self.items x c.in-Some.ensures.items i.front;
      calm = λ a n. adds.calm (a _ x last) n ∙ i.calm a n;
      failed = λ j p e. elim (i.failed j p e) [
        | inl at ↦ elim (left_or_last c.args.inlets.items c.loop-inlet.inlets.items c.pop.new.self.items x c.in-Some.ensures.items j p at) [
          | inl f ↦ inl f
          | inr q ↦ inr (subst (λ (y : LegInlet (TrunkSource g.row.W-Src.Denot)). RisesFor faults name (objects c.args.world.now) (objects c.hand_back.new.world) (source_in y)) (sym q)
              (risen_by g.W.World.tells faults name (held c.loop-inlet.world) (objects c.args.world.now) (objects c.loop-inlet.world) (objects c.hand_back.new.world) (source_in x) i.never_fall adds))
        ]
        | inr past ↦ inr (risen_on faults name (objects c.args.world.now) (objects c.loop-inlet.world) (objects c.hand_back.new.world) (source_in p) i.never_fall done.objects_never_fall past)
      ];
      left = λ t n h.
          left_by g.W.World.tells faults name (held c.args.world.now) (held c.loop-inlet.world) (objects c.loop-inlet.world) (objects c.hand_back.new.world) (source_in x) n t (i.contents t) adds (h _ x last)
          ∙ i.left t n h;
    }

pub returns-clause-calm : goal.returns-clause-calm
returns-clause-calm g c = c.loop-inlet.invariant.calm

pub returns-clause-left : goal.returns-clause-left
returns-clause-left g c = c.loop-inlet.invariant.left

pub returns-clause-failed : goal.returns-clause-failed
returns-clause-failed g c = λ j p e. all_done c.loop-inlet.inlets.items _ c.pop.result c.loop-inlet.inlets.ok.0 c.pop.ensures.variant.1 c.in_default.is j p (c.loop-inlet.invariant.failed j p e)
