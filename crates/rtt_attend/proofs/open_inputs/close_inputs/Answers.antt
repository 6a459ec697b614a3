use Rattle.std.proofs.Common.{◌≡◌, suc, List, length, ap, refl, subst, sym, ◌∙◌, arith}
use Rattle.std.specs.Prelude.{slice_get, Some}
use Rattle.rtt_attend.proofs.open_inputs.close_inputs.Goals as goal

pub loop-source-init : goal.loop-source-init
loop-source-init g c = record {
  fresh = c.requires.fresh;
  whole = c.requires.whole;
  same_own = λ n. refl;
  same_objects = λ n. refl;
  same_contents = λ t n. refl;
}

pub loop-source-preserved : goal.loop-source-preserved
loop-source-preserved g c =
    let i = c.loop-source.invariant in
    let step = c.in-Some.ensures.cases in
    let many = ap (λ (l : List g.row.W-Src.Denot). length l) step.0 in
    record {
      fresh = λ j s at. i.fresh (suc j) s (subst (λ (l : List g.row.W-Src.Denot). slice_get l (suc j) ≡ Some s) (sym step.0) at);
      whole = omega (arith, many, i.whole, step.1);
      same_own = λ n. c.done_src.ensures.same_own n ∙ i.same_own n;
      same_objects = λ n. c.done_src.ensures.calm (i.fresh 0 c.in-Some.source (ap (λ (l : List g.row.W-Src.Denot). slice_get l 0) step.0)) n ∙ i.same_objects n;
      same_contents = λ t n. c.done_src.ensures.same_contents t n ∙ i.same_contents t n;
    }
