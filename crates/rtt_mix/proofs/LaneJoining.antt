-- What was mixed of lanes is what their legs gave.
use Rattle.std.proofs.Common.{ℕ, List, ap, ◌∙◌, subst, arith}
use Rattle.std.proofs.lemmas.Option.{slice_get_within}
use Rattle.mixer_spec.specs.Setups.{Setup}
use Rattle.mixer_spec.specs.Table.{Call}
use Rattle.workers.specs.declared.lanes.Worker.{Worker}
use Rattle.workers.specs.Lanes.{AreBack, AreNew, AreStarted, popped_of}
use Rattle.mix_loop.specs.declared.answers.Answer.{Answer}
use Rattle.mix_loop.specs.declared.turns.MixEnd.{MixEnd}
use Rattle.mix_loop.specs.Answers.{GaveAs, gave_of}
use Rattle.mix_loop.specs.Items.{Gave, is_open}
use Rattle.mix_loop.specs.Lanes.{LaneStands}
use Rattle.mix_loop.specs.Mixing.{MixedAll, NoneGave}
use Rattle.mix_loop.proofs.Answering.{all_came}
use Rattle.stream_spec.proofs.Plain.{get_at as is_there}

-- legs that gave nothing yet give nothing by their answers
pub are_new : {I F : Type 0} (stands : I → I → Gave F → Type 0) (legs : List I) → NoneGave stands legs → AreNew (GaveAs stands) legs
are_new stands legs none j i e = record { gives = none j i e; once = tt }

module _ {I F G : Type 0} (stands : I → I → Gave F → Type 0) where
  module _ (legs : List I) (begun : List (Worker (Answer F) I G)) (started : AreStarted (GaveAs stands) legs begun) where
    pub none_popped : NoneGave (LaneStands (GaveAs stands)) begun
    none_popped j lane e =
        let r = is_there legs j (let low = slice_get_within begun j lane e in let many = started.many in omega arith) in
        record { popped = ap gave_of (started.are j r.0 lane r.1 e).none; runs = λ first x. x }

    pub legs_mixed : {M T : Type 0} (mixes : M → Setup → List Call → Type 0) (s : Setup) (tick turns : ℕ) (answer : MixEnd F T) (ended : List (Worker (Answer F) I G)) (back : List I) (m : M)
        → AreBack (GaveAs stands) ended back → MixedAll (LaneStands (GaveAs stands)) mixes s tick turns answer begun ended m → MixedAll stands mixes s tick turns answer legs back m
    legs_mixed mixes s tick turns answer ended back m comes x = record {
      gave = x.gave;
      table = x.table;
      legs = λ j now e.
          let r = is_there ended j (let low = slice_get_within back j now e in let many = comes.many in omega arith) in
          let g = x.legs j r.0 r.1 in
          let p = is_there legs j (let low = slice_get_within begun j g.first g.of in let many = started.many in omega arith) in
          let w = comes.are j r.0 now r.1 e p.0 (g.gives.runs p.0 (started.are j p.0 g.first p.1 g.of).runs) in
          record {
            first = p.0;
            of = p.1;
            gives = subst (λ (y : Gave F). stands p.0 now y) g.gives.popped
                (all_came stands p.0 now (popped_of r.0) w.0 w.1 (ap (λ (y : Gave F). is_open y.ended) g.gives.popped ∙ g.closed));
            closed = g.closed;
          };
      above = x.above;
      mixed = x.mixed;
      tells = x.tells;
    }
