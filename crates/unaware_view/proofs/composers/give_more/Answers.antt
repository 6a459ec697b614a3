use Rattle.unaware_view.proofs.composers.give_more.Goals as goal
use Rattle.std.proofs.Common.{ℕ, List, [], inl, inr, subst}
use Rattle.mixer_spec.specs.Chunks.{front}
use Rattle.unaware_view.specs.Runs.{GoesOn}
use Rattle.unaware_view.proofs.Written.{to_come}

pub returns-then-run-clause-gives : goal.returns-then-run-clause-gives
returns-then-run-clause-gives c = λ s t h alone behind_cr before a r.
    let w = (t.terminals c.args.own).waits c.args.speaker in
    inl (record {
      labelled = c.if-run.true;
      goes = subst (λ (n : List ℕ). GoesOn n c.args.run.now c.go_on.new.run alone behind_cr before (front c.args.room w) [] c.go_on.new.text) c.as_str.ensures (c.go_on.ensures.goes_on s t h alone behind_cr before a r);
      stands = c.go_on.ensures.slots s t h;
    })

pub returns-else-run-clause-gives : goal.returns-else-run-clause-gives
returns-else-run-clause-gives c = λ s t h alone behind_cr before a r.
    inr (record {
      labelled = c.if-run.false;
      headed = c.give_headed.ensures.gives s t h behind_cr before a (to_come c.args.run.now alone behind_cr before c.if-run.false r);
    })
