use Rattle.unaware_view.proofs.composers.go_on.Goals as goal
use Rattle.std.proofs.Common.{ℕ, ◌≡◌, ◌++◌, List, subst, ap, ◌∙◌}
use Rattle.mixer_spec.specs.Chunks.{joined, front}
use Rattle.mixer_spec.proofs.Texts.{front_texts}
use Rattle.unaware_view.specs.Runs.{GoesOn}

pub returns-clause-goes_on : goal.returns-clause-goes_on
returns-clause-goes_on c = λ s t h alone behind_cr before a r.
    let w = (t.terminals c.args.own).waits c.args.speaker in
    let e : c.as_slice.result.now ≡ joined (front c.args.room w) =
    c.as_slice.ensures.value ∙ (c.take.ensures.text s t h ∙ ap (λ (l : List ℕ). l ++ joined (front c.args.room w)) c.clear.ensures) in
    subst (λ (l : List ℕ). GoesOn c.args.name.now c.args.run.now c.write.new.run alone behind_cr before (front c.args.room w) l c.write.new.text) c.requires.text
    (c.write.ensures.goes_on alone behind_cr before (front c.args.room w) r (front_texts c.args.room w a) e)
