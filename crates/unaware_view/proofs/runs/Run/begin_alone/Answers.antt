use Rattle.unaware_view.proofs.runs.Run.begin_alone.Goals as goal
use Rattle.std.proofs.Common.{[], ◌++◌, true, refl, ap, ◌∙◌}
use Rattle.view_spec.specs.TextViews.{label_after}
use Rattle.unaware_view.proofs.RunSteps.{opened}

pub returns-clause-alone : goal.returns-clause-alone
returns-clause-alone c = record {
  run_is = λ behind_cr. opened c.new.result true behind_cr [] true (c.new.ensures.run behind_cr);
  open_is = refl;
  text_is = c.label.ensures ∙ ap (λ xs. xs ++ label_after c.args.self.now.is_open c.args.name.now) c.requires.empty;
  has_chunk = c.new.ensures.empty;
}
