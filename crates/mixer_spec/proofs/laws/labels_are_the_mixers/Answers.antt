use Rattle.mixer_spec.proofs.laws.labels_are_the_mixers.Goals as goal
use Rattle.mixer_spec.proofs.Labels.{brackets_are_labels, stands_before_seen}

pub returns-clause-brackets : goal.returns-clause-brackets
returns-clause-brackets c = brackets_are_labels

pub returns-clause-place : goal.returns-clause-place
returns-clause-place c = stands_before_seen
