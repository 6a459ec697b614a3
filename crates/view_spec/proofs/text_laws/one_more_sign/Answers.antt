use Rattle.view_spec.proofs.Erasing.{erased, appended, marked, passed}
use Rattle.view_spec.proofs.text_laws.one_more_sign.Goals as goal

pub returns-clause-erasure : goal.returns-clause-erasure
returns-clause-erasure c = erased

pub returns-clause-erasable : goal.returns-clause-erasable
returns-clause-erasable c = appended

pub returns-clause-marker : goal.returns-clause-marker
returns-clause-marker c = marked

pub returns-clause-others : goal.returns-clause-others
returns-clause-others c = passed
