use Rattle.stream_spec.proofs.ByNumber.{all_by, by_more, by_texts}
use Rattle.stream_spec.proofs.one_by_one.chunks_one_by_one.Goals as goal

pub returns-clause-all : goal.returns-clause-all
returns-clause-all c = all_by

pub returns-clause-next : goal.returns-clause-next
returns-clause-next c = by_more

pub returns-clause-texts : goal.returns-clause-texts
returns-clause-texts c = by_texts
