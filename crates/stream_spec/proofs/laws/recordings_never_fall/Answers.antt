use Rattle.stream_spec.proofs.laws.recordings_never_fall.Goals as goal
use Rattle.stream_spec.proofs.Falls.{items_law, falls_law, ready_law}

pub returns-clause-items : goal.returns-clause-items
returns-clause-items c = items_law

pub returns-clause-times : goal.returns-clause-times
returns-clause-times c = falls_law

pub returns-clause-ready : goal.returns-clause-ready
returns-clause-ready c = ready_law
