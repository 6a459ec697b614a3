use Rattle.stream_spec.proofs.laws.sent_is_lawful.Goals as goal
use Rattle.stream_spec.proofs.Sent.{sent_lawful, sent_own, last_is_sent}
use Rattle.stream_spec.proofs.Closing.{sent_closed}

pub returns-clause-lawful : goal.returns-clause-lawful
returns-clause-lawful c = sent_lawful

pub returns-clause-own : goal.returns-clause-own
returns-clause-own c = sent_own

pub returns-clause-last : goal.returns-clause-last
returns-clause-last c = last_is_sent

pub returns-clause-closed : goal.returns-clause-closed
returns-clause-closed c s past quiet = sent_closed s past (λ z i. quiet z.source)
