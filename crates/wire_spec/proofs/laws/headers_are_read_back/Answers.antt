use Rattle.wire_spec.proofs.Written.{rtp_read_back, rtp_one_reading}
use Rattle.wire_spec.proofs.laws.headers_are_read_back.Goals as goal

pub returns-clause-again : goal.returns-clause-again
returns-clause-again c = rtp_read_back

pub returns-clause-alone : goal.returns-clause-alone
returns-clause-alone c = rtp_one_reading
