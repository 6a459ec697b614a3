use Rattle.wire_spec.proofs.BlockLaws.{red_read_back, red_one_reading}
use Rattle.wire_spec.proofs.laws.blocks_are_read_back.Goals as goal

pub returns-clause-again : goal.returns-clause-again
returns-clause-again c = red_read_back

pub returns-clause-alone : goal.returns-clause-alone
returns-clause-alone c = red_one_reading
