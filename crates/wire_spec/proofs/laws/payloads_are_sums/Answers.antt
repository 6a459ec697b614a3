use Rattle.wire_spec.proofs.BlockLaws.{red_only}
use Rattle.wire_spec.proofs.BlockParts.{red_found}
use Rattle.wire_spec.proofs.laws.payloads_are_sums.Goals as goal

pub returns-clause-only : goal.returns-clause-only
returns-clause-only c = red_only

pub returns-clause-found : goal.returns-clause-found
returns-clause-found c = red_found
