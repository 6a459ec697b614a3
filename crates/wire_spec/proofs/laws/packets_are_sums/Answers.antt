use Rattle.wire_spec.proofs.HeaderLaws.{rtp_only}
use Rattle.wire_spec.proofs.HeaderParts.{rtp_found}
use Rattle.wire_spec.proofs.laws.packets_are_sums.Goals as goal

pub returns-clause-only : goal.returns-clause-only
returns-clause-only c = rtp_only

pub returns-clause-found : goal.returns-clause-found
returns-clause-found c = rtp_found
