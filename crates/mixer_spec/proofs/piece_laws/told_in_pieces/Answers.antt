use Rattle.mixer_spec.proofs.piece_laws.told_in_pieces.Goals as goal
use Rattle.mixer_spec.proofs.PieceTold.{said_law, told_law}

pub returns-clause-said : goal.returns-clause-said
returns-clause-said c = said_law

pub returns-clause-each : goal.returns-clause-each
returns-clause-each c = told_law
