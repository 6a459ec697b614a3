use Rattle.mixer_spec.proofs.piece_laws.texts_are_characters.Goals as goal
use Rattle.mixer_spec.proofs.Characters.{characters_law, each_law, follow_law, groups_law, pieces_law}

pub returns-clause-whole : goal.returns-clause-whole
returns-clause-whole c = characters_law

pub returns-clause-each : goal.returns-clause-each
returns-clause-each c = each_law

pub returns-clause-follow : goal.returns-clause-follow
returns-clause-follow c = follow_law

pub returns-clause-pieces : goal.returns-clause-pieces
returns-clause-pieces c = pieces_law

pub returns-clause-groups : goal.returns-clause-groups
returns-clause-groups c = groups_law
