use Rattle.mixer_spec.proofs.piece_laws.texts_are_cut.Goals as goal
use Rattle.mixer_spec.proofs.Cutting.{whole_law, short_law, text_law, stays_law}

pub returns-clause-whole : goal.returns-clause-whole
returns-clause-whole c = whole_law

pub returns-clause-short : goal.returns-clause-short
returns-clause-short c = short_law

pub returns-clause-text : goal.returns-clause-text
returns-clause-text c = text_law

pub returns-clause-stays : goal.returns-clause-stays
returns-clause-stays c = stays_law
