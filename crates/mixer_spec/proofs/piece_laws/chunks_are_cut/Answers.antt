use Rattle.mixer_spec.proofs.piece_laws.chunks_are_cut.Goals as goal
use Rattle.mixer_spec.proofs.Chunks.{texts_law, short_law, rises_law, stay_law}

pub returns-clause-texts : goal.returns-clause-texts
returns-clause-texts c = texts_law

pub returns-clause-short : goal.returns-clause-short
returns-clause-short c = short_law

pub returns-clause-rises : goal.returns-clause-rises
returns-clause-rises c = rises_law

pub returns-clause-stays : goal.returns-clause-stays
returns-clause-stays c = stay_law
