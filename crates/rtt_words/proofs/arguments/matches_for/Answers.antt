use Rattle.std.proofs.Common.{◌∙◌, ap}
use Rattle.clap.specs.Words.{first_of, found_of}
use Rattle.clap.proofs.WalkLemmas.{both, first_value-rows}
use Rattle.rtt_words.proofs.arguments.matches_for.Goals as goal

pub returns-clause-texts : goal.returns-clause-texts
returns-clause-texts c = λ id.
    first_value-rows (found_of c.in_ok-matches.matches) id ∙ ap (first_of id) (c.in_ok-matches.ensures.matches (both _ _ c.requires).0).0
