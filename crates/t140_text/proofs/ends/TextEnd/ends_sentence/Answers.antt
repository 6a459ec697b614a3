use Rattle.t140_text.proofs.ends.TextEnd.ends_sentence.Goals as goal
use Rattle.std.proofs.Common.{◌∙◌}
use Rattle.t140_text.proofs.Endings.{sentence_of}

pub returns-clause-sentence : goal.returns-clause-sentence
returns-clause-sentence c text h = c.is_sentence_end.ensures ∙ sentence_of c.args.self.now text h
