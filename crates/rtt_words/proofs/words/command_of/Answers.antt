use Rattle.rtt_words.proofs.Plain.{command_off_rest, plain_rest}
use Rattle.rtt_words.proofs.words.command_of.Goals as goal

pub returns-then-not-all_plain-clause-wrong : goal.returns-then-not-all_plain-clause-wrong
returns-then-not-all_plain-clause-wrong c = λ _. command_off_rest c.args.words.now c.in-len1-up.len_at_least c.if-not-all_plain.ensures

pub named-requires : goal.named-requires
named-requires c = plain_rest c.args.words.now c.if-not-all_plain.ensures
