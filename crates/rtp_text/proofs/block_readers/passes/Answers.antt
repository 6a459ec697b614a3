use Rattle.std.proofs.lemmas.Str.{IsUtf8-from_ascii}
use Rattle.rtp_text.proofs.block_readers.passes.Goals as goal

pub returns-then-plain : goal.returns-then-plain
returns-then-plain c = ((λ _. IsUtf8-from_ascii c.args.text.now (c.requires c.if-plain.true)), (λ _. c.if-plain.true))
