use Rattle.std.proofs.Common.{ap, sym, ◌-◌, ◌∙◌}
use Rattle.rtp_text.proofs.Spelling.{redundant_length}
use Rattle.rtp_text.proofs.block_writers.BlocksOlderBlocks.len.Goals as goal

pub returns : goal.returns
returns c = λ _. c.saturating_sub.ensures ∙ (ap (λ n. n - 1) c.len.ensures.value ∙ sym (redundant_length c.args.self.now))
