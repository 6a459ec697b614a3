use Rattle.rtp_text.proofs.Steps.{block_refused, block_taken}
use Rattle.rtp_text.proofs.block_readers.append_block.Goals as goal

pub returns-then-not-passes : goal.returns-then-not-passes
returns-then-not-passes c = block_refused c.args.out.now c.args.offset c.args.text.now c.if-not-passes.ensures

pub returns : goal.returns
returns c = block_taken c.args.out.now c.args.offset c.args.text.now c.push_copy.new.self c.if-not-passes.ensures c.push_copy.ensures
