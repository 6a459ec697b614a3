use Rattle.receiver.proofs.Parts.{octets_more}
use Rattle.receiver.proofs.receivers.append_older.Goals as goal

pub loop-block-preserved : goal.loop-block-preserved
loop-block-preserved c = octets_more c.args.seen c.args.timestamp c.args.older.now c.loop-block.block-index c.block-item.result c.args.out.now c.loop-block.out c.append_new.new.out c.block-item.is c.loop-block-test.true c.loop-block.invariant c.in_ok-append_new.ensures
