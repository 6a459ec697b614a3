use Rattle.cascade.proofs.Splitting.{closes_held, closes_empty}
use Rattle.cascade.proofs.splitters.SourceRecording.close.Goals as goal

pub returns-in_ok-write-clause-closes : goal.returns-in_ok-write-clause-closes
returns-in_ok-write-clause-closes c = closes_held c.args.self.now c.write.new.self c.if-self.true c.in_ok-write.ensures.writes

pub returns-else-self-clause-closes : goal.returns-else-self-clause-closes
returns-else-self-clause-closes c = closes_empty c.args.self.now c.if-self.false
