use Rattle.std.proofs.Common.{refl}
use Rattle.reorder_buffer.specs.Stories.{Story, went}
use Rattle.receiver.proofs.Giving.{moves}
use Rattle.receiver.proofs.ears.Ear.expire.Goals as goal

pub returns-clause-becomes : goal.returns-clause-becomes
returns-clause-becomes c = moves c.args.self.now c.expire.new.self (λ (story : Story). went story c.args.now) c.requires.quiet c.expire.ensures.stands (λ story. (refl, refl, refl))
