use Rattle.std.proofs.Common.{refl}
use Rattle.reorder_buffer.specs.Stories.{ended}
use Rattle.receiver.proofs.Giving.{moves, end_chunks}
use Rattle.receiver.proofs.ears.Ear.finish.Goals as goal

pub returns-clause-becomes : goal.returns-clause-becomes
returns-clause-becomes c = moves c.args.self.now c.finish.new.self ended c.requires.quiet c.finish.ensures.stands (λ story. (refl, refl, refl))

pub returns-clause-all : goal.returns-clause-all
returns-clause-all c settings sources story h = record { packets = c.finish.ensures.all story h.tracks; chunks = λ source. end_chunks settings source story h.wait (c.finish.ensures.all story h.tracks) }
