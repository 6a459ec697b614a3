use Rattle.std.proofs.Common.{not, refl, ap}
use Rattle.mix_loop.specs.declared.ports.SeatState.TheVariants.{Away, Listens, Hushed, Left}
use Rattle.mix_loop.proofs.Resting.{not_stop, not_leave, came}
use Rattle.mix_loop.proofs.ports.Port.seated_until.Goals as goal

pub returns-in-Away-clause-stays : goal.returns-in-Away-clause-stays
returns-in-Away-clause-stays g c = λ t l. not_stop c.args.self.now Away c.in-Away.is t refl

pub returns-in-Away-clause-keeps : goal.returns-in-Away-clause-keeps
returns-in-Away-clause-keeps g c = λ l. not_leave c.args.self.now Away c.in-Away.is refl

pub returns-in-Listens-clause-early : goal.returns-in-Listens-clause-early
returns-in-Listens-clause-early g c = λ a. absurd (came c.args.self.now Listens c.in-Listens.is refl a)

pub returns-in-Listens-clause-stays : goal.returns-in-Listens-clause-stays
returns-in-Listens-clause-stays g c = λ t l. not_stop c.args.self.now Listens c.in-Listens.is t (ap not (c.end_of.ensures t l))

pub returns-in-Listens-clause-keeps : goal.returns-in-Listens-clause-keeps
returns-in-Listens-clause-keeps g c = λ l. not_leave c.args.self.now Listens c.in-Listens.is refl

pub returns-in-Left-clause-early : goal.returns-in-Left-clause-early
returns-in-Left-clause-early g c = λ a. absurd (came c.args.self.now Left c.in-Left.is refl a)

pub returns-in-Left-clause-stays : goal.returns-in-Left-clause-stays
returns-in-Left-clause-stays g c = λ t l. not_stop c.args.self.now Left c.in-Left.is t refl

pub returns-in-Left-clause-keeps : goal.returns-in-Left-clause-keeps
returns-in-Left-clause-keeps g c = λ l. not_leave c.args.self.now Left c.in-Left.is refl

pub returns-in-Hushed-clause-early : goal.returns-in-Hushed-clause-early
returns-in-Hushed-clause-early g c = λ a. absurd (came c.args.self.now Hushed c.in-Hushed.is refl a)

pub returns-in-Hushed-clause-stays : goal.returns-in-Hushed-clause-stays
returns-in-Hushed-clause-stays g c = λ t l. not_stop c.args.self.now Hushed c.in-Hushed.is t refl

pub returns-in-Hushed-clause-keeps : goal.returns-in-Hushed-clause-keeps
returns-in-Hushed-clause-keeps g c = λ l. not_leave c.args.self.now Hushed c.in-Hushed.is (c.offering_until.ensures l)
