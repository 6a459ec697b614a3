use Rattle.terminal.proofs.terminals.Terminal.arrive.Goals as goal

pub returns-in-Ok-clause-open : goal.returns-in-Ok-clause-open
returns-in-Ok-clause-open c = λ w. let r = c.requires.open c.if-self.false in (r.0, r.1, _, c.in-Ok.ensures.listens r.0 r.1 r.2 r.3)

pub take-requires : goal.take-requires
take-requires c = record { at = c.requires.at; stands = c.requires.open c.if-self.false; few = c.requires.few }
