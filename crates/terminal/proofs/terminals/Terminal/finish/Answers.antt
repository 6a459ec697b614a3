use Rattle.terminal.proofs.terminals.Terminal.finish.Goals as goal

pub returns-in-Ok-clause-finished : goal.returns-in-Ok-clause-finished
returns-in-Ok-clause-finished c = λ w. let r = c.requires.open c.if-self.false in (r.0, r.1, r.2, c.in-Ok.ensures.heard r.0 r.1 r.2 r.3)
