use Rattle.std.proofs.Common.{inl, refl}
use Rattle.wire_spec.specs.Dump.{Cut}
use Rattle.terminal.proofs.Listening.{passed_over}
use Rattle.terminal.proofs.terminals.Terminal.refuse.Goals as goal

pub returns-then-not-self-clause-listens : goal.returns-then-not-self-clause-listens
returns-then-not-self-clause-listens c = λ q sources came item u li. passed_over c.args.self.now _ refl refl refl refl q sources came item u li

pub returns-then-not-self-clause-open : goal.returns-then-not-self-clause-open
returns-then-not-self-clause-open c = λ w.
    let r = c.requires.open w in
    (r.0, r.1, _, passed_over c.args.self.now _ refl refl refl refl r.0 r.1 r.2 (record { time = 0; what = Cut }) (inl refl) r.3)
