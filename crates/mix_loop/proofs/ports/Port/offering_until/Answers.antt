use Rattle.std.proofs.Common.{sym, ◌∙◌, arith}
use Rattle.mix_loop.proofs.ports.Port.offering_until.Goals as goal

pub returns-then-is_spent : goal.returns-then-is_spent
returns-then-is_spent g c = λ l. absurd (omega (arith, l))

pub returns : goal.returns
returns g c = λ l. sym c.is_spent.ensures ∙ c.if-is_spent.false
