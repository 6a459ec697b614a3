use Rattle.std.proofs.Common.{◌≡◌, ◌+◌, refl}
use Rattle.std.specs.Prelude.{max}
use Rattle.rtt_show.specs.declared.spreads.Spread.{Spread}
use Rattle.rtt_show.proofs.Spreading.{spread_by}
use Rattle.rtt_show.proofs.spreads.Spread.take.Goals as goal

pub returns-clause-spreads : goal.returns-clause-spreads
returns-clause-spreads c =
    let old = c.args.self.now in
    let number = c.number_behind-number.result in
    let new : Spread = record { packets = old.packets + 1; first = c.first_of-first.result; top = c.max-top.result } in
    let top : new.top ≡ max old.top number = search in
    spread_by old new c.args.seq number c.number_behind-number.ensures.value refl c.first_of-first.ensures top
