use Rattle.std.proofs.Common.{◌+◌, subst}
use Rattle.unaware_view.specs.States.{State}
use Rattle.unaware_view.specs.Insides.{state_of}
use Rattle.unaware_view.specs.Standing.{NoneWaits, ComposerStandsFor, asked_now}
use Rattle.unaware_view.proofs.Passing.{passed}
use Rattle.unaware_view.proofs.composers.Composer.pass.Goals as goal

pub returns-clause-stands : goal.returns-clause-stands
returns-clause-stands c = λ s table due asks.
    subst (λ (x : State). ComposerStandsFor s x asks → NoneWaits s table x → ComposerStandsFor s (record (state_of c.self.inside) { asked = c.args.media + 1 }) (asked_now s table x c.args.media due asks)) c.self.view_is
    (passed s table (state_of c.self.inside) c.args.media due asks)
