-- An ask of the composer of a terminal that is not aware.
use Rattle.std.proofs.Common.{◌≡◌, ℕ, Bool, true, false, Option, List, [], ap, subst, sym, ◌∙◌, arith}
use Rattle.std.specs.Prelude.{is_some}
use Rattle.mixer_spec.specs.Rounds.{all_below}
use Rattle.mixer_spec.specs.Composed.{Answer, Asked, text_given, waits_here}
use Rattle.mixer_spec.specs.Setups.{Setup}
use Rattle.mixer_spec.specs.Table.{Table}
use Rattle.mixer_spec.proofs.Done.{below_all}
use Rattle.mixer_places.specs.Lanes.{Waiting}
use Rattle.mixer_places.specs.SlotStanding as slots
use Rattle.unaware_view.specs.States.{State as ComposerState}
use Rattle.unaware_view.specs.Standing as composers
use Rattle.unaware_view.specs.Standing.{NoneWaits, answered, asked_now, given_now}
use Rattle.unaware_view.proofs.Passing.{none_given}
use Rattle.terminal_scheduler.specs.UnawareStates.{UnawareState}
use Rattle.terminal_scheduler.specs.UnawareStanding.{Composes, none_here}
use Rattle.terminal_scheduler.proofs.UnawareWaiting.{none_false}

-- nothing waited
pub passes : (s : Setup) (table : Table) (c : ComposerState) (t : ℕ) (due : Bool) (asks : List Asked) (text : List ℕ) (new : UnawareState) (after : List Waiting) → composers.ComposerStandsFor s c asks
    → slots.SlotsStandFor s after table → NoneWaits s table c → text ≡ [] → composers.ComposerStandsFor s new.composer (asked_now s table c t due asks) → Composes s table c t due asks false text new after
passes s table c t due asks text new after h w n e p =
    let none = none_given s table c t due asks h n in
    record {
      given = sym (ap is_some none);
      text_is = e ∙ sym (ap text_given none);
      composer = p;
      slots_stand = subst (λ (o : Option Answer). slots.SlotsStandFor s after (answered c.own o table)) (sym none) w;
      rests = λ q. subst (λ (o : Option Answer). NoneWaits s (answered c.own o table) c) (sym none) n;
    }

-- it is known that nothing waits, where that was found so
pub none_known : (s : Setup) (table : Table) (c : ComposerState) (own legs : ℕ) (b : Bool) → c.own ≡ own → legs ≡ s.legs → b ≡ all_below (none_here own (table.terminals own)) legs → b ≡ true → NoneWaits s table c
none_known s table c own legs b e l f q = λ i k.
    subst (λ (x : ℕ). waits_here x (table.terminals x).waits i ≡ false) (sym e)
    (none_false own (table.terminals own) i (below_all (none_here own (table.terminals own)) legs i (sym f ∙ q) (omega (arith, k, l))))
