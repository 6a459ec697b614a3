-- A composer's own fields.
use Rattle.std.specs.Prelude.{◌≡◌, ◌*◌, ◌^◌, ◌<◌, ◌≤◌, length}
use Rattle.std.specs.Option.{ForSome}
use Rattle.mixer_spec.specs.Setups.{IsRoom}
use Rattle.unaware_view.specs.declared.composers.Composer.TheInside.{Inside}
use Rattle.unaware_view.specs.States.{State}
use Rattle.rtt_base.specs.declared.limits.TheConstants.{MOST_TEXT_OCTETS}

abbrev pub state_of : Inside → State
state_of c = record {
  own = c.own;
  room = c.room;
  current = c.current;
  run = c.run;
  waits = c.waits.items;
  since = c.since.items;
  asked = c.asked;
  relabel = c.relabel;
}

-- There is a flag and a moment for each leg, and the speaker is one of them. Each ask gives at most 1023 characters.
pub record ComposerIsSound (c : Inside) : Type 0 where
  pub legs : length c.waits.items ≡ length c.since.items
  pub own : c.own < length c.since.items
  pub room : IsRoom c.room
  pub speaker : ForSome c.current (λ x. x.speaker < length c.since.items)
  pub few : c.run.erasable ≤ MOST_TEXT_OCTETS * c.asked
  pub asked : c.asked ≤ 2 ^ 54
