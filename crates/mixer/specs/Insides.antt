-- What holds of each mixer: its parts are of as many legs, and what its turns rest on.
use Rattle.std.specs.Prelude.{◌≡◌, ◌+◌, ◌^◌, ◌<◌, ◌≤◌, ℕ, length, IfSome}
use Rattle.mixer.specs.declared.mixers.Mixer.TheInside.{Inside}
use Rattle.mixer.specs.States.{State, least_media}
use Rattle.mixer.specs.Calm.{AreCalmBefore}
use Rattle.mixer.specs.Turns.{AreSchedulersOf}

abbrev pub state_of : Inside → State
state_of i = record { seating = i.seating; slots = i.slots; schedulers = i.schedulers.items; names = i.names.items; media = i.media; turns = i.turns }

-- ---- fields
pub record MixerIsSound (m : State) (moment : ℕ) : Type 0 where
  pub seats : length m.seating.legs ≡ length m.schedulers
  pub slots : length m.slots ≡ length m.schedulers
  pub names : length m.names ≡ length m.schedulers
  pub schedulers : AreSchedulersOf (length m.schedulers) (least_media m.media) m.schedulers
  pub media : IfSome m.media (λ t. t < 2 ^ 47 + m.turns)
  pub turns : m.turns ≤ 5000000
  pub calm : AreCalmBefore moment m.seating m.schedulers

abbrev pub IsMixer : Inside → Type 0
IsMixer i = MixerIsSound (state_of i) i.calm
