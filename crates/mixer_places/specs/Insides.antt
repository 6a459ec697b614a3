-- What holds of all places: each is one of the mixer's, and is held by one of the legs; none is held from some place on.
use Rattle.std.specs.Prelude.{◌≡◌, ℕ, ◌<◌, ◌≤◌, Some, length, slice_get}
use Rattle.mixer_places.specs.declared.seats.Seat.{Seat}
use Rattle.mixer_places.specs.declared.seats.SeatingPlan.TheInside.{Inside}
use Rattle.mixer_places.specs.States.{State}
use Rattle.mixer_spec.specs.declared.limits.TheConstants.{PLACES}

abbrev pub state_of : Inside → State
state_of i = record { legs = i.seats.items; places = i.holders }

pub record IsSeating (i : Inside) : Type 0 where
  pub sixteen : length i.holders ≡ PLACES
  pub places : (k : ℕ) (x : Seat) (p : ℕ) → slice_get i.seats.items k ≡ Some x → x.place ≡ Some p → p < PLACES
  pub held : (k : ℕ) (x : Seat) (p : ℕ) → slice_get i.seats.items k ≡ Some x → x.place ≡ Some p
      → slice_get i.holders p ≡ Some (Some k)
  pub legs : (p k : ℕ) → slice_get i.holders p ≡ Some (Some k) → k < length i.seats.items
  pub few : i.reach ≤ PLACES
  pub reach : (p k : ℕ) → slice_get i.holders p ≡ Some (Some k) → p < i.reach
