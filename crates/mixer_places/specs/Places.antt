-- Which places are held.
use Rattle.std.specs.Prelude.{ℕ, Bool, not, Option, None, Some, List, is_some, slice_get, unwrap_or}
use Rattle.mixer_places.specs.declared.seats.Seat.{Seat}
use Rattle.mixer_places.specs.States.{State}

-- no leg holds the place
abbrev pub is_vacant : List (Option ℕ) → ℕ → Bool
is_vacant holders p = not (is_some (unwrap_or (slice_get holders p) None))

-- the place of this seat, if there is one
abbrev pub place_on : Option Seat → Option ℕ
place_on None = None
place_on (Some x) = x.place

-- the leg i holds a place
abbrev pub has_place : State → ℕ → Bool
has_place m i = is_some (place_on (slice_get m.legs i))
