-- What is known of places: the seat of each leg, and the leg that holds each place.
use Rattle.std.specs.Prelude.{ℕ, Option, List}
use Rattle.mixer_places.specs.declared.seats.Seat.{Seat}

pub record State : Type 0 where
  pub legs : List Seat
  pub places : List (Option ℕ)
