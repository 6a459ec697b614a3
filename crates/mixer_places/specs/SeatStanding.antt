-- What places stand for: who holds which place, who came, and who listens. Only the legs of the setup count.
use Rattle.std.specs.Prelude.{◌≡◌, ℕ, ◌<◌, Some, length, slice_get}
use Rattle.mixer_spec.specs.Setups.{Setup}
use Rattle.mixer_spec.specs.Table.{Seats, Table, leg_in}
use Rattle.mixer_places.specs.declared.seats.Seat.{Seat}
use Rattle.mixer_places.specs.States.{State}
use Rattle.mixer_spec.specs.declared.limits.TheConstants.{PLACES}

-- the seat of the leg i
abbrev pub seat_of : Seats → ℕ → Seat
seat_of seats i = record { place = seats.place i; came = seats.came i; listens = seats.listens i }

pub record SeatingStandsFor (s : Setup) (m : State) (seats : Seats) : Type 0 where
  pub sixteen : s.places ≡ PLACES
  pub all : length m.legs ≡ s.legs
  pub seat : (i : ℕ) (x : Seat) → slice_get m.legs i ≡ Some x → x ≡ seat_of seats i
  pub holder : (p : ℕ) → p < PLACES → slice_get m.places p ≡ Some (leg_in seats s.legs p)
  pub one : (a b p : ℕ) → a < s.legs → b < s.legs → seats.place a ≡ Some p → seats.place b ≡ Some p → a ≡ b

-- of each table for whose seats they stand
abbrev pub SeatingTells : State → (Setup → Table → Type 0) → Type 0
SeatingTells m P = (s : Setup) (table : Table) → SeatingStandsFor s m table.seats → P s table

-- from the seats of each table for which they stood they come to those of another one
abbrev pub LeadsSeats : State → State → (Table → Table) → Type 0
LeadsSeats old new f = (s : Setup) (table : Table) → SeatingStandsFor s old table.seats
    → SeatingStandsFor s new (f table).seats
