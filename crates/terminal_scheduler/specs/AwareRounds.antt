-- What a turn of an aware terminal finds.
use Rattle.std.specs.Prelude.{ℕ, Option, Some, List}
use Rattle.mixer_spec.specs.Setups.{Setup, stream}
use Rattle.mixer_spec.specs.Table.{Terminal, Table, serve, turn_aware}
use Rattle.mixer_places.specs.Lanes.{Waiting}
use Rattle.mixer_places.specs.States.{State}
use Rattle.mixer_places.specs.SeatStanding as seatings
use Rattle.terminal_scheduler.specs.Turns.{SendsNext}
use Rattle.terminal_scheduler.specs.AwareStates.{AwareState}
use Rattle.terminal_scheduler.specs.AwareTurns.{IsIn, IsTurned}

-- The terminal_scheduler stands for the terminal of its leg in this table, the slots for the table, and the seating for
-- its seats.
pub record IsSeatedIn (s : Setup) (o : AwareState) (places : State) (now : List Waiting) (table : Table) : Type 0 where
  pub there : IsIn s o now table
  pub seats_stand : seatings.SeatingStandsFor s places table.seats

-- of each such table, with the terminal
abbrev pub AtSeats : AwareState → State → List Waiting → (Setup → Table → Terminal → Type 0) → Type 0
AtSeats o places now P = (s : Setup) (table : Table) → IsSeatedIn s o places now table
    → P s table (table.terminals o.own)

-- what a turn at the moment `now`, with this media time, leaves at the terminal
abbrev pub turned : Setup → Table → ℕ → ℕ → ℕ → Terminal
turned s table j now media = turn_aware s table.seats j now media (table.terminals j)

-- what this turn of the terminal j sends, if it sends anything, may be sent
abbrev pub SendsNextAt : Setup → Table → ℕ → ℕ → ℕ → Type 0
SendsNextAt s table j now media = SendsNext (stream s j) (table.terminals j).past (turned s table j now media).past

-- text of the leg at the place is sent at this media time, or none
abbrev pub Serves : AwareState → State → List Waiting → (place media : ℕ) → AwareState → List Waiting
    → Option ℕ → List ℕ → Type 0
Serves o places waiting place media o' waiting' source text = AtSeats o places waiting (λ s table d. (now : ℕ)
    → SendsNext (stream s o.own) d.past (serve s table.seats o.own now media d (Some place)).past
    → IsTurned s table o.own (serve s table.seats o.own now media d (Some place)) media o' waiting' source text)

-- a turn at this media time came to these: the terminal_scheduler, the slots, and of which source what text is sent
abbrev pub Turns : AwareState → State → List Waiting → ℕ → AwareState → List Waiting → Option ℕ → List ℕ → Type 0
Turns o places waiting media o' waiting' source text = AtSeats o places waiting (λ s table d. (now : ℕ)
    → SendsNextAt s table o.own now media
    → IsTurned s table o.own (turned s table o.own now media) media o' waiting' source text)
