-- What the calls of a table of slots change in the mixer's table (profile).
use Rattle.std.specs.Prelude.{◌≡◌, ℕ, ◌<◌, Bool, true, []}
use Rattle.mixer_spec.specs.Rounds.{set_at}
use Rattle.mixer_spec.specs.Chunks.{behind}
use Rattle.mixer_spec.specs.Setups.{Setup}
use Rattle.mixer_spec.specs.Table.{Terminal, Table, empty, no_seats}

-- nothing was taken, and each terminal listens
abbrev pub all_listen : Table
all_listen = record empty { seats = record no_seats { listens = λ j. true } }

-- the terminal j listens from now on, or no more
abbrev pub listening : ℕ → Bool → Table → Table
listening j on table = record table { seats = record table.seats { listens = set_at table.seats.listens j on } }

abbrev pub take_front : ℕ → ℕ → Terminal → Terminal
take_front i room d = record { past = d.past; asks = d.asks; waits = set_at d.waits i (behind room (d.waits i)) }

-- the terminal j takes the longest front that has at most `room` octets of what waits there of the source i
abbrev pub fetched : ℕ → ℕ → ℕ → Table → Table
fetched j i room table = record table { terminals = set_at table.terminals j (take_front i room (table.terminals j)) }

-- nothing waits at the terminal j
abbrev pub NoneWaits : Setup → ℕ → Table → Type 0
NoneWaits s j table = (i : ℕ) → i < s.legs → (table.terminals j).waits i ≡ []
