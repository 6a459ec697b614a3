-- What is noted at the two ends of a link.
use Rattle.std.specs.Prelude.{◌≡◌, ℕ, List, [], ◌∷◌, ◌++◌, map}
use Rattle.stream_spec.specs.Links.{Came, Datagram, Large, Quiet, Closed, Takes}
use Rattle.link_io.specs.Given.{packets}
use Rattle.recorded_links.specs.declared.rule.NotedEntry.{NotedEntry}
use Rattle.recorded_links.specs.Places.{entry}
use Rattle.recorded_links.specs.Rule.{noted_of}

-- a datagram that came is noted at its moment, as it came
abbrev pub came_noted : ℕ → Came → List NotedEntry
came_noted at (Datagram octets) = noted_of (entry at octets) ∷ []
came_noted at Large = []
came_noted at Quiet = []
came_noted at Closed = []

-- of all that was taken, which stands newest first
abbrev pub takes_noted : Takes → List NotedEntry
takes_noted [] = []
takes_noted (t ∷ past) = takes_noted past ++ came_noted t.at t.came

-- these packets are noted, each at some moment
abbrev pub AreGiven : List NotedEntry → List (ℕ × List ℕ) → Type 0
AreGiven noted given = map (λ e. e.octets) noted ≡ packets given
