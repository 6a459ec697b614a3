-- What is counted over all terminals of a conference that was mixed (profile): the packets that came, those of them that were
-- used, and the markers that are heard.
use Rattle.std.specs.Prelude.{ℕ, Option, List, [], ◌∷◌, map, remove, if◌then◌else◌}
use Rattle.std.specs.List.{enumerate_from, sum_by}
use Rattle.std.specs.Option.{option_map}
use Rattle.view_spec.specs.declared.counts.Counts.{Counts}
use Rattle.file_spec.specs.declared.conference_lines.LegLine.{LegLine}
use Rattle.file_spec.specs.Conference.{Conference}
use Rattle.mixer_spec.specs.Setups.{setup}
use Rattle.mixer_spec.specs.Table.{Table}
use Rattle.mixer_spec.specs.Plain.{plain}
use Rattle.mixer_spec.specs.Bridged.{leg_chunks}
use Rattle.view_spec.specs.Seen.{counts_at}
use Rattle.view_spec.specs.Markers.{markers_at}
use Rattle.command_spec.specs.Mixing.{came_to, input_at, reception_of}

-- ---- at one terminal
-- whom the terminal of the leg j listens to: an aware one each other leg, another one the mixer
abbrev pub sources_of : Conference → ℕ → LegLine → List ℕ
sources_of c j leg = if leg.aware then map (λ l. l.ssrc) (remove c.legs j) else c.mixer.ssrc ∷ []

-- what came to it, counted
abbrev pub counts_to : Conference → Table → ℕ → LegLine → Counts
counts_to c table j leg = counts_at (reception_of c leg) (came_to c table j leg)

-- the markers of all whom it listens to
abbrev pub markers_to : Conference → Table → ℕ → LegLine → ℕ
markers_to c table j leg = sum_by (markers_at (reception_of c leg) (came_to c table j leg)) (sources_of c j leg)

-- ---- over all terminals
pub record Sums : Type 0 where
  pub packets : ℕ
  pub used : ℕ
  pub markers : ℕ

-- the sum of a number of each terminal
abbrev pub over_terminals : Conference → (ℕ → LegLine → ℕ) → ℕ
over_terminals c number = sum_by (λ x. number x.0 x.1) (enumerate_from 0 c.legs)

abbrev pub sums : Conference → Table → Sums
sums c table = record {
  packets = over_terminals c (λ j leg. (counts_to c table j leg).packets);
  used = over_terminals c (λ j leg. (counts_to c table j leg).used);
  markers = over_terminals c (markers_to c table);
}

-- those of a conference whose inputs have these octets, where mixing them is over within the turns
abbrev pub sums_mixed : Conference → List (List ℕ) → Option Sums
sums_mixed c inputs = option_map (sums c) (plain (setup c) c.tick c.turns (leg_chunks c (input_at inputs)))
