-- What the lines of a plan make of a packet together (profile).
use Rattle.std.specs.Prelude.{◌≡◌, ◌<◌, ℕ, List, length, slice_index_or}
use Rattle.std.specs.List.{list_any}
use Rattle.file_spec.specs.declared.conference_lines.PlanLine.{PlanLine}
use Rattle.file_spec.specs.declared.conference_lines.What.{What}
use Rattle.mixer_spec.specs.Arrives.{delay, doubles, lines_of, loses}
use Rattle.playback.specs.declared.fates.Fate.{Fate}

abbrev pub fate_of : List What → Fate
fate_of lines = record { lost = list_any loses lines; twice = list_any doubles lines; delay = delay lines }

-- the fate of each packet of the terminal t, as far as there are fates
abbrev pub AreFates : List PlanLine → ℕ → List Fate → Type 0
AreFates plan t fates = (k : ℕ) (d : Fate) → k < length fates → slice_index_or fates k d ≡ fate_of (lines_of plan t k)
