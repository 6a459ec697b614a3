-- Arrivals as the definition has them (profile).
use Rattle.std.specs.Prelude.{◌≡◌, ℕ, ◌<◌, ◌^◌, List, map}
use Rattle.file_spec.specs.declared.conference_lines.PlanLine.{PlanLine}
use Rattle.mixer_spec.specs.Arrives.{Copy, all_copies, times_in}
use Rattle.playback.specs.declared.copies.Arrival.{Arrival}

abbrev pub copy_of : Arrival → Copy
copy_of a = record { at = a.at; index = a.index }

abbrev pub copies_of : List Arrival → List Copy
copies_of arrivals = map copy_of arrivals

-- how often a copy is among these
abbrev pub times_of : Copy → List Arrival → ℕ
times_of c arrivals = times_in c (copies_of arrivals)

-- all copies of the packets sent to the terminal t at these moments, each as often as it comes, in any order
abbrev pub AreCopies : List PlanLine → ℕ → List ℕ → List Arrival → Type 0
AreCopies plan t sent arrivals = (c : Copy) → times_of c arrivals ≡ times_in c (all_copies plan t 0 sent)

-- one of the first n packets comes, at most 2 ^ 32 ms after the last moment at which one is sent
pub record IsOfFirst (n : ℕ) (a : Arrival) : Type 0 where
  pub sent : a.index < n
  pub soon : a.at < 2 ^ 33
