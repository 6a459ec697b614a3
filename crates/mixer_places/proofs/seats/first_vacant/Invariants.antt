use Rattle.std.proofs.Common.{◌≡◌, ◌-◌, length}
use Rattle.mixer_spec.specs.Rounds.{first_from}
use Rattle.mixer_places.specs.Places.{is_vacant}
use Rattle.mixer_places.proofs.seats.first_vacant.Given as goal

abbrev pub invariant-loop-place : goal.invariant-loop-place
invariant-loop-place l = first_from (is_vacant l.holders) l.place (length l.holders - l.place) ≡ first_from (is_vacant l.holders) 0 (length l.holders)
