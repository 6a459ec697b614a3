use Rattle.std.proofs.Common.{◌≤◌, length}
use Rattle.mixer_spec.specs.Rounds.{count_below}
use Rattle.mixer_places.specs.Places.{has_place}
use Rattle.mixer.proofs.Looping.{Turning}
use Rattle.mixer.proofs.turns.turn_legs.Given as goal

-- what is turned so far, and no more packets than legs that hold places
abbrev pub invariant-loop-leg : goal.invariant-loop-leg
invariant-loop-leg l = Turning l.media l.leg l.fn.schedulers l.seating l.fn.slots l.names l.schedulers l.slots l.batch × (length l.batch ≤ count_below (has_place l.seating) l.leg)
