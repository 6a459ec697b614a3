-- What holds of each ring.
use Rattle.std.specs.Prelude.{◌≡◌, length, sum}
use Rattle.mixer_places.specs.declared.rings.Ring.TheInside.{Inside}
use Rattle.mixer_spec.specs.declared.limits.TheConstants.{MOST_SPAN_CHUNKS, MOST_SPAN_OCTETS}

pub record IsRing (r : Inside) : Type 0 where
  pub most_octets : r.octets.capacity ≡ MOST_SPAN_OCTETS
  pub most_chunks : r.lengths.capacity ≡ MOST_SPAN_CHUNKS
  pub sum : length r.octets.items ≡ sum r.lengths.items
