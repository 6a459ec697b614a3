-- What stays of a mixer that takes text.
use Rattle.std.specs.Prelude.{◌≡◌}
use Rattle.mixer.specs.States.{State, legs_of, sources_of}

-- its legs, how many sources their terminals have, and its turns
pub record IsSame (old new : State) : Type 0 where
  pub legs : legs_of new ≡ legs_of old
  pub sources : sources_of new ≡ sources_of old
  pub turns : new.turns ≡ old.turns
