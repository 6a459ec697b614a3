-- What is known of a mixer whose packets are sent.
use Rattle.std.specs.Prelude.{◌≡◌, ℕ, List}
use Rattle.mixer.specs.States.{State, sources_of}

-- the mixer, and where its packets go
pub record SendingState (O : Type 0) : Type 0 where
  pub mixer : State
  pub outbound : O

-- its terminals are those of the mixer, with as many sources each
abbrev pub IsForEach : {O : Type 0} → (O → List ℕ) → SendingState O → Type 0
IsForEach sources m = sources m.outbound ≡ sources_of m.mixer
