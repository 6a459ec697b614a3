-- What is kept of a terminal that is not aware.
use Rattle.std.specs.Prelude.{◌≡◌, ℕ, Bool}
use Rattle.unaware_view.specs.States.{State as ComposerState}
use Rattle.unaware_view.specs.Standing as composers

-- its composer, how often a text is repeated, how many packets are still to repeat the last one, the spacing, from when a
-- packet may be sent again, and whether it is known that nothing of another leg waits
pub record UnawareState : Type 0 where
  pub composer : ComposerState
  pub generations : ℕ
  pub left : ℕ
  pub spacing : ℕ
  pub free_at : ℕ
  pub none_waits : Bool

abbrev pub own_of : UnawareState → ℕ
own_of o = o.composer.own

abbrev pub legs_of : UnawareState → ℕ
legs_of o = composers.legs_of o.composer

-- it is of the same leg, and of as many
abbrev pub SameLeg : UnawareState → UnawareState → Type 0
SameLeg old new = (own_of new ≡ own_of old) × (legs_of new ≡ legs_of old)

-- the least media time of the next turn
abbrev pub next_turn : UnawareState → ℕ
next_turn o = composers.next_ask o.composer
