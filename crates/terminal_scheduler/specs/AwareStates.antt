-- What is kept of an aware terminal.
use Rattle.std.specs.Prelude.{◌≡◌, ℕ, List, length}

-- its leg, the most octets of a text, the spacing, how often a text is repeated, how many packets of each leg are still to repeat
-- its last text, from when each leg may be served again, the place after the one served last, and a media time before which no leg
-- is due
pub record AwareState : Type 0 where
  pub own : ℕ
  pub room : ℕ
  pub spacing : ℕ
  pub generations : ℕ
  pub left : List ℕ
  pub free_at : List ℕ
  pub next : ℕ
  pub calm : ℕ

-- it is of the same leg, and of as many
abbrev pub SameLeg : AwareState → AwareState → Type 0
SameLeg old new = (new.own ≡ old.own) × (length new.free_at ≡ length old.free_at)
