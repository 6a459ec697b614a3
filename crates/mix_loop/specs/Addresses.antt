-- Where what goes to each terminal is sent.
use Rattle.std.specs.Prelude.{◌≡◌, ◌≤◌, ℕ, List, [], ◌∷◌, map}
use Rattle.link_io.specs.Given.{GivesAfter, given_by}

-- a port, and what was given there, oldest first: each packet with how often the clock had paused
pub record Address : Type 0 where
  pub port : ℕ
  pub given : List (ℕ × List ℕ)

abbrev pub address : ℕ → List (ℕ × List ℕ) → Address
address port given = record { port = port; given = given }

-- the ports
abbrev pub ports_of : List Address → List ℕ
ports_of addresses = map (λ a. a.port) addresses

-- each is where it was, and what was given there since was given after so many pauses
abbrev pub GiveAfter : ℕ → List Address → List Address → Type 0
GiveAfter pauses [] [] = Unit {0}
GiveAfter pauses [] (b ∷ new) = ⊥
GiveAfter pauses (a ∷ old) [] = ⊥
GiveAfter pauses (a ∷ old) (b ∷ new) = (b.port ≡ a.port) × GivesAfter pauses a.given b.given × GiveAfter pauses old new

-- none of these was given later than after so many pauses
abbrev pub AllWithin : ℕ → List (ℕ × List ℕ) → Type 0
AllWithin pauses [] = Unit {0}
AllWithin pauses (x ∷ given) = (x.0 ≤ pauses) × AllWithin pauses given

abbrev pub AreWithin : ℕ → List Address → Type 0
AreWithin pauses [] = Unit {0}
AreWithin pauses (a ∷ addresses) = AllWithin pauses a.given × AreWithin pauses addresses

-- the same, and of what was given what was by the time that so many pauses were made
abbrev pub addresses_by : ℕ → List Address → List Address
addresses_by pauses addresses = map (λ a. address a.port (given_by pauses a.given)) addresses
