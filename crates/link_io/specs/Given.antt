-- What the outbound end of a link was given, and when: each packet with how often the clock had paused by then.
use Rattle.std.specs.Prelude.{◌≡◌, ℕ, List, [], ◌∷◌, ◌++◌, filter, map, nat_le}

-- the packets
abbrev pub packets : List (ℕ × List ℕ) → List (List ℕ)
packets given = map (λ x. x.1) given

-- of what was given, what was by the time that so many pauses were made
abbrev pub given_by : ℕ → List (ℕ × List ℕ) → List (ℕ × List ℕ)
given_by pauses given = filter (λ x. nat_le x.0 pauses) given

-- each of these was given after so many pauses
abbrev pub AllAfter : ℕ → List (ℕ × List ℕ) → Type 0
AllAfter pauses [] = Unit {0}
AllAfter pauses (x ∷ given) = (x.0 ≡ pauses) × AllAfter pauses given

-- what was given since was given after so many pauses
abbrev pub GivesAfter : ℕ → List (ℕ × List ℕ) → List (ℕ × List ℕ) → Type 0
GivesAfter pauses old new = (more : List (ℕ × List ℕ)) × (new ≡ old ++ more) × AllAfter pauses more
