-- Words for lists.
use Rattle.std.specs.Prelude.{◌≡◌, ◌⊎◌, ℕ, ◌<◌, nat_lt, if◌then◌else◌, List, [], ◌∷◌}

-- x is in xs
abbrev pub In : {X : Type 0} → X → List X → Type 0
In x [] = ⊥
In x (y ∷ ys) = (x ≡ y) ⊎ In x ys

-- x among these, which rise in what f gives
abbrev pub put_by : {X : Type 0} → (X → ℕ) → X → List X → List X
put_by f x [] = x ∷ []
put_by f x (y ∷ ys) = if nat_lt (f x) (f y) then x ∷ y ∷ ys else y ∷ put_by f x ys

-- strictly rising in what f gives
abbrev pub RisingBy : {X : Type 0} → (X → ℕ) → List X → Type 0
RisingBy f [] = Unit {0}
RisingBy {X} f (x ∷ xs) = ((y : X) → In y xs → f x < f y) × RisingBy f xs
