-- Lists in the order of what is given of each element.
use Rattle.std.specs.Prelude.{ℕ, zero, suc, ◌==◌, List, [], ◌∷◌, ◌++◌, filter, max}

-- more than is given of any of these
abbrev pub end_by : {X : Type 0} → (X → ℕ) → List X → ℕ
end_by f [] = 0
end_by f (x ∷ xs) = max (suc (f x)) (end_by f xs)

-- those of which n is given, as they stand
abbrev pub given_by : {X : Type 0} → (X → ℕ) → ℕ → List X → List X
given_by f n xs = filter (λ x. f x == n) xs

-- those of which a number below n is given, number after number
abbrev pub ordered_below : {X : Type 0} → (X → ℕ) → ℕ → List X → List X
ordered_below f zero xs = []
ordered_below f (suc n) xs = ordered_below f n xs ++ given_by f n xs

-- all of them, and where the same is given as they stand
abbrev pub ordered_by : {X : Type 0} → (X → ℕ) → List X → List X
ordered_by f xs = ordered_below f (end_by f xs) xs
