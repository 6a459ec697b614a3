-- The first word of a line and the others.
use Rattle.std.proofs.Common.{◌≡◌, ℕ, ◌-◌, ◌≤◌, List, [], ◌∷◌, length, map, get_or, take, drop, ap, arith}
use Rattle.std.proofs.lemmas.List.{take_rest}
use denote.Ref.{Bor}

pub first_and_others : (words : List (Bor (List ℕ))) (d : Bor (List ℕ)) → 1 ≤ length words
    → ((get_or words 0 d).now ∷ map (λ w. w.now) (take (length words - 1) (drop 1 words))) ≡ map (λ w. w.now) words
first_and_others [] d some = absurd (omega arith)
first_and_others (w ∷ more) d some = ap (λ ws. w.now ∷ map (λ v. v.now) ws) (take_rest (w ∷ more) 1)
