-- What is appended, part after part.
use Rattle.std.proofs.Common.{◌≡◌, ℕ, List, ◌++◌, ap, ◌∙◌, append_assoc}

pub words : (old before more out new : List ℕ) → out ≡ old ++ before → new ≡ out ++ more → new ≡ old ++ (before ++ more)
words old before more out new e f = f ∙ (ap (λ xs. xs ++ more) e ∙ append_assoc old before more)

pub number : (old before more digits out new : List ℕ) → out ≡ old ++ before → new ≡ (out ++ more) ++ digits → new ≡ old ++ ((before ++ more) ++ digits)
number old before more digits out new e f = f ∙ (ap (λ xs. (xs ++ more) ++ digits) e ∙ (ap (λ xs. xs ++ digits) (append_assoc old before more) ∙ append_assoc old (before ++ more) digits))
