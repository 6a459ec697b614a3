-- what several writes do to the bytes that a writer holds, where those are known
use Rattle.std.proofs.Common.{◌∙◌, ℕ, List, ◌++◌, Option, Some, None, ap, append_assoc}
use Rattle.std.specs.Io.KnownBytes.{Appends}

pub appends_appends : (a b c : Option (List ℕ)) (bs cs : List ℕ) → Appends a b bs → Appends b c cs → Appends a c (bs ++ cs)
appends_appends None b c bs cs p q = tt
appends_appends (Some xs) None c bs cs p q = absurd p
appends_appends (Some xs) (Some ys) None bs cs p q = absurd q
appends_appends (Some xs) (Some ys) (Some zs) bs cs p q = q ∙ ap (λ (s : List ℕ). s ++ cs) p ∙ append_assoc xs bs cs
