-- A leg is changed where it stands.
use Rattle.std.proofs.Common.{◌≡◌, ℕ, zero, suc, ◌<◌, List, [], ◌∷◌, length, get_or, set, ap, arith}
use Rattle.file_spec.specs.declared.conference_lines.LegLine.{LegLine}
use Rattle.file_spec.specs.Conference.{change_leg}

pub change_at : (change : LegLine → LegLine) (ls : List LegLine) (k : ℕ) (x : LegLine) → k < length ls → x ≡ get_or ls k x → set ls k (change x) ≡ change_leg change k ls
change_at change [] k x b e = absurd (omega arith)
change_at change (l ∷ ls) zero x b e = ap (λ y. change y ∷ ls) e
change_at change (l ∷ ls) (suc k) x b e = ap (λ ys. l ∷ ys) (change_at change ls k x (omega arith) e)
