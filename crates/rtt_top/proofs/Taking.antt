-- Parts that are taken one after another.
use Rattle.std.proofs.Common.{◌≡◌, ◌<◌, ℕ, Some, List, length, sym, subst, inl, inr}
use Rattle.std.specs.Prelude.{Option, IfSome}
use Rattle.std.proofs.lemmas.Option.{get_or_from_slice_get, slice_get_within}
use Rattle.sent_log.specs.States.{State}
use Rattle.sent_log.specs.Files.{recording_at}
use Rattle.rtt_top.specs.Parts.{EachTook, HaveTaken, IsAllOrNone, TakesPart}

-- what each of them took, as it is read at its number
pub have_taken : {P : Type 0} (took : P → List ℕ) (log : State) (count : ℕ) (parts : List (Option P)) → length parts ≡ count → EachTook took log count parts → HaveTaken took log parts
have_taken took log count parts many each n part at =
    let low : n < count = subst (λ (k : ℕ). n < k) many (slice_get_within parts n (Some part) at) in
    subst (λ (x : Option _). IfSome x (λ p. took p ≡ recording_at log n)) (get_or_from_slice_get parts n (Some part) (Some part) at) (each n (Some part) low)

-- all or none of them have
pub left_taken : {P : Type 0} (took : P → List ℕ) (log : State) (all left : List (Option P)) → HaveTaken took log all → IsAllOrNone all left → HaveTaken took log left
left_taken took log all left h (inl e) = subst (HaveTaken took log) (sym e) h
left_taken took log all left h (inr e) = subst (HaveTaken took log) (sym e) (λ n part at. absurd (cc at))

-- what is left behind one that is taken took its recordings too
pub parts_left : {P : Type 0} (took : P → List ℕ) (log : State) (old new : List (Option P)) (n : ℕ) (taken : Option P) → HaveTaken took log old → TakesPart old new n taken → HaveTaken took log new
parts_left took log old new n taken h t = λ k part at. h k part (t.others k part at)
