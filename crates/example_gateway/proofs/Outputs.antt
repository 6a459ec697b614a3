-- What writes the packets has as many sources as the mixer's terminals.
use Rattle.std.proofs.Common.{◌≡◌, ℕ, zero, suc, ◌+◌, ◌<◌, Some, List, [], ◌∷◌, ◌++◌, length, take, get_or, add-one, refl, ap, sym, ◌∙◌}
use Rattle.std.specs.Prelude.{slice_get, slice_set}
use Rattle.std.proofs.lemmas.List.{map-append}
use Rattle.std.proofs.lemmas.Option.{get_or_from_slice_get}
use Rattle.std.proofs.Math.Seq.{take-suc}
use Rattle.packetizer.specs.OutputStates.{State}
use Rattle.example_gateway.specs.Outputs.{counts_of}

-- one more
pub more_counts : (outputs : List State) (o : State) (counts : List ℕ) (k : ℕ) → k < length counts → counts_of outputs ≡ take k counts → slice_get counts k ≡ Some (length o.speakers)
    → counts_of (outputs ++ o ∷ []) ≡ take (k + 1) counts
more_counts outputs o counts k low are at =
    map-append (λ (s : State). length s.speakers) outputs (o ∷ [])
    ∙ (ap (λ (xs : List ℕ). xs ++ length o.speakers ∷ []) are
    ∙ sym (ap (λ n. take n counts) (add-one k) ∙ (take-suc counts k (length o.speakers) low ∙ ap (λ n. take k counts ++ n ∷ []) (get_or_from_slice_get counts k (length o.speakers) (length o.speakers) at))))

-- one is written to, and has as many as before
pub same_counts : (outputs : List State) (k : ℕ) (old new d : State) → old ≡ get_or outputs k d → length new.speakers ≡ length old.speakers → counts_of (slice_set outputs k new) ≡ counts_of outputs
same_counts [] k old new d is same = refl
same_counts (y ∷ ys) zero old new d is same = ap (λ n. n ∷ counts_of ys) (same ∙ ap (λ (s : State). length s.speakers) is)
same_counts (y ∷ ys) (suc k) old new d is same = ap (λ ns. length y.speakers ∷ ns) (same_counts ys k old new d is same)
