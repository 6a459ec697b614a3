-- The pieces of a head.
use Rattle.std.proofs.Common.{◌≡◌, ℕ, ◌*◌, ◌/◌, ◌%◌, List, [], ◌∷◌, ◌++◌, Result, Ok, Err, OnOk, ap, ◌∙◌, append_assoc}
use Rattle.std.specs.Prelude.{codes}
use Rattle.std.specs.Int.{w32, to_be_bytes}
use Rattle.live_spec.specs.Recorded.{head_written}

pub joined : {A E : Type 0} (r : Result A E) (P Q : Type 0) → (P → Q) → OnOk r P → OnOk r Q
joined (Ok x) P Q f p = f p
joined (Err e) P Q f p = p

pub head_is : (t : ℕ) (old a b c time : List ℕ)
    → a ≡ old ++ (codes "#!rtpplay1.0 127.0.0.1/5004" ++ 10 ∷ []) → b ≡ a ++ time → time ≡ to_be_bytes w32 (t / 1000) ++ to_be_bytes w32 (t % 1000 * 1000) → c ≡ b ++ (127 ∷ 0 ∷ 0 ∷ 1 ∷ 19 ∷ 140 ∷ 0 ∷ 0 ∷ [])
    → c ≡ old ++ head_written t
head_is t old a b c time e f m h =
    h
    ∙ ap (λ (l : List ℕ). l ++ (127 ∷ 0 ∷ 0 ∷ 1 ∷ 19 ∷ 140 ∷ 0 ∷ 0 ∷ [])) (f ∙ (ap (λ (l : List ℕ). l ++ time) e ∙ ap (λ (l : List ℕ). (old ++ (codes "#!rtpplay1.0 127.0.0.1/5004" ++ 10 ∷ [])) ++ l) m))
    ∙ append_assoc (old ++ (codes "#!rtpplay1.0 127.0.0.1/5004" ++ 10 ∷ [])) (to_be_bytes w32 (t / 1000) ++ to_be_bytes w32 (t % 1000 * 1000)) (127 ∷ 0 ∷ 0 ∷ 1 ∷ 19 ∷ 140 ∷ 0 ∷ 0 ∷ [])
    ∙ append_assoc old (codes "#!rtpplay1.0 127.0.0.1/5004" ++ 10 ∷ []) ((to_be_bytes w32 (t / 1000) ++ to_be_bytes w32 (t % 1000 * 1000)) ++ (127 ∷ 0 ∷ 0 ∷ 1 ∷ 19 ∷ 140 ∷ 0 ∷ 0 ∷ []))
