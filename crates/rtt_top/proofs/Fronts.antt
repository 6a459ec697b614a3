-- A front of what is written piece by piece.
use Rattle.std.proofs.Common.{◌≡◌, ℕ, zero, suc, ◌+◌, ◌<◌, List, [], ◌∷◌, ◌++◌, length, take, drop, get_or, append_assoc, Result, Ok, Err, refl, ap, sym, subst, ◌∙◌, arith}
use Rattle.std.specs.Prelude.{OnOk, OnErr}
use Rattle.std.specs.List.{concat}
use Rattle.std.proofs.lemmas.List.{take_more}
use Rattle.rtt_io.specs.Fronts.{TakesFront}
use Rattle.wire_spec.proofs.Plain.{front_behind as take_behind}
use Rattle.sent_log.proofs.Passing.{front_before}
use Rattle.rtt_check.proofs.Pieces.{pieces_more as both}

-- the first piece, and behind it a front of the second
pub front_behind : (old mid new first second : List ℕ) → mid ≡ old ++ first → TakesFront mid new second → TakesFront old new (first ++ second)
front_behind old mid new first second whole f =
    let r = take_behind f.0 first second in
    (r.0, f.1 ∙ (ap (λ xs. xs ++ take f.0 second) whole ∙ (append_assoc old first (take f.0 second) ∙ ap (λ xs. old ++ xs) r.1)))

take_all : (xs : List ℕ) → (m : ℕ) × (xs ≡ take m xs)
take_all [] = (0, refl)
take_all (x ∷ xs) = let r = take_all xs in (suc r.0, ap (λ zs. x ∷ zs) r.1)

-- the whole, or a front of it
pub front_of : {A B : Type 0} (old new octets : List ℕ) (result : Result A B) → OnOk result (new ≡ old ++ octets) → OnErr result (TakesFront old new octets) → TakesFront old new octets
front_of old new octets (Ok a) whole partly = let r = take_all octets in (r.0, whole ∙ ap (λ xs. old ++ xs) r.1)
front_of old new octets (Err b) whole partly = partly

append_none : (xs : List ℕ) → xs ≡ xs ++ []
append_none [] = refl
append_none (x ∷ xs) = ap (λ ys. x ∷ ys) (append_none xs)

pub front_of_nothing : (old : List ℕ) → TakesFront old old []
front_of_nothing old = (0, append_none old)

-- ---- where a call failed
pub on_err : {A B : Type 0} (P : Type 0) (result : Result A B) → P → OnErr result P
on_err P (Ok a) p = tt
on_err P (Err b) p = p

pub behind_err : {A B : Type 0} (old mid new first second : List ℕ) (result : Result A B) → mid ≡ old ++ first → OnErr result (TakesFront mid new second) → OnErr result (TakesFront old new (first ++ second))
behind_err old mid new first second (Ok a) whole f = tt
behind_err old mid new first second (Err b) whole f = front_behind old mid new first second whole f

-- ---- pieces, one behind the other
pub concat_push : (pieces : List (List ℕ)) (piece : List ℕ) → concat (pieces ++ piece ∷ []) ≡ concat pieces ++ piece
concat_push [] piece = sym (append_none piece)
concat_push (first ∷ more) piece = ap (λ octets. first ++ octets) (concat_push more piece) ∙ sym (append_assoc first (concat more) piece)

-- all pieces: those before one, this one and those behind it
concat_at : (pieces : List (List ℕ)) (n : ℕ) (piece : List ℕ) → n < length pieces → piece ≡ get_or pieces n piece → concat pieces ≡ concat (take n pieces) ++ (piece ++ concat (drop (suc n) pieces))
concat_at [] n piece less is = absurd (omega arith)
concat_at (first ∷ more) zero piece less is = ap (λ octets. octets ++ concat more) (sym is)
concat_at (first ∷ more) (suc n) piece less is =
    ap (λ octets. first ++ octets) (concat_at more n piece (omega arith) is) ∙ sym (append_assoc first (concat (take n more)) (piece ++ concat (drop (suc n) more)))

-- the pieces before one, and this one, are those up to it
pub more_at : (old mid new : List ℕ) (pieces : List (List ℕ)) (n : ℕ) (piece : List ℕ) → n < length pieces → piece ≡ get_or pieces n piece → mid ≡ old ++ concat (take n pieces)
    → new ≡ mid ++ piece → new ≡ old ++ concat (take (n + 1) pieces)
more_at old mid new pieces n piece less is before more =
    both old mid new (concat (take n pieces)) piece before more
    ∙ ap (λ octets. old ++ octets) (ap (λ last. concat (take n pieces) ++ last) is ∙ (sym (concat_push (take n pieces) (get_or pieces n piece)) ∙ ap concat (sym (take_more pieces n piece less))))

-- the pieces before one, and a front of this one, are a front of all
pub front_at : (old mid new : List ℕ) (pieces : List (List ℕ)) (n : ℕ) (piece : List ℕ) → n < length pieces → piece ≡ get_or pieces n piece → mid ≡ old ++ concat (take n pieces)
    → TakesFront mid new piece → TakesFront old new (concat pieces)
front_at old mid new pieces n piece less is whole f =
    subst (λ octets. TakesFront old new octets) (sym (concat_at pieces n piece less is))
    (front_behind old mid new (concat (take n pieces)) (piece ++ concat (drop (suc n) pieces)) whole (front_before mid new piece (concat (drop (suc n) pieces)) f))

-- ---- in a loop over pieces that writes these octets, those of the piece with this number
-- they are written
pub more_written : (old mid new : List ℕ) (pieces : List (List ℕ)) (n : ℕ) (piece octets : List ℕ) → n < length pieces → piece ≡ get_or pieces n piece → octets ≡ piece → mid ≡ old ++ concat (take n pieces)
    → new ≡ mid ++ octets → new ≡ old ++ concat (take (n + 1) pieces)
more_written old mid new pieces n piece octets less is same before more = more_at old mid new pieces n piece less is before (more ∙ ap (λ xs. mid ++ xs) same)

-- or a front of them, where that fails
pub front_written : {A B : Type 0} (result : Result A B) (old mid new : List ℕ) (pieces : List (List ℕ)) (n : ℕ) (piece octets : List ℕ) → n < length pieces → piece ≡ get_or pieces n piece → octets ≡ piece
    → mid ≡ old ++ concat (take n pieces) → TakesFront mid new octets → OnErr result (TakesFront old new (concat pieces))
front_written result old mid new pieces n piece octets less is same before front =
    on_err (TakesFront old new (concat pieces)) result (front_at old mid new pieces n piece less is before (subst (λ xs. TakesFront mid new xs) same front))
