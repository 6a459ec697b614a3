-- Pieces that are appended one behind the other, each made of a member of a list.
use Rattle.std.proofs.Common.{◌≡◌, ℕ, zero, suc, ◌+◌, ◌<◌, Option, Some, Result, Ok, Err, List, [], ◌∷◌, ◌++◌, length, take, drop, append_assoc, true, false, refl, ap, subst, sym, ◌∙◌, arith}
use Rattle.std.specs.Prelude.{slice_get, is_err}
use Rattle.std.specs.List.{flat_map}
use Rattle.std.proofs.lemmas.List.{append-nil}
use Rattle.rtt_base.specs.Buffers.{Appends}
use Rattle.rtt_base.proofs.Appending.{appends_both, appends_refused}

-- the pieces of the members before place i, and of the one there
pub piece_more : {X : Type 0} (f : X → List ℕ) (xs : List X) (i : ℕ) (x : X) → slice_get xs i ≡ Some x → flat_map f (take i xs) ++ f x ≡ flat_map f (take (i + 1) xs)
piece_more f [] i x e = cc e
piece_more f (y ∷ xs) zero x e = let q : y ≡ x = cc e in let one : 0 + 1 ≡ 1 = refl in ap f (sym q) ∙ sym (append-nil (f y))
piece_more f (y ∷ xs) (suc i) x e =
    let k : suc i + 1 ≡ suc (i + 1) = omega arith in
    append_assoc (f y) (flat_map f (take i xs)) (f x) ∙ (ap (λ (zs : List ℕ). f y ++ zs) (piece_more f xs i x e) ∙ ap (λ n. flat_map f (take n (y ∷ xs))) (sym k))

-- the pieces of all members
piece_rest : {X : Type 0} (f : X → List ℕ) (xs : List X) (i : ℕ) → flat_map f (take i xs) ++ flat_map f (drop i xs) ≡ flat_map f xs
piece_rest f [] zero = refl
piece_rest f [] (suc i) = refl
piece_rest f (y ∷ xs) zero = refl
piece_rest f (y ∷ xs) (suc i) = append_assoc (f y) (flat_map f (take i xs)) (flat_map f (drop i xs)) ∙ ap (λ (zs : List ℕ). f y ++ zs) (piece_rest f xs i)

-- these octets were appended
abbrev pub Built : Option ℕ → List ℕ → List ℕ → List ℕ → Type 0
Built greatest before after octets = let done : Result (Unit {0}) (Unit {0}) = Ok tt in Appends greatest before after octets done

built_from : {S F : Type 0} (greatest : Option ℕ) (before after octets : List ℕ) (second : Result S F) → Appends greatest before after octets second → is_err second ≡ false → Built greatest before after octets
built_from {S} {F} greatest before after octets second a n = go second a n
  where
    go : (r : Result S F) → Appends greatest before after octets r → is_err r ≡ false → Built greatest before after octets
    go (Ok v) b e = record { room = b.room; ok = b.ok; err = tt }
    go (Err v) b e = cc e

-- one more piece is appended
pub one_more : {X S F : Type 0} (greatest : Option ℕ) (before middle after : List ℕ) (f : X → List ℕ) (xs : List X) (i : ℕ) (x : X) (second : Result S F)
    → Built greatest before middle (flat_map f (take i xs)) → slice_get xs i ≡ Some x → Appends greatest middle after (f x) second → is_err second ≡ false → Built greatest before after (flat_map f (take (i + 1) xs))
one_more greatest before middle after f xs i x second a e b n =
    let both = appends_both greatest before middle after after (flat_map f (take i xs)) (f x) _ second a refl b (λ _. refl) (λ r. cc (n, r)) in
    subst (λ (zs : List ℕ). Built greatest before after zs) (piece_more f xs i x e) (built_from greatest before after (flat_map f (take i xs) ++ f x) second both n)

-- one more piece is refused, and those before it are taken back
pub one_refused : {X S F : Type 0} (greatest : Option ℕ) (before middle after kept last : List ℕ) (f : X → List ℕ) (xs : List X) (i : ℕ) (x : X) (second : Result S F)
    → Built greatest before middle (flat_map f (take i xs)) → slice_get xs i ≡ Some x → Appends greatest middle after (f x) second → is_err second ≡ true → kept ≡ take (length before) after
    → Appends greatest before kept (flat_map f xs ++ last) second
one_refused greatest before middle after kept last f xs i x second a e b r k =
    let both = appends_both greatest before middle after kept (flat_map f (take i xs)) (f x) _ second a refl b (λ n. cc (n, r)) (λ _. k) in
    let refused = appends_refused greatest before kept (flat_map f (take i xs) ++ f x) (flat_map f (drop (i + 1) xs) ++ last) second second both r r in
    let whole : (flat_map f (take i xs) ++ f x) ++ (flat_map f (drop (i + 1) xs) ++ last) ≡ flat_map f xs ++ last =
    ap (λ (zs : List ℕ). zs ++ (flat_map f (drop (i + 1) xs) ++ last)) (piece_more f xs i x e)
    ∙ (sym (append_assoc (flat_map f (take (i + 1) xs)) (flat_map f (drop (i + 1) xs)) last) ∙ ap (λ (zs : List ℕ). zs ++ last) (piece_rest f xs (i + 1))) in
    subst (λ (zs : List ℕ). Appends greatest before kept zs second) whole refused
