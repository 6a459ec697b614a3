-- What is appended piece by piece.
use Rattle.std.proofs.Common.{◌≡◌, ℕ, List, [], ◌∷◌, ◌++◌, ap, sym, ◌∙◌, append_assoc, append-nil, flat_map, map, map-id as same_list}

flat_map_push : {A : Type 0} (f : A → List ℕ) (xs : List A) (x : A) → flat_map f (xs ++ x ∷ []) ≡ flat_map f xs ++ f x
flat_map_push f [] x = append-nil (f x)
flat_map_push f (y ∷ ys) x = ap (λ l. f y ++ l) (flat_map_push f ys x) ∙ sym (append_assoc (f y) (flat_map f ys) (f x))

-- one piece more
pub one_more_piece : {A : Type 0} (f : A → List ℕ) (old mid new : List ℕ) (xs : List A) (x : A) → mid ≡ old ++ flat_map f xs → new ≡ mid ++ f x → new ≡ old ++ flat_map f (xs ++ x ∷ [])
one_more_piece f old mid new xs x before more =
    more ∙ (ap (λ l. l ++ f x) before ∙ (append_assoc old (flat_map f xs) (f x) ∙ ap (λ l. old ++ l) (sym (flat_map_push f xs x))))

-- the first piece, and those behind it
pub pieces_more : (old mid new first more : List ℕ) → mid ≡ old ++ first → new ≡ mid ++ more → new ≡ old ++ (first ++ more)
pieces_more old mid new first more e f = f ∙ (ap (λ l. l ++ more) e ∙ append_assoc old first more)

-- all pieces of what was gone through
pub all_pieces : (f : ℕ → List ℕ) (xs ys : List ℕ) → map (λ x. x) xs ≡ ys → flat_map f xs ≡ flat_map f ys
all_pieces f xs ys e = ap (flat_map f) (sym (same_list xs) ∙ e)
