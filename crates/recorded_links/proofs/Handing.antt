-- Who notes is given out and had back, one place after the other.
use Rattle.std.proofs.Common.{◌≡◌, ◌⊎◌, inl, inr, ℕ, zero, suc, ◌<◌, ◌≤◌, arith, Option, None, List, [], ◌∷◌, get_or, set, sym, ◌∙◌, subst}
use Rattle.std.specs.Prelude.{All, IfSome, length}
use Rattle.std.specs.List.{AllZip}
use Rattle.std.proofs.lemmas.List.Elements.{All-head, All-tail}
use Rattle.recorded_links.specs.declared.names.Way.{Way}
use Rattle.recorded_links.specs.declared.noter_places.NoterPlace.{NoterPlace}
use Rattle.recorded_links.specs.declared.noters.Noter.{Noter}
use Rattle.recorded_links.specs.Kept.{IsHadBack}

module _ {X : Type 0} where
  -- the first so many became others, and the rest is as it was
  abbrev pub IsGoneTo : (X → X → Type 0) → ℕ → List X → List X → Type 0
  IsGoneTo R zero olds news = news ≡ olds
  IsGoneTo R (suc n) [] news = news ≡ []
  IsGoneTo R (suc n) (o ∷ os) [] = ⊥
  IsGoneTo R (suc n) (o ∷ os) (x ∷ xs) = R o x × IsGoneTo R n os xs

  -- one more did
  pub gone_one : (R : X → X → Type 0) (n m : ℕ) (olds news : List X) (x y : X) → m ≡ suc n → n < length news → x ≡ get_or news n x → R x y
      → IsGoneTo R n olds news → IsGoneTo R m olds (set news n y)
  gone_one R n m olds news x y next low is h gone = subst (λ k. IsGoneTo R k olds (set news n y)) (sym next) (at n olds news low is gone)
    where
      at : (n : ℕ) (olds news : List X) → n < length news → x ≡ get_or news n x → IsGoneTo R n olds news → IsGoneTo R (suc n) olds (set news n y)
      at n olds [] low is gone = absurd (omega arith)
      at zero [] (v ∷ vs) low is gone = absurd (cc gone)
      at zero (o ∷ os) (v ∷ vs) low is gone = (subst (λ z. R z y) (is ∙ cc gone) h, cc gone)
      at (suc n) [] (v ∷ vs) low is gone = absurd (cc gone)
      at (suc n) (o ∷ os) (v ∷ vs) low is gone = (gone.0, at n os vs (omega arith) is gone.1)

  -- all did
  pub gone_all : (R : X → X → Type 0) (n : ℕ) (olds news : List X) → length news ≤ n → IsGoneTo R n olds news → AllZip R olds news
  gone_all R zero [] [] low gone = tt
  gone_all R zero [] (v ∷ vs) low gone = absurd (omega arith)
  gone_all R zero (o ∷ os) [] low gone = absurd (cc gone)
  gone_all R zero (o ∷ os) (v ∷ vs) low gone = absurd (omega arith)
  gone_all R (suc n) [] [] low gone = tt
  gone_all R (suc n) [] (v ∷ vs) low gone = absurd (cc gone)
  gone_all R (suc n) (o ∷ os) [] low gone = absurd gone
  gone_all R (suc n) (o ∷ os) (v ∷ vs) low gone = (gone.0, gone_all R n os vs (omega arith) gone.1)

  -- what held of each holds of the next
  pub holds_next : (R : X → X → Type 0) (P : X → Type 0) (n : ℕ) (olds news : List X) (x : X) → n < length news → x ≡ get_or news n x → IsGoneTo R n olds news
      → All P olds → P x
  holds_next R P n olds [] x low is gone all = absurd (omega arith)
  holds_next R P zero [] (v ∷ vs) x low is gone all = absurd (cc gone)
  holds_next R P zero (o ∷ os) (v ∷ vs) x low is gone all = let same : o ≡ x = cc (is, gone) in subst P same (All-head P o os all)
  holds_next R P (suc n) [] (v ∷ vs) x low is gone all = absurd (cc gone)
  holds_next R P (suc n) (o ∷ os) (v ∷ vs) x low is gone all = holds_next R P n os vs x (omega arith) is gone.1 (All-tail P o os all)

  -- what holds of both holds of either
  pub either_of : (P : X → Type 0) (o one other : Option X) → (o ≡ one) ⊎ (o ≡ other) → IfSome one P → IfSome other P → IfSome o P
  either_of P o one other (inl e) a b = subst (λ v. IfSome v P) (sym e) a
  either_of P o one other (inr e) a b = subst (λ v. IfSome v P) (sym e) b

module _ {R : Type 0} where
  -- had back of who is left, had back of who came
  pub had_left : (port : ℕ) (way : Way) (noter left : Option (Noter R)) → (left ≡ noter) ⊎ (left ≡ None) → (p q : NoterPlace R) → IsHadBack port way left p q → IsHadBack port way noter p q
  had_left port way noter left is p q (inl e) = inl e
  had_left port way noter left is p q (inr e) =
      let who : (q.noter ≡ None) ⊎ (q.noter ≡ noter) = elim e.1.1.1.1.1 [
        | inl none ↦ inl none
        | inr same ↦ elim is [
          | inl came ↦ inr (same ∙ came)
          | inr none ↦ inl (same ∙ none)
        ]
      ] in
      inr (e.0, (e.1.0, (e.1.1.0, (e.1.1.1.0, (e.1.1.1.1.0, who)))))

  -- who is left of who was left
  pub left_still : (noter left more : Option (Noter R)) → (left ≡ noter) ⊎ (left ≡ None) → (more ≡ left) ⊎ (more ≡ None) → (more ≡ noter) ⊎ (more ≡ None)
  left_still noter left more is (inr none) = inr none
  left_still noter left more (inl came) (inl same) = inl (same ∙ came)
  left_still noter left more (inr none) (inl same) = inr (same ∙ none)
