-- What stands behind a label was typed by its leg, and what stands before the first by one.
use Rattle.std.proofs.Common.{◌≡◌, ℕ, Bool, inl, inr, Option, Some, None, List, [], ◌∷◌, ◌++◌, ap, subst, sym, ◌∙◌}
use Rattle.command_spec.specs.Named.{AreNamed, AreTypedBy, AreUnlabelled, Piece, named, named_if}

-- where the label of this leg stands last
typed_behind : (leg : ℕ) (more rest : List Piece) → AreNamed (Some leg) (more ++ rest) → AreUnlabelled more → AreTypedBy leg more
typed_behind leg [] rest a u = tt
typed_behind leg (p ∷ more) rest a u =
    let same : named (Some leg) p ≡ Some leg = ap (named_if (Some leg) p.leg) u.0 in (
      a.0.unseen,
      elim a.0.names [ inl e ↦ inl e | inr e ↦ inr (let x : Some p.leg ≡ Some leg = sym e ∙ same in cc x) ],
      typed_behind leg more rest (subst (λ (o : Option ℕ). AreNamed o (more ++ rest)) same a.1) u.1,
    )

pub behind_law : (who : Option ℕ) (before : List Piece) (p : Piece) (more rest : List Piece) (is_open : Bool) → AreNamed who (before ++ (p ∷ more ++ rest)) → p.label ≡ Some is_open → AreUnlabelled more → AreTypedBy p.leg more
behind_law who [] p more rest is_open a l u = typed_behind p.leg more rest (subst (λ (o : Option ℕ). AreNamed o (more ++ rest)) (ap (named_if who p.leg) l) a.1) u
behind_law who (q ∷ before) p more rest is_open a l u = behind_law (named who q) before p more rest is_open a.1 l u

-- where no label stands, nothing stands behind
none_behind : (first rest : List Piece) → AreNamed None (first ++ rest) → AreUnlabelled first → AreTypedBy 0 first
none_behind [] rest a u = tt
none_behind (p ∷ first) rest a u =
    let same : named None p ≡ None = ap (named_if None p.leg) u.0 in (
      a.0.unseen,
      elim a.0.names [ inl e ↦ inl e | inr e ↦ let x : Some p.leg ≡ None = sym e ∙ same in absurd (cc x) ],
      none_behind first rest (subst (λ (o : Option ℕ). AreNamed o (first ++ rest)) same a.1) u.1,
    )

pub before_law : (who : Option ℕ) (first rest : List Piece) → AreNamed who (first ++ rest) → AreUnlabelled first → (leg : ℕ) × AreTypedBy leg first
before_law None first rest a u = (0, none_behind first rest a u)
before_law (Some leg) first rest a u = (leg, typed_behind leg first rest a u)
