-- Groups of groups of texts.
use Rattle.std.proofs.Common.{◌≡◌, ℕ, List, [], ◌∷◌, ◌++◌, refl, ap, subst, sym, ◌∙◌, append_assoc}
use Rattle.std.specs.List.{concat}
use Rattle.std.proofs.lemmas.List.Folds.{concat-append}
use Rattle.stream_spec.specs.Carries.{Groups}
use Rattle.mixer_spec.proofs.Cutting.{AreShort}
use Rattle.rtt_base.specs.declared.limits.TheConstants.{MOST_TEXT_OCTETS}

-- groups of texts have the octets of these
pub groups_say : (es ts : List (List ℕ)) → Groups es ts [] → concat es ≡ concat ts
groups_say [] ts g = ap concat (sym g)
groups_say (e ∷ es) ts g =
    ap (λ (x : List ℕ). x ++ concat es) g.3
    ∙ (ap (λ (x : List ℕ). concat g.0 ++ x) (groups_say es g.1 g.5)
    ∙ (sym (concat-append g.0 g.1) ∙ ap concat (sym g.2)))

-- and go into a block
pub groups_short : (es ts rest : List (List ℕ)) → Groups es ts rest → AreShort MOST_TEXT_OCTETS es
groups_short [] ts rest g = tt
groups_short (e ∷ es) ts rest g = (g.4, groups_short es g.1 rest g.5)

-- The groups xs are of the texts of front, and those behind them of the texts of back.
pub record Parted (xs ys us rest : List (List ℕ)) : Type 0 where
  pub front : List (List ℕ)
  pub back : List (List ℕ)
  pub is : us ≡ front ++ back
  pub first : Groups xs front []
  pub more : Groups ys back rest

pub parted : (xs ys us rest : List (List ℕ)) → Groups (xs ++ ys) us rest → Parted xs ys us rest
parted [] ys us rest g = record { front = []; back = us; is = refl; first = refl; more = g }
parted (x ∷ xs) ys us rest g =
    let r = parted xs ys g.1 rest g.5 in
    record {
      front = g.0 ++ r.front;
      back = r.back;
      is = g.2 ∙ (ap (λ zs. g.0 ++ zs) r.is ∙ sym (append_assoc g.0 r.front r.back));
      first = (g.0, r.front, refl, g.3, g.4, r.first);
      more = r.more;
    }

-- groups of groups are groups
pub regrouped : (es ts us : List (List ℕ)) → Groups es ts [] → Groups ts us [] → Groups es us []
regrouped [] ts us a b = subst (λ (zs : List (List ℕ)). Groups zs us []) a b
regrouped (e ∷ es) ts us a b =
    let r = parted a.0 a.1 us [] (subst (λ (zs : List (List ℕ)). Groups zs us []) a.2 b) in
    (r.front, r.back, r.is, a.3 ∙ groups_say a.0 r.front r.first, a.4, regrouped es a.1 r.back a.5 r.more)
