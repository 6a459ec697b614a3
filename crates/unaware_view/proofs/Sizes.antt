-- The octets of a label, and how many there are.
use Rattle.std.proofs.Common.{◌≡◌, ℕ, ◌+◌, Bool, true, false, List, [], ◌∷◌, ◌++◌, length, refl, ap, ◌∙◌, length-append, append_assoc, sym, arith}
use Rattle.std.specs.Char.{encode_utf8}
use Rattle.view_spec.specs.TextViews.{label, label_after}
use Rattle.unaware_view.specs.Labels.{line_start}

pub parts_are : (on : Bool) (name : List ℕ) → label_after on name ≡ line_start on ++ 91 ∷ (name ++ 93 ∷ 32 ∷ [])
unfolding label label_after
parts_are true name = refl
parts_are false name = refl

pub length_is : (on : Bool) (name : List ℕ) → length (label_after on name) ≡ length (line_start on) + (3 + length name)
length_is on name =
    let a = length-append (line_start on) (91 ∷ (name ++ 93 ∷ 32 ∷ [])) in
    let b = ap length (parts_are on name) in
    let d = length-append name (93 ∷ 32 ∷ []) in
    omega (arith, a, b, d)

-- behind its bracket the name is to come, and two octets
pub bracketed : (on : Bool) (name start out a b : List ℕ) → start ≡ line_start on → a ≡ out ++ start → b ≡ a ++ 91 ∷ [] → length b + (2 + length name) ≡ length out + length (label_after on name)
bracketed on name start out a b s p q = omega (arith, length_is on name, ap length s, ap length p, length-append out start, ap length q, length-append a (91 ∷ []))

start_sizes : (length (line_start true) ≡ 3) × (length (line_start false) ≡ 0)
unfolding encode_utf8
start_sizes = (refl, refl)

-- what a label may need besides its name
pub most_is : (name : List ℕ) → length (label_after true name) ≡ 6 + length name
most_is name = let a = length_is true name in let b = start_sizes.0 in omega (arith, a, b)

-- put together from its four parts
pub joined_is : (on : Bool) (name start out a b d e : List ℕ) → start ≡ line_start on → a ≡ out ++ start → b ≡ a ++ 91 ∷ [] → d ≡ b ++ name → e ≡ d ++ 93 ∷ 32 ∷ []
    → e ≡ out ++ label_after on name
joined_is on name start out a b d e s p q r t =
    t ∙ (ap (λ x. x ++ 93 ∷ 32 ∷ []) (r ∙ ap (λ x. x ++ name) (q ∙ ap (λ x. x ++ 91 ∷ []) (p ∙ ap (λ x. out ++ x) s)))
    ∙ (append_assoc ((out ++ line_start on) ++ 91 ∷ []) name (93 ∷ 32 ∷ []) ∙ (append_assoc (out ++ line_start on) (91 ∷ []) (name ++ 93 ∷ 32 ∷ [])
    ∙ (append_assoc out (line_start on) (91 ∷ (name ++ 93 ∷ 32 ∷ [])) ∙ ap (λ x. out ++ x) (sym (parts_are on name))))))
