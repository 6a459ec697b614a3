-- Of a file that is too large a front is read, and what is refused of the front is refused of the whole.
use Rattle.std.proofs.Common.{◌≡◌, ℕ, ◌<◌, ◌≤◌, Option, Some, None, List, length, length-append, refl, ap, ◌∙◌, inl, inr, arith}
use Rattle.std.proofs.lemmas.Bool.{cases_lt}
use Rattle.rtt_top.specs.Files.{IsFrontOf}

pub short_front : (most : ℕ) (octets whole : List ℕ) → length octets ≤ most → IsFrontOf most octets whole → whole ≡ octets
short_front most octets whole short (inl e) = e
short_front most octets whole short (inr f) = let long = f.0 in absurd (omega arith)

long_front : (most : ℕ) (octets whole : List ℕ) → most < length octets → IsFrontOf most octets whole → most < length whole
long_front most octets whole long (inl e) = let same = ap (λ (xs : List ℕ). length xs) e in omega arith
long_front most octets whole long (inr f) =
    let more = ap (λ (xs : List ℕ). length xs) f.2 in
    let both = length-append octets f.1 in omega arith

long_octets : {R : Type 0} (WorldTells : Type 0) (most : ℕ) (read : List ℕ → R) (held : Option (List ℕ)) (octets : List ℕ) → most < length octets
    → ((a b : List ℕ) → most < length a → most < length b → read a ≡ read b)
    → (WorldTells → (whole : List ℕ) × (held ≡ Some whole) × IsFrontOf most octets whole) → (o : List ℕ) × (WorldTells → held ≡ Some o) × (read o ≡ read octets)
long_octets WorldTells most read None octets long alike given = (octets, (λ t. let g = given t in absurd (cc g.1)), refl)
long_octets WorldTells most read (Some w) octets long alike given = elim (cases_lt most (length w)) [
  | inl large ↦ (w, (λ t. refl), alike w octets large long)
  | inr small ↦ (
    octets,
    (λ t. let g = given t in
        let same : w ≡ g.0 = cc g.1 in
        let count = ap (λ (xs : List ℕ). length xs) same in
        let large = long_front most octets g.0 long g.2 in absurd (omega arith)),
    refl,
  )
]

-- octets that lie there as far as that is told, and are read as those that were given
pub lying_octets : {R : Type 0} (WorldTells : Type 0) (most : ℕ) (read : List ℕ → R) (held : Option (List ℕ)) (octets : List ℕ)
    → ((a b : List ℕ) → most < length a → most < length b → read a ≡ read b)
    → (WorldTells → (whole : List ℕ) × (held ≡ Some whole) × IsFrontOf most octets whole) → (o : List ℕ) × (WorldTells → held ≡ Some o) × (read o ≡ read octets)
lying_octets WorldTells most read held octets alike given = elim (cases_lt most (length octets)) [
  | inl long ↦ long_octets WorldTells most read held octets long alike given
  | inr short ↦ (
    octets,
    (λ t. let g = given t in g.1 ∙ ap (λ (o : List ℕ). Some o) (short_front most octets g.0 short g.2)),
    refl,
  )
]
