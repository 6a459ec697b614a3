-- Names of the files of two recordings.
use Rattle.std.proofs.Common.{◌≡◌, ◌≢◌, ◌<◌, ℕ, zero, suc, ◌+◌, ◌/◌, ◌%◌, Bool, true, false, cond, List, [], ◌∷◌, ◌++◌, refl, sym, ap, ap₂, ◌∙◌, subst, arith, append_assoc}
use Rattle.std.specs.Prelude.{codes, decimal, ◌==◌}
use Rattle.std.specs.Fmt.{digits, digits_onto, digit_glyph}
use Rattle.std.proofs.lemmas.List.{append_cancel_right}
use Rattle.recorded_links.specs.Names.{numbered}
use Rattle.recorded_links.specs.Recordings.{StemsDiffer, last_of}

-- ---- digits are no points
abbrev HasNoPoint : List ℕ → Type 0
HasNoPoint [] = Unit {0}
HasNoPoint (x ∷ xs) = (46 < x) × HasNoPoint xs

either_high : (a b : Bool) (d : ℕ) → 46 < cond a (48 + d) (cond b (55 + d) (87 + d))
either_high true b d = omega arith
either_high false true d = omega arith
either_high false false d = omega arith

either_none : (b : Bool) (xs ys : List ℕ) → HasNoPoint xs → HasNoPoint ys → HasNoPoint (cond b xs ys)
either_none true xs ys p q = p
either_none false xs ys p q = q

onto_none : (k n : ℕ) (acc : List ℕ) → HasNoPoint acc → HasNoPoint (digits_onto k 10 false n acc)
onto_none zero n acc p = p
onto_none (suc k) n acc p =
    let more : HasNoPoint (digit_glyph false (n % 10) ∷ acc) = (either_high _ false (n % 10), p) in
    either_none (n / 10 == 0) _ _ more (onto_none k (n / 10) (digit_glyph false (n % 10) ∷ acc) more)

decimal_none : (n : ℕ) → HasNoPoint (decimal n)
unfolding digits
decimal_none n = onto_none 64 n [] tt

-- ---- the last octet
pub last_behind : (xs ys : List ℕ) (y : ℕ) → last_of (xs ++ y ∷ ys) ≡ last_of (y ∷ ys)
last_behind [] ys y = refl
last_behind (x ∷ []) ys y = refl
last_behind (x ∷ x' ∷ xs) ys y = last_behind (x' ∷ xs) ys y

-- what goes on to a point has one
has_point : (x : ℕ) (xs ds : List ℕ) → last_of (x ∷ xs) ≡ 46 → HasNoPoint ((x ∷ xs) ++ ds) → ⊥
has_point x [] ds is none = let at : x ≡ 46 = is in let high = none.0 in omega (arith, at, high)
has_point x (y ∷ xs) ds is none = has_point y xs ds is none.1

head_is : (x y : ℕ) (xs ys : List ℕ) → x ∷ xs ≡ y ∷ ys → x ≡ y
head_is x y xs ys e = cc e

tail_is : (x y : ℕ) (xs ys : List ℕ) → x ∷ xs ≡ y ∷ ys → xs ≡ ys
tail_is x y xs ys e = cc e

-- what stands up to the last point is the same
same_front : (s t d e : List ℕ) → last_of s ≡ 46 → last_of t ≡ 46 → HasNoPoint d → HasNoPoint e → s ++ d ≡ t ++ e → s ≡ t
same_front [] t d e p q n m is = let no : 0 ≡ 46 = p in absurd (omega (arith, no))
same_front (x ∷ xs) [] d e p q n m is = let no : 0 ≡ 46 = q in absurd (omega (arith, no))
same_front (x ∷ []) (y ∷ []) d e p q n m is = ap (λ (a : ℕ). a ∷ []) (p ∙ sym q)
same_front (x ∷ []) (y ∷ y' ∷ ys) d e p q n m is = absurd (has_point y' ys e q (subst HasNoPoint (tail_is x y d ((y' ∷ ys) ++ e) is) n))
same_front (x ∷ x' ∷ xs) (y ∷ []) d e p q n m is = absurd (has_point x' xs d p (subst HasNoPoint (sym (tail_is x y ((x' ∷ xs) ++ d) e is)) m))
same_front (x ∷ x' ∷ xs) (y ∷ y' ∷ ys) d e p q n m is =
    ap₂ (λ (a : ℕ) (l : List ℕ). a ∷ l) (head_is x y ((x' ∷ xs) ++ d) ((y' ∷ ys) ++ e) is)
    (same_front (x' ∷ xs) (y' ∷ ys) d e p q n m (tail_is x y ((x' ∷ xs) ++ d) ((y' ∷ ys) ++ e) is))

-- files of recordings whose names begin with other stems have other names
pub stems_differ : (s t : List ℕ) → last_of s ≡ 46 → last_of t ≡ 46 → s ≢ t → StemsDiffer s t
stems_differ s t p q other k l same =
    other (same_front s t (decimal k) (decimal l) p q (decimal_none k) (decimal_none l)
    (append_cancel_right (s ++ decimal k) (t ++ decimal l) (codes ".rtp") same))
