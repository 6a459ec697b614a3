-- the line with which a recording begins, read octet by octet
use Rattle.std.proofs.Common.{◌≡◌, ◌≢◌, ◌∙◌, ℕ, zero, suc, ◌+◌, ◌-◌, ◌<◌, Bool, true, false, ◌&&◌, nat_eq, List, [], ◌∷◌, ◌++◌, length, take, get_or, refl, sym, arith, Option, Some, None, option_to_list}
use Rattle.std.specs.List.{starts_with}
use Rattle.std.proofs.lemmas.Bool.{ne_eqb}
use Rattle.wire_spec.specs.Dump.{past_line}

-- another octet stands where one was expected
pub differs : (u expected rest : List ℕ) (place octet : ℕ) → u ≡ take place expected ++ (octet ∷ rest) → place < length expected → octet ≢ get_or expected place 0 → starts_with nat_eq u expected ≡ false
differs u expected rest place octet e within other = rw e (go expected place within other)
  where
    go : (xs : List ℕ) (i : ℕ) → i < length xs → octet ≢ get_or xs i 0 → starts_with nat_eq (take i xs ++ (octet ∷ rest)) xs ≡ false
    go [] i h o = absurd (omega arith)
    go (x ∷ xs) zero h o = rw (ne_eqb x octet (λ e. o (sym e))) refl
    go (x ∷ xs) (suc i) h o = rw (go xs i (omega arith) o) (both (nat_eq x x))
      where
        both : (b : Bool) → (b && false) ≡ false
        both true = refl
        both false = refl

at_feed : (most : ℕ) (rest : List ℕ) → 0 < most → past_line most (10 ∷ rest) ≡ Some rest
at_feed zero rest h = absurd (omega arith)
at_feed (suc n) rest h = refl

before_feed : (most n octet : ℕ) (rest : List ℕ) → most ≡ suc n → octet ≢ 10 → past_line most (octet ∷ rest) ≡ past_line n rest
before_feed most n octet rest e other = rw (e, ne_eqb octet 10 other) refl

at_end : (most : ℕ) → past_line most [] ≡ None
at_end zero = refl
at_end (suc n) = refl

pub line_found : (most place : ℕ) (u0 u1 u2 : List ℕ) (o : Option ℕ) (x : ℕ) → place < most → past_line most u0 ≡ past_line (most - place) u1 → u1 ≡ option_to_list o ++ u2 → o ≡ Some x → x ≡ 10 → past_line most u0 ≡ Some u2
line_found most place u0 u1 u2 o x within line given is feed = line ∙ rw (given, is, feed) (at_feed (most - place) u2 (omega arith))

pub line_on : (most place : ℕ) (u0 u1 u2 : List ℕ) (o : Option ℕ) (x : ℕ) → place < most → past_line most u0 ≡ past_line (most - place) u1 → u1 ≡ option_to_list o ++ u2 → o ≡ Some x → x ≢ 10 → past_line most u0 ≡ past_line (most - (place + 1)) u2
line_on most place u0 u1 u2 o x within line given is other =
    let n : most - place ≡ suc (most - (place + 1)) = omega arith in
    line ∙ rw (given, is) (before_feed (most - place) (most - (place + 1)) x u2 n other)

pub line_none : (most place : ℕ) (u0 u1 u2 : List ℕ) (o : Option ℕ) → past_line most u0 ≡ past_line (most - place) u1 → u1 ≡ option_to_list o ++ u2 → o ≡ None → u2 ≡ [] → past_line most u0 ≡ None
line_none most place u0 u1 u2 o line given is none = line ∙ rw (given, is, none) (at_end (most - place))

pub one_more : (place : ℕ) (u1 u2 : List ℕ) (o : Option ℕ) (x : ℕ) → u1 ≡ option_to_list o ++ u2 → o ≡ Some x → place + length u1 ≡ place + 1 + length u2
one_more place u1 u2 o x given is = rw (given, is) (omega arith)
