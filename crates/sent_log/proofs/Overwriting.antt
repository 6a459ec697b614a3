-- Octets in place of others.
use Rattle.std.proofs.Common.{◌≡◌, ℕ, zero, suc, ◌+◌, ◌-◌, ◌≤◌, Result, Ok, Err, List, [], ◌∷◌, ◌++◌, drop, length, length-append, take, refl, ap, ◌∙◌, arith}
use Rattle.std.specs.Prelude.{OnOk}
use Rattle.std.proofs.lemmas.List.{drop-drop, length-drop, length-take}
use Rattle.wire_spec.specs.Dump.{record_written}
use Rattle.rtpdump_io.proofs.Written.{head_then_packet, head_written}

-- a piece of at most so many octets makes what is there longer by no more
pub appended_short : {T E : Type 0} (r : Result T E) (before after octets : List ℕ) (n : ℕ) → length octets ≤ n → OnOk r (after ≡ before ++ octets) → OnOk r (length after ≤ length before + n)
appended_short (Ok x) before after octets n l is = let same = ap (λ (xs : List ℕ). length xs) is ∙ length-append before octets in omega (arith, l, same)
appended_short (Err x) before after octets n l is = tt

-- ---- in the front of a list

at_front : (n end : ℕ) (items octets : List ℕ) → end ≡ length octets → end ≤ n → n ≤ length items → take n (octets ++ drop end items) ≡ octets ++ drop end (take n items)
at_front n zero items [] q l m = refl
at_front n (suc end) items [] q l m = absurd (omega arith)
at_front n zero items (o ∷ octets) q l m = absurd (omega arith)
at_front zero (suc end) items (o ∷ octets) q l m = absurd (omega arith)
at_front (suc n) (suc end) [] (o ∷ octets) q l m = absurd (omega arith)
at_front (suc n) (suc end) (x ∷ items) (o ∷ octets) q l m = ap (λ (zs : List ℕ). o ∷ zs) (at_front n end items octets (omega arith) (omega arith) (omega arith))

-- octets that are overwritten within the first n
pub within_first : (n place end : ℕ) (items octets : List ℕ) → end ≡ place + length octets → end ≤ n → n ≤ length items
    → take n (take place items ++ (octets ++ drop end items)) ≡ take place (take n items) ++ (octets ++ drop end (take n items))
within_first n zero end items octets q l m = at_front n end items octets (omega arith) l m
within_first zero (suc place) end items octets q l m = absurd (omega arith)
within_first (suc n) (suc place) zero items octets q l m = absurd (omega arith)
within_first (suc n) (suc place) (suc end) [] octets q l m = absurd (omega arith)
within_first (suc n) (suc place) (suc end) (x ∷ items) octets q l m = ap (λ (zs : List ℕ). x ∷ zs) (within_first n place end items octets (omega arith) (omega arith) (omega arith))

-- what a copy into a part of a list leaves
pub spliced : (items shown copied octets : List ℕ) (place end : ℕ) → shown ≡ items → copied ≡ octets → end ≡ place + length octets
    → take place shown ++ (copied ++ drop (end - place) (drop place shown)) ≡ take place items ++ (octets ++ drop end items)
spliced items shown copied octets place end s k e =
    let whole : place + (end - place) ≡ end = omega (arith, e) in
    ap (λ (xs : List ℕ). take place xs ++ (copied ++ drop (end - place) (drop place xs))) s
    ∙ (ap (λ (xs : List ℕ). take place items ++ (xs ++ drop (end - place) (drop place items))) k
    ∙ (ap (λ (xs : List ℕ). take place items ++ (octets ++ xs)) (drop-drop (end - place) place items)
    ∙ ap (λ (n : ℕ). take place items ++ (octets ++ drop n items)) whole))

pub spliced_length : (items octets : List ℕ) (place end : ℕ) → end ≡ place + length octets → end ≤ length items → length (take place items ++ (octets ++ drop end items)) ≡ length items
spliced_length items octets place end e l =
    omega (arith, e, l, length-append (take place items) (octets ++ drop end items), length-append octets (drop end items), length-take place items, length-drop end items)

-- ---- what was left room for

behind : (hole octets : List ℕ) (n : ℕ) → n ≡ length hole → drop n (hole ++ octets) ≡ octets
behind [] octets zero q = refl
behind [] octets (suc n) q = absurd (omega arith)
behind (h ∷ hole) octets zero q = absurd (omega arith)
behind (h ∷ hole) octets (suc n) q = behind hole octets n (omega arith)

-- a head in place of what was left for it
pub filled : (before hole head octets : List ℕ) (start end : ℕ) → start ≡ length before → end ≡ start + length hole
    → take start ((before ++ hole) ++ octets) ++ (head ++ drop end ((before ++ hole) ++ octets)) ≡ before ++ (head ++ octets)
filled [] hole head octets zero end q r = ap (λ (zs : List ℕ). head ++ zs) (behind hole octets end (omega arith))
filled [] hole head octets (suc start) end q r = absurd (omega arith)
filled (b ∷ before) hole head octets zero end q r = absurd (omega arith)
filled (b ∷ before) hole head octets (suc start) zero q r = absurd (omega arith)
filled (b ∷ before) hole head octets (suc start) (suc end) q r = ap (λ (zs : List ℕ). b ∷ zs) (filled before hole head octets start end (omega arith) (omega arith))

-- its record stands where its packet was appended behind what was left for the head
pub record_put : (old left packet new octets hole head : List ℕ) (start at size : ℕ) → left ≡ old ++ hole → length hole ≡ 8 → packet ≡ left ++ octets → start ≡ length old → head ≡ head_written at size → size + length left ≡ length packet
    → new ≡ take start packet ++ (head ++ drop (start + length head) packet) → new ≡ old ++ record_written (at, octets)
record_put old left packet new octets hole head start at size l h p s q n e =
    let all : packet ≡ (old ++ hole) ++ octets = p ∙ ap (λ (xs : List ℕ). xs ++ octets) l in
    let sized : size ≡ length octets = omega (arith, n, ap (λ (xs : List ℕ). length xs) p, length-append left octets) in
    let eight : length head ≡ 8 = ap (λ (xs : List ℕ). length xs) q ∙ head_length at size in
    e
    ∙ (ap (λ (xs : List ℕ). take start xs ++ (head ++ drop (start + length head) xs)) all
    ∙ (filled old hole head octets start (start + length head) s (omega (arith, eight, h))
    ∙ (ap (λ (xs : List ℕ). old ++ (xs ++ octets)) (q ∙ ap (head_written at) sized) ∙ ap (λ (xs : List ℕ). old ++ xs) (head_then_packet at octets))))
  where
    head_length : (at size : ℕ) → length (head_written at size) ≡ 8
    head_length at size = omega arith
