-- One change more, and one text more.
use Rattle.std.proofs.Common.{◌≡◌, ◌≢◌, ◌≤◌, ℕ, ◌+◌, ◌-◌, List, [], ◌∷◌, ◌++◌, length, drop, refl, sym, ap, ◌∙◌, arith, length-append, length-drop, drop-drop, eq-eqb, ne_eqb, if◌then◌else◌}
use Rattle.std.proofs.lemmas.List.{drop-append-le, append-nil}
use Rattle.std.proofs.lemmas.List.Concat.{flat_map-append}
use Rattle.rtt_base.specs.declared.records.Chunk.{Chunk}
use Rattle.live_board.specs.declared.limits.TheConstants.{MOST_TAIL_OCTETS}
use Rattle.live_board.specs.Folds.{octets_in, text_of, tail_of, shown_of, fold_of}

-- the text of a leg after one change more
pub text_more : (leg : ℕ) (changes : List Chunk) (c : Chunk) → text_of leg (changes ++ c ∷ []) ≡ text_of leg changes ++ octets_in leg c
text_more leg changes c = flat_map-append (octets_in leg) changes (c ∷ []) ∙ ap (λ l. text_of leg changes ++ l) (append-nil (octets_in leg c))

-- the tail is as long as a tail may be, at most
pub tail_short : (xs : List ℕ) → length (tail_of xs) ≤ MOST_TAIL_OCTETS
tail_short xs = let l = length-drop (length xs - MOST_TAIL_OCTETS) xs in omega (arith, l)

-- the tail of a tail and more is the tail of all
pub tail_more : (xs ys : List ℕ) → tail_of (tail_of xs ++ ys) ≡ tail_of (xs ++ ys)
tail_more xs ys =
    let cut : ℕ = length xs - MOST_TAIL_OCTETS in
    let less : cut ≤ length xs = omega arith in
    let moved : tail_of xs ++ ys ≡ drop cut (xs ++ ys) = sym (drop-append-le cut xs ys less) in
    let one = length-append (tail_of xs) ys in
    let left = length-drop cut xs in
    let all = length-append xs ys in
    let sum : cut + (length (tail_of xs ++ ys) - MOST_TAIL_OCTETS) ≡ length (xs ++ ys) - MOST_TAIL_OCTETS = omega (arith, one, left, all) in
    ap (λ l. drop (length (tail_of xs ++ ys) - MOST_TAIL_OCTETS) l) moved
    ∙ drop-drop (length (tail_of xs ++ ys) - MOST_TAIL_OCTETS) cut (xs ++ ys)
    ∙ ap (λ n. drop n (xs ++ ys)) sum

-- a text that is no longer than a tail is its own tail
pub tail_whole : (xs : List ℕ) → length xs ≤ MOST_TAIL_OCTETS → tail_of xs ≡ xs
tail_whole xs short = let none : length xs - MOST_TAIL_OCTETS ≡ 0 = omega arith in ap (λ n. drop n xs) none

-- what is shown of a leg after a change of it
pub fold_here : (changes : List Chunk) (c : Chunk)
    → fold_of c.source (changes ++ c ∷ []) ≡ record { total = (fold_of c.source changes).total + length c.text; last = tail_of ((fold_of c.source changes).last ++ c.text) }
fold_here changes c =
    let before : List ℕ = text_of c.source changes in
    let mine : octets_in c.source c ≡ c.text = ap (λ b. if b then c.text else []) (eq-eqb c.source c.source refl) in
    let whole : text_of c.source (changes ++ c ∷ []) ≡ before ++ c.text = text_more c.source changes c ∙ ap (λ l. before ++ l) mine in
    let counted : length (before ++ c.text) ≡ length before + length c.text = length-append before c.text in
    let last : tail_of (before ++ c.text) ≡ tail_of (tail_of before ++ c.text) = sym (tail_more before c.text) in
    ap shown_of whole ∙ (λ i. record { total = counted i; last = last i })

-- what is shown of a leg after a change of another one, or of none
pub fold_elsewhere : (leg : ℕ) (changes : List Chunk) (c : Chunk) → c.source ≢ leg → fold_of leg (changes ++ c ∷ []) ≡ fold_of leg changes
fold_elsewhere leg changes c other =
    let none : octets_in leg c ≡ [] = ap (λ b. if b then c.text else []) (ne_eqb c.source leg other) in
    ap shown_of (text_more leg changes c ∙ ap (λ l. text_of leg changes ++ l) none ∙ append-nil (text_of leg changes))
