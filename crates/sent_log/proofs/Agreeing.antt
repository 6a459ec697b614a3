-- Where a text stands in a list, or goes on there.
use Rattle.std.proofs.Common.{◌≡◌, ℕ, ◌-◌, ◌<◌, ◌≤◌, List, [], ◌++◌, length, take, drop, ap, sym, ◌∙◌, arith}
use Rattle.std.proofs.lemmas.List.{drop-append-le, drop_all, length-append, length-drop, take-append-drop, take_all, take_at, take_rest}
use Rattle.sent_log.specs.Lists.{Agrees, StandsAt}

-- what was read from this place on, and where
abbrev pub rest_of : List ℕ → ℕ → List ℕ
rest_of all place = take (length all - place) (drop place all)

pub rest_is : (octets all : List ℕ) (place : ℕ) → all ≡ octets → rest_of all place ≡ drop place octets
rest_is octets all place e = take_rest all place ∙ ap (λ (xs : List ℕ). drop place xs) e

-- what stands there begins with the text
pub agrees_front : (octets : List ℕ) (place : ℕ) (text more : List ℕ) → place ≤ length octets → drop place octets ≡ text ++ more → Agrees octets place text
agrees_front octets place text more w e =
    let n : length text ≤ length octets - place = omega (arith, length-drop place octets, ap length e, length-append text more) in
    record {
      within = w;
      same =
          ap (λ (xs : List ℕ). take (length text) xs) e ∙ (take_at text more (length text) (omega arith) ∙ sym (take_all (length octets - place) text n));
    }

-- the text begins with what stands there
pub agrees_whole : (octets : List ℕ) (place : ℕ) (text more : List ℕ) → place ≤ length octets → text ≡ drop place octets ++ more → Agrees octets place text
agrees_whole octets place text more w e =
    let there = drop place octets in
    let n : length there ≤ length text = omega (arith, ap length e, length-append there more) in
    let size : length there ≡ length octets - place = length-drop place octets in
    record {
      within = w;
      same =
          take_all (length text) there n ∙ sym (ap (λ (xs : List ℕ). take (length octets - place) xs) e ∙ take_at there more (length octets - place) size);
    }

pub agrees_end : (octets text : List ℕ) → Agrees octets (length octets) text
agrees_end octets text =
    let none : drop (length octets) octets ≡ [] = drop_all (length octets) octets (omega arith) in
    agrees_whole octets (length octets) text text (omega arith) (ap (λ (xs : List ℕ). xs ++ text) (sym none))

-- ---- what is kept

pub stands_kept : (octets : List ℕ) (place : ℕ) (text : List ℕ) → Agrees octets place text → length text ≤ length octets - place → StandsAt octets place text
stands_kept octets place text a n = record {
  within = omega (arith, a.within);
  is = a.same ∙ take_all (length octets - place) text n;
}

pub stands_more : (octets : List ℕ) (place : ℕ) (text : List ℕ) → Agrees octets place text → length octets - place < length text → StandsAt (octets ++ drop (length octets - place) text) place text
stands_more octets place text a n =
    let size = length octets - place in
    let there = drop place octets in
    let more = drop size text in
    let short : length there ≤ length text = omega (arith, length-drop place octets) in
    let front : there ≡ take size text = sym (take_all (length text) there short) ∙ a.same in
    let whole : drop place (octets ++ more) ≡ text =
    drop-append-le place octets more a.within ∙ (ap (λ (xs : List ℕ). xs ++ more) front ∙ take-append-drop size text) in
    record {
      within = omega (arith, a.within, length-append octets more, length-drop size text);
      is = ap (λ (xs : List ℕ). take (length text) xs) whole ∙ take_all (length text) text (omega arith);
    }
