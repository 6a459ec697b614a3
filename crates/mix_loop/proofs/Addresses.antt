-- What is given at each address as time goes by.
use Rattle.std.proofs.Common.{◌≡◌, ◌≤◌, ◌<◌, ℕ, List, [], ◌∷◌, ◌++◌, append_assoc, refl, ap, sym, subst, ◌∙◌, arith}
use Rattle.std.specs.Prelude.{cond, nat_le}
use Rattle.std.proofs.lemmas.Bool.{le-leb, lt-leb}
use Rattle.std.proofs.lemmas.List.{append-nil}
use Rattle.std.proofs.lemmas.List.Elements.{filter-append}
use Rattle.link_io.specs.Given.{AllAfter, GivesAfter, given_by}
use Rattle.mix_loop.specs.Addresses.{Address, AllWithin, AreWithin, GiveAfter, address, addresses_by, ports_of}

-- ---- at one
all_after : (n : ℕ) (xs ys : List (ℕ × List ℕ)) → AllAfter n xs → AllAfter n ys → AllAfter n (xs ++ ys)
all_after n [] ys a b = b
all_after n (x ∷ xs) ys a b = (a.0, all_after n xs ys a.1 b)

gives_then : (n : ℕ) (xs ys zs : List (ℕ × List ℕ)) → GivesAfter n xs ys → GivesAfter n ys zs → GivesAfter n xs zs
gives_then n xs ys zs a b = (a.0 ++ b.0, b.1 ∙ (ap (λ l. l ++ b.0) a.1 ∙ append_assoc xs a.0 b.0), all_after n a.0 b.0 a.2 b.2)

-- nothing of what is given later was given by then
none_by : (n m : ℕ) (more : List (ℕ × List ℕ)) → n < m → AllAfter m more → given_by n more ≡ []
none_by n m [] late a = refl
none_by n m (x ∷ more) late a =
    let same = a.0 in
    ap (λ b. cond b (x ∷ given_by n more) (given_by n more)) (lt-leb x.0 n (omega (arith, same, late))) ∙ none_by n m more late a.1

gives_by : (n m : ℕ) (old new : List (ℕ × List ℕ)) → n < m → GivesAfter m old new → given_by n new ≡ given_by n old
gives_by n m old new late g =
    ap (given_by n) g.1 ∙ (filter-append (λ (x : ℕ × List ℕ). nat_le x.0 n) old g.0 ∙ (ap (λ l. given_by n old ++ l) (none_by n m g.0 late g.2) ∙ append-nil (given_by n old)))

all_by : (n : ℕ) (given : List (ℕ × List ℕ)) → AllWithin n given → given_by n given ≡ given
all_by n [] a = refl
all_by n (x ∷ given) a = ap (λ b. cond b (x ∷ given_by n given) (given_by n given)) (le-leb x.0 n a.0) ∙ ap (λ l. x ∷ l) (all_by n given a.1)

within_after : (n m : ℕ) (given : List (ℕ × List ℕ)) → m ≤ n → AllAfter m given → AllWithin n given
within_after n m [] low a = tt
within_after n m (x ∷ given) low a = let same = a.0 in (omega (arith, same, low), within_after n m given low a.1)

within_more : (n : ℕ) (xs ys : List (ℕ × List ℕ)) → AllWithin n xs → AllWithin n ys → AllWithin n (xs ++ ys)
within_more n [] ys a b = b
within_more n (x ∷ xs) ys a b = (a.0, within_more n xs ys a.1 b)

within_still : (n m : ℕ) (given : List (ℕ × List ℕ)) → n ≤ m → AllWithin n given → AllWithin m given
within_still n m [] low a = tt
within_still n m (x ∷ given) low a = let early = a.0 in (omega (arith, early, low), within_still n m given low a.1)

-- ---- at all
pub give_none : (n : ℕ) (addresses : List Address) → GiveAfter n addresses addresses
give_none n [] = tt
give_none n (a ∷ addresses) = (refl, ([], sym (append-nil a.given), tt), give_none n addresses)

pub give_then : (n : ℕ) (firsts nexts lasts : List Address) → GiveAfter n firsts nexts → GiveAfter n nexts lasts → GiveAfter n firsts lasts
give_then n [] [] lasts g h = h
give_then n [] (b ∷ nexts) lasts g h = absurd g
give_then n (a ∷ firsts) [] lasts g h = absurd g
give_then n (a ∷ firsts) (b ∷ nexts) [] g h = absurd h
give_then n (a ∷ firsts) (b ∷ nexts) (c ∷ lasts) g h = (h.0 ∙ g.0, gives_then n a.given b.given c.given g.1 h.1, give_then n firsts nexts lasts g.2 h.2)

pub same_ports : (n : ℕ) (firsts nexts : List Address) → GiveAfter n firsts nexts → ports_of nexts ≡ ports_of firsts
same_ports n [] [] g = refl
same_ports n [] (b ∷ nexts) g = absurd g
same_ports n (a ∷ firsts) [] g = absurd g
same_ports n (a ∷ firsts) (b ∷ nexts) g = ap (λ p. p ∷ ports_of nexts) g.0 ∙ ap (λ ps. a.port ∷ ps) (same_ports n firsts nexts g.2)

abbrev kept_by : ℕ → Address → Address
kept_by n a = address a.port (given_by n a.given)

-- what was given by then is the same later
pub same_by : (n m : ℕ) (firsts nexts : List Address) → n < m → GiveAfter m firsts nexts → addresses_by n nexts ≡ addresses_by n firsts
same_by n m [] [] late g = refl
same_by n m [] (b ∷ nexts) late g = absurd g
same_by n m (a ∷ firsts) [] late g = absurd g
same_by n m (a ∷ firsts) (b ∷ nexts) late g =
    let one : kept_by n b ≡ kept_by n a = ap (λ p. address p (given_by n b.given)) g.0 ∙ ap (address a.port) (gives_by n m a.given b.given late g.1) in
    ap (λ x. x ∷ addresses_by n nexts) one ∙ ap (λ xs. kept_by n a ∷ xs) (same_by n m firsts nexts late g.2)

-- by now all was given
pub whole_by : (n : ℕ) (addresses : List Address) → AreWithin n addresses → addresses_by n addresses ≡ addresses
whole_by n [] w = refl
whole_by n (a ∷ addresses) w =
    ap (λ l. address a.port l ∷ addresses_by n addresses) (all_by n a.given w.0) ∙ ap (λ xs. a ∷ xs) (whole_by n addresses w.1)

pub within_then : (n m : ℕ) (firsts nexts : List Address) → m ≤ n → AreWithin n firsts → GiveAfter m firsts nexts → AreWithin n nexts
within_then n m [] [] low w g = tt
within_then n m [] (b ∷ nexts) low w g = absurd g
within_then n m (a ∷ firsts) [] low w g = absurd g
within_then n m (a ∷ firsts) (b ∷ nexts) low w g =
    let is = g.1 in (
      subst (λ (l : List (ℕ × List ℕ)). AllWithin n l) (sym is.1) (within_more n a.given is.0 w.0 (within_after n m is.0 low is.2)),
      within_then n m firsts nexts low w.1 g.2,
    )

pub within_later : (n m : ℕ) (addresses : List Address) → n ≤ m → AreWithin n addresses → AreWithin m addresses
within_later n m [] low w = tt
within_later n m (a ∷ addresses) low w = (within_still n m a.given low w.0, within_later n m addresses low w.1)
