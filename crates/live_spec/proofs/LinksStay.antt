-- In a conference of links no leg comes later or goes, and each has a place and a port of its own.
use Rattle.std.proofs.Common.{◌≡◌, ℕ, zero, suc, ◌+◌, Bool, true, false, cond, Option, Some, None, List, [], ◌∷◌, ◌++◌, length, get_or, refl, sym, ap, subst, ◌∙◌, inl, inr, arith}
use Rattle.std.specs.Prelude.{◌<◌, Ok, bytes_eq, is_some, IsSome, All, AllPairs}
use Rattle.std.specs.List.{list_any}
use Rattle.std.proofs.lemmas.Bool.{true≢false, or_parts, cases_lt, eq-eqb}
use Rattle.std.proofs.lemmas.List.Elements.{All-head, All-nil, All-push, All-tail}
use Rattle.std.proofs.lemmas.List.Folds.{list_any_at}
use Rattle.std.proofs.lemmas.List.Quantifiers.{all_pairs_push}
use Rattle.std.proofs.lemmas.List.Sums.{sum_by-cons}
use Rattle.file_spec.specs.declared.conference_lines.Form.TheVariants.{Links}
use Rattle.file_spec.specs.declared.conference_lines.LegLine.{LegLine}
use Rattle.file_spec.specs.Stays.{staying, stays_at}
use Rattle.file_spec.specs.Kept.{IsConference}
use Rattle.file_spec.specs.Conference.{Conference, change_leg, conference_from, is_same_port, port, shares_path, whole_stay}
use Rattle.file_spec.proofs.KeptLines.{length-change}
use Rattle.mixer_spec.proofs.Conferences.{accepted_law}
use Rattle.live_spec.specs.HeadLive.{LinksApart, LinksStay}
use Rattle.mixer_spec.specs.Setups.{AllStay, from_of, leg_at, setup, until_of}
use Rattle.live_spec.proofs.LinkLegs.{IsNewLink, Leaves, legs_fit}

-- it stays for good, and its input is a port
abbrev Stay : LegLine → Type 0
Stay l = (l.stay ≡ whole_stay) × (is_some (port l.input) ≡ true)

-- their ports differ
abbrev AreApart : LegLine → LegLine → Type 0
AreApart a b = is_same_port (port a.input) (port b.input) ≡ false

abbrev Fit : List LegLine → Type 0
Fit legs = All Stay legs × AllPairs AreApart legs

module _ (change : LegLine → LegLine) (leaves : Leaves change) where
  input_at : (legs : List LegLine) (k i : ℕ) (d : LegLine) → (get_or (change_leg change k legs) i d).input ≡ (get_or legs i d).input
  input_at [] k i d = refl
  input_at (l ∷ legs) zero zero d = leaves.input l
  input_at (l ∷ legs) zero (suc i) d = refl
  input_at (l ∷ legs) (suc k) zero d = refl
  input_at (l ∷ legs) (suc k) (suc i) d = input_at legs k i d

  still_apart : (k : ℕ) (legs : List LegLine) → AllPairs AreApart legs → AllPairs AreApart (change_leg change k legs)
  still_apart k legs a i j d less within =
      let same = length-change change k legs in
      subst (λ x. is_same_port (port x) (port (get_or (change_leg change k legs) j d).input) ≡ false) (sym (input_at legs k i d))
      (subst (λ y. is_same_port (port (get_or legs i d).input) (port y) ≡ false) (sym (input_at legs k j d)) (a i j d less (omega (arith, within, same))))

  stays_so : (l : LegLine) → Stay l → Stay (change l)
  stays_so l s = (leaves.stay l ∙ s.0, ap (λ x. is_some (port x)) (leaves.input l) ∙ s.1)

  changed : (k : ℕ) (legs : List LegLine) → All Stay legs → All Stay (change_leg change k legs)
  changed k [] a = a
  changed zero (l ∷ legs) a = go
    where
      go : All Stay (change l ∷ legs)
      go zero d h = stays_so l (a zero d (omega arith))
      go (suc i) d h = a (suc i) d h
  changed (suc k) (l ∷ legs) a = go (changed k legs (λ i d h. a (suc i) d (omega arith)))
    where
      go : All Stay (change_leg change k legs) → All Stay (l ∷ change_leg change k legs)
      go r zero d h = a zero d (omega arith)
      go r (suc i) d h = r i d (omega arith)

none_passes : (test : LegLine → Bool) (legs : List LegLine) → list_any test legs ≡ false → All (λ a. test a ≡ false) legs
none_passes test legs e i d h = go (test (get_or legs i d)) refl
  where
    go : (b : Bool) → test (get_or legs i d) ≡ b → test (get_or legs i d) ≡ false
    go true q = absurd (true≢false (sym (list_any_at test legs i d h q) ∙ e))
    go false q = q

none_shares : (above : List LegLine) (l : LegLine) → list_any (λ a. shares_path Links a l) above ≡ false → All (λ a. AreApart a l) above
none_shares above l e i d h = (or_parts (bytes_eq (get_or above i d).output l.output) _ (none_passes (λ a. shares_path Links a l) above e i d h)).1

one_more : (above : List LegLine) (l : LegLine) → IsNewLink above l → Fit above → Fit (above ++ l ∷ [])
one_more above l n f = (All-push Stay above l f.0 (n.stays, n.numbered), all_pairs_push AreApart above l f.1 (none_shares above l n.apart))

legs_stay : (octets : List ℕ) (c : Conference) → conference_from Links octets ≡ Ok c → Fit c.legs
legs_stay octets c e =
    legs_fit Fit (All-nil Stay, λ i j d less within. absurd (omega (arith, within))) one_more
    (λ change leaves k legs f. (changed change leaves k legs f.0, still_apart change leaves k legs f.1)) octets c e

all_staying : (legs : List LegLine) → All Stay legs → staying 0 legs ≡ length legs
all_staying [] a = refl
all_staying (l ∷ legs) a =
    let r = all_staying legs (All-tail Stay l legs a) in
    let one : cond (stays_at 0 l.stay) 1 0 + staying 0 legs ≡ 1 + staying 0 legs = ap (λ b. cond b 1 0 + staying 0 legs) (ap (stays_at 0) (All-head Stay l legs a).0) in
    let more : 1 + staying 0 legs ≡ suc (length legs) = omega (arith, r) in
    sum_by-cons (λ (y : LegLine). cond (stays_at 0 y.stay) 1 0) l legs ∙ (one ∙ more)

stay_from : (legs : List LegLine) (i : ℕ) → All Stay legs → from_of (leg_at legs i) ≡ 0
stay_from [] i a = refl
stay_from (l ∷ legs) zero a = ap (λ s. s.from) (All-head Stay l legs a).0
stay_from (l ∷ legs) (suc i) a = stay_from legs i (All-tail Stay l legs a)

stay_until : (legs : List LegLine) (i : ℕ) → All Stay legs → until_of (leg_at legs i) ≡ None
stay_until [] i a = refl
stay_until (l ∷ legs) zero a = ap (λ s. s.until) (All-head Stay l legs a).0
stay_until (l ∷ legs) (suc i) a = stay_until legs i (All-tail Stay l legs a)

pub links_stay : (octets : List ℕ) (c : Conference) → conference_from Links octets ≡ Ok c → IsConference c → AllStay (setup c)
links_stay octets c e k =
    let a = (legs_stay octets c e).0 in
    let n = all_staying c.legs a in
    let few = k.room 0 in
    record { seats = omega (arith, n, few); from = λ i. stay_from c.legs i a; until = λ i. stay_until c.legs i a }

pub stay_law : LinksStay
stay_law octets c e = links_stay octets c e (accepted_law Links octets c e).0

-- ---- ports
port_at : (legs : List LegLine) (j : ℕ) (l : LegLine) → All Stay legs → leg_at legs j ≡ Some l → IsSome (port l.input)
port_at [] j l a e = absurd (cc e)
port_at (x ∷ legs) zero l a e = let same : x ≡ l = cc e in subst (λ (y : LegLine). IsSome (port y.input)) same (All-head Stay x legs a).1
port_at (x ∷ legs) (suc j) l a e = port_at legs j l (All-tail Stay x legs a) e

same_port : (a b : Option ℕ) (p : ℕ) → a ≡ Some p → b ≡ Some p → is_same_port a b ≡ true
same_port None b p e f = absurd (cc e)
same_port (Some x) None p e f = absurd (cc f)
same_port (Some x) (Some y) p e f = let both : x ≡ y = cc (e, f) in eq-eqb x y both

line_at : (legs : List LegLine) (j : ℕ) (l d : LegLine) → leg_at legs j ≡ Some l → (j < length legs) × (get_or legs j d ≡ l)
line_at [] j l d e = absurd (cc e)
line_at (x ∷ legs) zero l d e = (omega arith, cc e)
line_at (x ∷ legs) (suc j) l d e = let r = line_at legs j l d e in (omega (arith, r.0), r.1)

-- the earlier of two legs has another port
earlier : (c : Conference) → AllPairs AreApart c.legs → (j k : ℕ) (a b : LegLine) (p : ℕ) → j < k → leg_at c.legs j ≡ Some a → leg_at c.legs k ≡ Some b → port a.input ≡ Some p → port b.input ≡ Some p → ⊥
earlier c apart j k a b p less at_j at_k is_a is_b =
    let x = line_at c.legs j a a at_j in
    let y = line_at c.legs k b a at_k in
    let differ : AreApart a b = subst (λ z. AreApart a z) y.1 (subst (λ z. AreApart z (get_or c.legs k a)) x.1 (apart j k a less y.0)) in
    true≢false (sym (same_port (port a.input) (port b.input) p is_a is_b) ∙ differ)

pub apart_law : LinksApart
apart_law octets c e = record {
  each = λ j l at. port_at c.legs j l (legs_stay octets c e).0 at;
  differ = λ j k a b p at_j at_k is_a is_b. elim (cases_lt j k) [
    | inl less ↦ absurd (earlier c (legs_stay octets c e).1 j k a b p less at_j at_k is_a is_b)
    | inr more ↦ elim (cases_lt k j) [
      | inl less ↦ absurd (earlier c (legs_stay octets c e).1 k j b a p less at_k at_j is_b is_a)
      | inr fewer ↦ omega (arith, more, fewer)
    ]
  ];
}
