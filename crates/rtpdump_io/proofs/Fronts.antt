-- Going through records, one after another.
use Rattle.std.proofs.Common.{◌≡◌, ℕ, ◌+◌, ◌<◌, ◌≤◌, ◌^◌, List, [], ◌∷◌, ◌++◌, length, map, refl, ap, sym, ◌∙◌, subst, arith, append_assoc, append-nil, flat_map}
use Rattle.std.proofs.lemmas.List.{map-append}
use Rattle.wire_spec.specs.Dump.{Item, record_written, sent_item}
use Rattle.rtpdump_io.specs.InMemory.{AreRecords, IsRecord, IsSplit}

-- what the first record of these octets is
abbrev pub Splits : List ℕ → ℕ → List ℕ → List ℕ → Type 0
Splits octets at packet behind = (r : ℕ × List ℕ) (more : List ℕ) → IsRecord r → octets ≡ record_written r ++ more → IsSplit at packet behind r more

-- no record stands first
abbrev pub IsLast : List ℕ → Type 0
IsLast octets = (r : ℕ × List ℕ) (more : List ℕ) → IsRecord r → octets ≡ record_written r ++ more → ⊥

-- one of these records stands first
pub record First (at : ℕ) (body behind : List ℕ) (back : List (ℕ × List ℕ)) : Type 0 where
  pub first : ℕ × List ℕ
  pub later : List (ℕ × List ℕ)
  pub is : back ≡ first ∷ later
  pub fits : IsRecord first
  pub moment : at ≡ first.0
  pub packet : body ≡ first.1
  pub left : AreRecords behind later

pub first_of : (octets : List ℕ) (at : ℕ) (packet behind : List ℕ) (back : List (ℕ × List ℕ)) → Splits octets at packet behind → length behind + 8 ≤ length octets → AreRecords octets back → First at packet behind back
first_of octets at packet behind [] f l a = absurd (omega (arith, ap (λ (xs : List ℕ). length xs) a.is, l))
first_of octets at packet behind (b ∷ back) f l a =
    let s = f b (flat_map record_written back) a.each.0 a.is in
    record {
      first = b;
      later = back;
      is = refl;
      fits = a.each.0;
      moment = s.moment;
      packet = s.packet;
      left = record { is = s.rest; each = a.each.1; few = omega (arith, a.few) };
    }

item_of : (at : ℕ) (body behind : List ℕ) (back : List (ℕ × List ℕ)) (d : First at body behind back) → sent_item (at, body) ≡ sent_item d.first
item_of at body behind back d = ap (λ (x : ℕ). sent_item (x, body)) d.moment ∙ ap (λ (x : List ℕ). sent_item (d.first.0, x)) d.packet

pub none_left : (rest : List ℕ) (back : List (ℕ × List ℕ)) → IsLast rest → AreRecords rest back → back ≡ []
none_left rest [] f a = refl
none_left rest (b ∷ back) f a = absurd (f b (flat_map record_written back) a.each.0 a.is)

-- at most so many records are left
pub record Left (rest : List ℕ) (n : ℕ) : Type 0 where
  pub back : List (ℕ × List ℕ)
  pub left : AreRecords rest back
  pub few : n + length back < 2 ^ 32

pub left_less : (rest : List ℕ) (at : ℕ) (packet behind : List ℕ) (m n : ℕ) → Splits rest at packet behind → length behind + 8 ≤ length rest → n ≤ m + 1 → Left rest m → Left behind n
left_less rest at packet behind m n f l u p =
    let d = first_of rest at packet behind p.back f l p.left in
    record { back = d.later; left = d.left; few = omega (arith, u, p.few, ap (λ (xs : List (ℕ × List ℕ)). length xs) d.is) }

pub some_left : (rest : List ℕ) (at : ℕ) (packet behind : List ℕ) (m : ℕ) → Splits rest at packet behind → length behind + 8 ≤ length rest → Left rest m → m + 1 < 2 ^ 32
some_left rest at packet behind m f l p =
    let d = first_of rest at packet behind p.back f l p.left in
    omega (arith, p.few, ap (λ (xs : List (ℕ × List ℕ)). length xs) d.is)

-- of all these records some stood in front, of which this holds, and those are left
pub record Front (P : List Item → Type 0) (rest : List ℕ) (all : List (ℕ × List ℕ)) : Type 0 where
  pub front : List (ℕ × List ℕ)
  pub back : List (ℕ × List ℕ)
  pub parts : all ≡ front ++ back
  pub left : AreRecords rest back
  pub holds : P (map sent_item front)

pub front_none : (P : List Item → Type 0) (octets : List ℕ) (all : List (ℕ × List ℕ)) → P [] → AreRecords octets all → Front P octets all
front_none P octets all p a = record { front = []; back = all; parts = refl; left = a; holds = p }

-- one record more
pub front_more : (P Q : List Item → Type 0) (rest : List ℕ) (at : ℕ) (packet behind : List ℕ) (all : List (ℕ × List ℕ)) → Splits rest at packet behind → length behind + 8 ≤ length rest
    → ((came : List Item) → P came → Q (came ++ sent_item (at, packet) ∷ [])) → Front P rest all → Front Q behind all
front_more P Q rest at packet behind all f l g h =
    let d = first_of rest at packet behind h.back f l h.left in
    record {
      front = h.front ++ d.first ∷ [];
      back = d.later;
      parts = h.parts ∙ (ap (λ (xs : List (ℕ × List ℕ)). h.front ++ xs) d.is ∙ sym (append_assoc h.front (d.first ∷ []) d.later));
      left = d.left;
      holds = subst Q (ap (λ (i : Item). map sent_item h.front ++ i ∷ []) (item_of at packet behind h.back d) ∙ sym (map-append sent_item h.front (d.first ∷ []))) (g (map sent_item h.front) h.holds);
    }

-- this holds of all
pub front_all : (P : List Item → Type 0) (rest : List ℕ) (all : List (ℕ × List ℕ)) → IsLast rest → Front P rest all → P (map sent_item all)
front_all P rest all f h =
    subst (λ (xs : List (ℕ × List ℕ)). P (map sent_item xs)) (sym (h.parts ∙ (ap (λ (xs : List (ℕ × List ℕ)). h.front ++ xs) (none_left rest h.back f h.left) ∙ append-nil h.front))) h.holds
