-- Going through records, one after another.
use Rattle.std.proofs.Common.{◌≡◌, ℕ, ◌+◌, ◌-◌, ◌<◌, ◌≤◌, List, [], ◌∷◌, ◌++◌, length, map, drop, get_or, inl, inr, refl, ap, sym, ◌∙◌, subst, arith, append_assoc, append-nil, length-append}
use Rattle.std.specs.Prelude.{flat_map, slice_index}
use Rattle.std.proofs.Math.Seq.{drop-append_seam, get_or-append_seam}
use Rattle.std.proofs.lemmas.Bool.{cases_lt}
use Rattle.std.proofs.lemmas.Grind.{flat_map-append}
use Rattle.std.proofs.lemmas.List.{map-append, get_or_append_left}
use Rattle.wire_spec.specs.Dump.{record_written}
use Rattle.rtpdump_io.specs.InMemory.{AreRecords}
use Rattle.rtpdump_io.proofs.Fronts.{IsLast, Splits, first_of, none_left}
use Rattle.playback.specs.declared.indexes.RecordIndex.{RecordIndex}
use Rattle.playback.specs.Finds.{Stand, Finds}

-- so far these records stood in front, and those are left
pub record Passed (octets rest : List ℕ) (whole front : List (ℕ × List ℕ)) : Type 0 where
  pub back : List (ℕ × List ℕ)
  pub all : whole ≡ front ++ back
  pub left : AreRecords rest back

pub passed_none : (octets : List ℕ) (all : List (ℕ × List ℕ)) → AreRecords octets all → Passed octets octets all []
passed_none octets all a = record { back = all; all = refl; left = a }

pub record PassedMore (octets : List ℕ) (at : ℕ) (body behind : List ℕ) (all front : List (ℕ × List ℕ)) : Type 0 where
  pub first : ℕ × List ℕ
  pub moment : at ≡ first.0
  pub packet : body ≡ first.1
  pub passed : Passed octets behind all (front ++ first ∷ [])

pub passed_more : (octets rest : List ℕ) (at : ℕ) (packet behind : List ℕ) (all front : List (ℕ × List ℕ)) → Splits rest at packet behind → length behind + 8 ≤ length rest → Passed octets rest all front → PassedMore octets at packet behind all front
passed_more octets rest at packet behind all front f l p =
    let d = first_of rest at packet behind p.back f l p.left in
    record {
      first = d.first;
      moment = d.moment;
      packet = d.packet;
      passed = record { back = d.later; all = p.all ∙ (ap (λ (xs : List (ℕ × List ℕ)). front ++ xs) d.is ∙ sym (append_assoc front (d.first ∷ []) d.later)); left = d.left };
    }

pub passed_all : (octets rest : List ℕ) (all front : List (ℕ × List ℕ)) → IsLast rest → Passed octets rest all front → all ≡ front
passed_all octets rest all front f p = p.all ∙ (ap (λ (xs : List (ℕ × List ℕ)). front ++ xs) (none_left rest p.back f p.left) ∙ append-nil front)

-- ---- where records stand
pub record FoundFront (ms ps : List ℕ) (octets rest : List ℕ) (all : List (ℕ × List ℕ)) : Type 0 where
  pub front : List (ℕ × List ℕ)
  pub passed : Passed octets rest all front
  pub moments : ms ≡ map (λ r. r.0) front
  pub places : Stand ps octets front all

pub found_none : (octets : List ℕ) (all : List (ℕ × List ℕ)) → AreRecords octets all → FoundFront [] [] octets octets all
found_none octets all a = record { front = []; passed = passed_none octets all a; moments = refl; places = record { each = refl; there = λ k l. absurd (omega arith) } }

pub found_more : (moments places octets rest : List ℕ) (all : List (ℕ × List ℕ)) (m place : ℕ) (packet behind : List ℕ) → Splits rest m packet behind → length behind + 8 ≤ length rest → AreRecords octets all → place ≡ length octets - length rest
    → FoundFront moments places octets rest all → FoundFront (moments ++ m ∷ []) (places ++ place ∷ []) octets behind all
found_more moments places octets rest all m place packet behind f l a at r =
    let d = passed_more octets rest m packet behind all r.front f l r.passed in
    record {
      front = r.front ++ d.first ∷ [];
      passed = d.passed;
      moments = ap (λ (xs : List ℕ). xs ++ m ∷ []) r.moments ∙ (ap (λ (k : ℕ). map (λ x. x.0) r.front ++ k ∷ []) d.moment ∙ sym (map-append (λ x. x.0) r.front (d.first ∷ [])));
      places = record {
        each = omega (arith, length-append places (place ∷ []), length-append r.front (d.first ∷ []), r.places.each);
        there = there d.first;
      };
    }
  where
    octets_are : octets ≡ flat_map record_written r.front ++ rest
    octets_are = a.is ∙ (ap (flat_map record_written) r.passed.all ∙ (flat_map-append record_written r.front r.passed.back ∙ ap (λ (xs : List ℕ). flat_map record_written r.front ++ xs) (sym r.passed.left.is)))

    here : drop place octets ≡ rest
    here =
        let size : length octets ≡ length (flat_map record_written r.front) + length rest = ap (λ (xs : List ℕ). length xs) octets_are ∙ length-append (flat_map record_written r.front) rest in
        let n : place ≡ length (flat_map record_written r.front) = omega (arith, at, size) in
        ap (λ (k : ℕ). drop k octets) n ∙ (ap (drop (length (flat_map record_written r.front))) octets_are ∙ drop-append_seam (flat_map record_written r.front) rest)

    left_are : drop (length r.front) all ≡ r.passed.back
    left_are = ap (drop (length r.front)) r.passed.all ∙ drop-append_seam r.front r.passed.back

    there : (x : ℕ × List ℕ) (k : ℕ) → k < length (r.front ++ x ∷ []) → drop (slice_index (places ++ place ∷ []) k) octets ≡ flat_map record_written (drop k all)
    there x k high = elim (cases_lt k (length r.front)) [
      | inl below ↦ ap (λ (p : ℕ). drop p octets) (get_or_append_left places (place ∷ []) 0 k (omega (arith, r.places.each))) ∙ r.places.there k below
      | inr over ↦
          let last : k ≡ length r.front = omega (arith, length-append r.front (x ∷ [])) in
          let same : k ≡ length places = omega (arith, last, r.places.each) in
          ap (λ (p : ℕ). drop p octets) (ap (λ (i : ℕ). get_or (places ++ place ∷ []) i 0) same ∙ get_or-append_seam places place [] 0)
          ∙ (here ∙ (r.passed.left.is ∙ ap (flat_map record_written) (sym left_are ∙ ap (λ (i : ℕ). drop i all) (sym last))))
    ]

pub found_pushed : (ms ps octets rest : List ℕ) (all : List (ℕ × List ℕ)) (ns qs : List ℕ) → ms ≡ ns → ps ≡ qs → FoundFront ns qs octets rest all → FoundFront ms ps octets rest all
found_pushed ms ps octets rest all ns qs e f h = subst (λ (xs : List ℕ). FoundFront xs ps octets rest all) (sym e) (subst (λ (xs : List ℕ). FoundFront ns xs octets rest all) (sym f) h)

pub found_all : (octets rest : List ℕ) (all : List (ℕ × List ℕ)) (found : RecordIndex) → IsLast rest → FoundFront found.moments.items found.places.items octets rest all → Finds found octets all
found_all octets rest all found f h =
    let e = passed_all octets rest all h.front f h.passed in
    record {
      moments = h.moments ∙ ap (map (λ r. r.0)) (sym e);
      places = subst (λ (xs : List (ℕ × List ℕ)). Stand found.places.items octets xs all) (sym e) h.places;
    }
