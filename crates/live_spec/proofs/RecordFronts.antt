-- What is read of a file that breaks off.
use Rattle.std.proofs.Common.{◌≡◌, ℕ, zero, suc, ◌+◌, ◌-◌, ◌<◌, ◌≤◌, ◌/◌, ◌%◌, Bool, true, false, cond, eqb, ltb, List, [], ◌∷◌, ◌++◌, length, take, map, Result, Some, refl, ap, ◌∙◌, arith}
use Rattle.std.specs.List.{flat_map, AllByRecursion}
use Rattle.std.specs.Int.{w16, w32, to_be_bytes}
use Rattle.std.proofs.Math.Seq.{take-nil, take-append-add}
use Rattle.std.proofs.lemmas.Bool.{le-ltb, lt-ltb, ltb-true, ltb-false}
use Rattle.std.proofs.lemmas.List.{take-append-le, length-take-le}
use Rattle.std.proofs.lemmas.Nat.{from_be_bytes-to_be_bytes_2}
use Rattle.wire_spec.specs.declared.faults.DumpKind.TheVariants.{EndsInside}
use Rattle.wire_spec.specs.Dump.{Item, Place, Fault, Recording, Step, End, Broken, Next, size_of, step_or, record_fault, dump_step, records_by, records, dump_from, dump, usual_limit}
use Rattle.wire_spec.proofs.Records.{unrolled}
use Rattle.live_spec.specs.Recorded.{Entry, Part, packet_size, head_written, record_in}
use Rattle.live_spec.specs.Laws.{IsShort, IsEarly, item_in, IsReadTo}
use Rattle.live_spec.proofs.Heads.{opened}
use Rattle.live_spec.proofs.Reading.{record_size, sizes, record_read, head_size}
use Rattle.live_spec.proofs.Growing.{IsGood}

-- ---- a record that breaks off

abbrev is_next : Step → Bool
is_next End = false
is_next (Broken fault) = false
is_next (Next item place) = true

-- nothing is read where no record is there
none_read : (limit : ℕ) (p : Place) → is_next (dump_step limit p) ≡ false → (records limit p).items ≡ []
none_read limit p h = ap (λ (r : Recording). r.items) (unrolled limit p) ∙ go (dump_step limit p) h
  where
    go : (s : Step) → is_next s ≡ false → (records_by (records limit) s).items ≡ []
    go End e = refl
    go (Broken fault) e = refl
    go (Next item place) e = absurd (cc)

-- the size of a record of which two octets are there
size_there : (a b : ℕ) (more : List ℕ) (n : ℕ) → 2 ≤ n → size_of (take n (a ∷ b ∷ more)) ≡ size_of (a ∷ b ∷ [])
size_there a b more zero h = absurd (omega arith)
size_there a b more (suc zero) h = absurd (omega arith)
size_there a b more (suc (suc n)) h = refl

broken_step : (limit byte n size : ℕ) (rest : List ℕ) → length rest ≡ n → n < size → (2 ≤ n → size_of rest ≡ size) → 8 ≤ size → byte + size ≤ limit → is_next (dump_step limit (record { byte = byte; rest = rest })) ≡ false
unfolding dump_step
broken_step limit byte n size rest many less is least small = by_end (eqb (length rest) 0) (ltb (length rest) 8) refl
  where
    by_end : (a b : Bool) → ltb (length rest) 8 ≡ b → is_next (cond a End (cond b (step_or (record { byte = byte; rest = rest }) (Some EndsInside)) (step_or (record { byte = byte; rest = rest }) (record_fault limit (record { byte = byte; rest = rest }))))) ≡ false
    by_end true b e = refl
    by_end false true e = refl
    by_end false false e =
        let long = ltb-false _ _ e in
        let same = is (omega (arith, long, many)) in
        let c : ltb size 8 ≡ false = le-ltb size 8 least in
        let d : ltb limit (byte + size) ≡ false = le-ltb limit (byte + size) small in
        let f : ltb (length rest) size ≡ true = lt-ltb (length rest) size (omega (arith, many, less)) in
        rw (same, c, d, f) refl

broken_read : (limit byte begins n : ℕ) (e : Entry) → IsShort e → byte + (length e.octets + 8) ≤ limit → n < length e.octets + 8 → (records limit (record { byte = byte; rest = take n (record_in begins e) })).items ≡ []
broken_read limit byte begins n e short small less =
    let size = length e.octets + 8 in
    none_read limit (record { byte = byte; rest = take n (record_in begins e) })
    (broken_step limit byte n size (take n (record_in begins e))
    (length-take-le n (record_in begins e) (omega (arith, record_size begins e, less)))
    less
    (λ two. size_there (size / 256 % 256) (size % 256) (to_be_bytes w16 (packet_size e.octets) ++ (to_be_bytes w32 (e.at - begins) ++ e.octets)) n two ∙ from_be_bytes-to_be_bytes_2 size (omega (arith, short)))
    (omega arith) small)

-- ---- records

record IsFrontRead (limit byte begins n : ℕ) (es : List Entry) : Type 0 where
  many : ℕ
  read : (records limit (record { byte = byte; rest = take n (flat_map (record_in begins) es) })).items ≡ map (item_in begins) (take many es)
  all : (k : ℕ) → k ≤ length es → length (flat_map (record_in begins) (take k es)) ≤ n → k ≤ many

ended : (limit byte : ℕ) → is_next (dump_step limit (record { byte = byte; rest = [] })) ≡ false
unfolding dump_step
ended limit byte = refl

-- the record in front breaks off
front_broken : (limit byte begins n : ℕ) (e : Entry) (es : List Entry) → IsShort e → byte + (length e.octets + 8) ≤ limit → n < length e.octets + 8 → IsFrontRead limit byte begins n (e ∷ es)
front_broken limit byte begins n e es short small less =
    let more : List ℕ = flat_map (record_in begins) es in
    let cut : take n (record_in begins e ++ more) ≡ take n (record_in begins e) = take-append-le n (record_in begins e) more (omega (arith, record_size begins e, less)) in
    record {
      many = 0;
      read = ap (λ (xs : List ℕ). (records limit (record { byte = byte; rest = xs })).items) cut ∙ broken_read limit byte begins n e short small less;
      all = none;
    }
  where
    none : (k : ℕ) → k ≤ length (e ∷ es) → length (flat_map (record_in begins) (take k (e ∷ es))) ≤ n → k ≤ 0
    none zero few room = omega arith
    none (suc k) few room = absurd (omega (arith, sizes begins e (flat_map (record_in begins) (take k es)), room, less))

-- or it is whole
front_whole : (limit byte begins n : ℕ) (e : Entry) (es : List Entry) → IsShort e → IsEarly begins e → byte + (length e.octets + 8) ≤ limit → length e.octets + 8 ≤ n
    → IsFrontRead limit (byte + (length e.octets + 8)) begins (n - (length e.octets + 8)) es → IsFrontRead limit byte begins n (e ∷ es)
front_whole limit byte begins n e es short early small whole f =
    let size = length e.octets + 8 in
    let more : List ℕ = flat_map (record_in begins) es in
    let count : n ≡ length (record_in begins e) + (n - size) = omega (arith, record_size begins e, whole) in
    let cut : take n (record_in begins e ++ more) ≡ record_in begins e ++ take (n - size) more = ap (λ (k : ℕ). take k (record_in begins e ++ more)) count ∙ take-append-add (record_in begins e) more (n - size) in
    record {
      many = suc f.many;
      read =
          ap (λ (xs : List ℕ). (records limit (record { byte = byte; rest = xs })).items) cut
          ∙ ap (λ (r : Recording). r.items) (unrolled limit (record { byte = byte; rest = record_in begins e ++ take (n - size) more }))
          ∙ ap (λ (s : Step). (records_by (records limit) s).items) (record_read limit byte begins e (take (n - size) more) short early small)
          ∙ ap (λ (items : List Item). item_in begins e ∷ items) f.read;
      all = each;
    }
  where
    each : (k : ℕ) → k ≤ length (e ∷ es) → length (flat_map (record_in begins) (take k (e ∷ es))) ≤ n → k ≤ suc f.many
    each zero few room = omega arith
    each (suc k) few room =
        let less = f.all k (omega (arith, few)) (omega (arith, sizes begins e (flat_map (record_in begins) (take k es)), room, whole)) in
        omega (arith, less)

front_read : (limit byte begins n : ℕ) (es : List Entry) → AllByRecursion IsShort es → AllByRecursion (IsEarly begins) es → byte + length (flat_map (record_in begins) es) ≤ limit → IsFrontRead limit byte begins n es
front_read limit byte begins n [] short early small = record {
  many = 0;
  read = ap (λ (xs : List ℕ). (records limit (record { byte = byte; rest = xs })).items) (take-nil n) ∙ none_read limit (record { byte = byte; rest = [] }) (ended limit byte);
  all = λ k few room. few;
}
front_read limit byte begins n (e ∷ es) short early small =
    let size = sizes begins e (flat_map (record_in begins) es) in
    by_test (ltb n (length e.octets + 8)) refl (omega (arith, size, small))
    (front_read limit (byte + (length e.octets + 8)) begins (n - (length e.octets + 8)) es short.1 early.1 (omega (arith, size, small)))
  where
    by_test : (b : Bool) → ltb n (length e.octets + 8) ≡ b → byte + (length e.octets + 8) ≤ limit → IsFrontRead limit (byte + (length e.octets + 8)) begins (n - (length e.octets + 8)) es → IsFrontRead limit byte begins n (e ∷ es)
    by_test true t fits f = front_broken limit byte begins n e es short.0 fits (ltb-true _ _ t)
    by_test false t fits f = front_whole limit byte begins n e es short.0 early.0 fits (ltb-false _ _ t) f

-- ---- files

front_of_file : (start n : ℕ) (p : Part) → IsGood start p → 44 ≤ n → IsReadTo start n p
unfolding dump
front_of_file start n p g there =
    let head = head_written (start + p.begins) in
    let octets : List ℕ = flat_map (record_in p.begins) p.entries in
    let count : n ≡ length head + (n - 44) = omega (arith, there) in
    let cut : take n (head ++ octets) ≡ head ++ take (n - 44) octets = ap (λ (k : ℕ). take k (head ++ octets)) count ∙ take-append-add head octets (n - 44) in
    let f = front_read usual_limit 44 p.begins (n - 44) p.entries g.short g.early (omega (arith, head_size start p, g.small)) in
    record {
      many = f.many;
      read =
          ap (λ (xs : List ℕ). (dump usual_limit xs).items) cut
          ∙ ap (λ (r : Result Place Fault). (dump_from usual_limit r).items) (opened (start + p.begins) (take (n - 44) octets))
          ∙ f.read;
      all = λ k few room. f.all k few (omega (arith, head_size start (record { begins = p.begins; entries = take k p.entries }), room));
    }

pub fronts_read : (start n : ℕ) (ps : List Part) → 44 ≤ n → AllByRecursion (IsGood start) ps → AllByRecursion (IsReadTo start n) ps
fronts_read start n [] there g = tt
fronts_read start n (p ∷ ps) there g = (front_of_file start n p g.0 there, fronts_read start n ps there g.1)
