-- What comes of records that are sent to a terminal of which the plan does not speak.
use Rattle.std.proofs.Common.{◌≡◌, ℕ, zero, suc, List, [], ◌∷◌, ◌++◌, map, refl, ap, sym, ◌∙◌, subst}
use Rattle.std.specs.Prelude.{reverse, flat_map, false}
use Rattle.std.specs.List.Sorted.{IsNonDecreasing}
use Rattle.std.proofs.lemmas.List.{reverse-append, reverse-reverse, map-append}
use Rattle.file_spec.specs.declared.conference_lines.PlanLine.{PlanLine}
use Rattle.wire_spec.specs.Packets.{Arrival}
use Rattle.wire_spec.specs.Dump.{Item, Whole, sent_item}
use Rattle.mixer_spec.specs.Arrives.{Copy, arrival, arrivals_of_copies, arrives, one_at}
use Rattle.mixer_spec.specs.Arrives.{came, item_of}
use Rattle.playback.specs.Unplanned.{IsUnplanned}
use Rattle.playback.proofs.PlanUnplanned.{as_sent}

-- a record as an arrival: its octets are the text of a packet
abbrev enclosed : ℕ × List ℕ → Arrival
enclosed r = record { time = r.0; packet = record { marker_bit = false; seq = 0; timestamp = 0; ssrc = 0; source = 0; older = []; primary = r.1 } }

-- what came, taken out again
abbrev opened : Arrival → Item
opened a = record { time = a.time; what = Whole a.packet.primary }

one_enclosed : (k : ℕ) (records : List (ℕ × List ℕ)) → one_at k (map enclosed records) ≡ map enclosed (one_at k records)
one_enclosed k [] = refl
one_enclosed zero (r ∷ rs) = refl
one_enclosed (suc k) (r ∷ rs) = one_enclosed k rs

-- one copy
copy_opened : (records : List (ℕ × List ℕ)) (c : Copy) → reverse (map opened (arrival (map enclosed records) c)) ≡ item_of records c
copy_opened records c = ap (λ (xs : List Arrival). reverse (map opened (map (λ (a : Arrival). record { time = c.at; packet = a.packet }) xs))) (one_enclosed c.index records) ∙ few c.index records
  where
    few : (k : ℕ) (rs : List (ℕ × List ℕ)) → reverse (map opened (map (λ (a : Arrival). record { time = c.at; packet = a.packet }) (map enclosed (one_at k rs)))) ≡ map (λ r. record { time = c.at; what = Whole r.1 }) (one_at k rs)
    few k [] = refl
    few zero (r ∷ rs) = refl
    few (suc k) (r ∷ rs) = few k rs

-- all copies: arrivals stand newest first, and items oldest first
copies_opened : (records : List (ℕ × List ℕ)) (cs : List Copy) → reverse (map opened (arrivals_of_copies (map enclosed records) cs)) ≡ flat_map (item_of records) cs
copies_opened records [] = refl
copies_opened records (c ∷ cs) =
    let sent = map enclosed records in
    ap reverse (map-append opened (arrivals_of_copies sent cs) (arrival sent c))
    ∙ (reverse-append (map opened (arrivals_of_copies sent cs)) (map opened (arrival sent c))
    ∙ (ap (λ (is : List Item). is ++ reverse (map opened (arrivals_of_copies sent cs))) (copy_opened records c) ∙ ap (λ (is : List Item). item_of records c ++ is) (copies_opened records cs)))

times_enclosed : (records : List (ℕ × List ℕ)) → map (λ (a : Arrival). a.time) (map enclosed records) ≡ map (λ r. r.0) records
times_enclosed [] = refl
times_enclosed (r ∷ rs) = ap (λ (ts : List ℕ). r.0 ∷ ts) (times_enclosed rs)

all_opened : (records : List (ℕ × List ℕ)) → map opened (map enclosed records) ≡ map sent_item records
all_opened [] = refl
all_opened (r ∷ rs) = ap (λ (is : List Item). sent_item r ∷ is) (all_opened rs)

map-reverse : (xs : List Arrival) → map opened (reverse xs) ≡ reverse (map opened xs)
map-reverse [] = refl
map-reverse (x ∷ xs) =
    ap (map opened) (reverse-append (x ∷ []) xs)
    ∙ (map-append opened (reverse xs) (x ∷ [])
    ∙ (ap (λ (is : List Item). is ++ opened x ∷ []) (map-reverse xs) ∙ sym (reverse-append (opened x ∷ []) (map opened xs))))

pub as_written : (plan : List PlanLine) (t : ℕ) (records : List (ℕ × List ℕ)) → IsUnplanned plan t → IsNonDecreasing (map (λ r. r.0) records) → came plan t records ≡ map sent_item records
as_written plan t records u h =
    let sent = map enclosed records in
    let law = as_sent plan t sent u (subst IsNonDecreasing (sym (times_enclosed records)) h) in
    ap (λ (ts : List ℕ). flat_map (item_of records) (arrives plan t ts)) (sym (times_enclosed records))
    ∙ (sym (copies_opened records (arrives plan t (map (λ (a : Arrival). a.time) sent)))
    ∙ (ap (λ (xs : List Arrival). reverse (map opened xs)) law
    ∙ (ap reverse (map-reverse sent) ∙ (reverse-reverse (map opened sent) ∙ all_opened records))))
