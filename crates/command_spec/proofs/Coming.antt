-- What comes to a terminal of its recording is what comes of its packets.
use Rattle.std.proofs.Common.{◌≡◌, ℕ, zero, suc, ◌≤◌, false, Some, Ok, Err, Result, inl, List, [], ◌∷◌, ◌++◌, length, length-append, refl, ap, sym, ◌∙◌, arith}
use Rattle.std.specs.Prelude.{map, flat_map, max, ◌&&◌, ◌==◌, nat_lt}
use Rattle.std.specs.List.{AllByRecursion}
use Rattle.std.proofs.lemmas.Bool.{or_parts, ltb-false}
use Rattle.std.proofs.lemmas.List.{append_assoc}
use Rattle.rtt_base.specs.declared.text_packets.PayloadTypes.{PayloadTypes}
use Rattle.wire_spec.specs.declared.faults.TextFault.{TextFault}
use Rattle.wire_spec.specs.Packets.{Packet, Arrival}
use Rattle.wire_spec.specs.Text.{text_of}
use Rattle.wire_spec.specs.SentPackets.{packet_written}
use Rattle.wire_spec.specs.Dump.{Item, Whole, latest, arrived, arrivals_after}
use Rattle.file_spec.specs.declared.conference_lines.PlanLine.{PlanLine}
use Rattle.stream_spec.specs.Lists.{In}
use Rattle.mixer_spec.specs.Arrives.{Copy, is_sooner, InOrder, arrives, one_at, arrival, arrivals_of_copies, arrivals}
use Rattle.mixer_spec.proofs.Lists.{both}
use Rattle.mixer_spec.proofs.PlanOrder.{order_law}
use Rattle.view_spec.specs.Seen.{Reception, Text, fate_of, fate_at, is_packet, is_refused, is_foreign, many}
use Rattle.mixer_spec.specs.Arrives.{item_of, came}
use Rattle.command_spec.proofs.SentBack.{IsBack}
use Rattle.mixer_spec.proofs.Arriving.{length_map}

abbrev record_of : PayloadTypes → Arrival → ℕ × List ℕ
record_of payload_types a = (a.time, packet_written payload_types a.packet)

not_sooner : (c d : Copy) → is_sooner d c ≡ false → c.at ≤ d.at
not_sooner c d e = let l = ltb-false d.at c.at (or_parts (nat_lt d.at c.at) ((d.at == c.at) && nat_lt d.index c.index) e).0 in omega arith

-- ---- one copy
-- a packet that is read back arrives at its moment, where none came later
read_at : (time : ℕ) (past : List Arrival) (x : Result Packet TextFault) (p : Packet) → x ≡ Ok p → latest past ≤ time → arrived time x past ≡ record { time = time; packet = p } ∷ past
read_at time past (Ok q) p e l =
    let same : q ≡ p = cc e in
    let m : max time (latest past) ≡ time = omega arith in
    λ i. (let a : Arrival = record { time = m i; packet = same i } in a) ∷ past
read_at time past (Err fault) p e l = absurd (cc e)

copy_comes : (r : Reception) (c : Copy) (k : ℕ) (sent past : List Arrival) (rest : List Item) → AllByRecursion (IsBack r.ssrc r.payload_types) sent → latest past ≤ c.at
    → arrivals_after r.ssrc r.payload_types past (map (λ x. record { time = c.at; what = Whole x.1 }) (one_at k (map (record_of r.payload_types) sent)) ++ rest)
    ≡ arrivals_after r.ssrc r.payload_types (map (λ a. record { time = c.at; packet = a.packet }) (one_at k sent) ++ past) rest
copy_comes r c zero [] past rest b l = refl
copy_comes r c (suc k) [] past rest b l = refl
copy_comes r c zero (a ∷ sent) past rest b l =
    ap (λ (xs : List Arrival). arrivals_after r.ssrc r.payload_types xs rest) (read_at c.at past (text_of (packet_written r.payload_types a.packet) (Some r.ssrc) r.payload_types) a.packet b.0.text_is l)
copy_comes r c (suc k) (a ∷ sent) past rest b l = copy_comes r c k sent past rest b.1 l

copy_late : (c : Copy) (k : ℕ) (sent past : List Arrival) → latest past ≤ c.at → latest (map (λ a. record { time = c.at; packet = a.packet }) (one_at k sent) ++ past) ≤ c.at
copy_late c zero [] past l = l
copy_late c (suc k) [] past l = l
copy_late c zero (a ∷ sent) past l = omega arith
copy_late c (suc k) (a ∷ sent) past l = copy_late c k sent past l

-- ---- all copies
all_come : (r : Reception) (sent : List Arrival) → AllByRecursion (IsBack r.ssrc r.payload_types) sent → (cs : List Copy) (past : List Arrival) → InOrder cs → ((c : Copy) → In c cs → latest past ≤ c.at)
    → arrivals_after r.ssrc r.payload_types past (flat_map (item_of (map (record_of r.payload_types) sent)) cs) ≡ arrivals_of_copies sent cs ++ past
all_come r sent b [] past o l = refl
all_come r sent b (c ∷ cs) past o l =
    let first = l c (inl refl) in
    copy_comes r c c.index sent past (flat_map (item_of (map (record_of r.payload_types) sent)) cs) b first
    ∙ (all_come r sent b cs (arrival sent c ++ past) o.1 (λ d i. let m = copy_late c c.index sent past first in let n = not_sooner c d (o.0 d i) in omega (arith, m, n))
    ∙ sym (append_assoc (arrivals_of_copies sent cs) (arrival sent c) past))

times_are : (payload_types : PayloadTypes) (sent : List Arrival) → map (λ (x : ℕ × List ℕ). x.0) (map (record_of payload_types) sent) ≡ map (λ (a : Arrival). a.time) sent
times_are payload_types [] = refl
times_are payload_types (a ∷ sent) = ap (λ ts. a.time ∷ ts) (times_are payload_types sent)

nil : (xs : List Arrival) → xs ++ [] ≡ xs
nil [] = refl
nil (x ∷ xs) = ap (λ ys. x ∷ ys) (nil xs)

pub comes : (r : Reception) (plan : List PlanLine) (j : ℕ) (sent : List Arrival) → AllByRecursion (IsBack r.ssrc r.payload_types) sent
    → arrivals_after r.ssrc r.payload_types [] (came plan j (map (record_of r.payload_types) sent)) ≡ arrivals plan j sent
comes r plan j sent b =
    ap (λ ts. arrivals_after r.ssrc r.payload_types [] (flat_map (item_of (map (record_of r.payload_types) sent)) (arrives plan j ts))) (times_are r.payload_types sent)
    ∙ (all_come r sent b (arrives plan j (map (λ a. a.time) sent)) [] (order_law plan j (map (λ a. a.time) sent)) (λ c i. omega arith)
    ∙ nil (arrivals_of_copies sent (arrives plan j (map (λ a. a.time) sent))))

-- ---- counts
-- each that comes is a packet of text
copy_texts : (r : Reception) (c : Copy) (k : ℕ) (sent : List Arrival) → AllByRecursion (IsBack r.ssrc r.payload_types) sent
    → AllByRecursion (λ i. fate_at r i ≡ Text) (map (λ x. record { time = c.at; what = Whole x.1 }) (one_at k (map (record_of r.payload_types) sent)))
copy_texts r c zero [] b = tt
copy_texts r c (suc k) [] b = tt
copy_texts r c zero (a ∷ sent) b = (ap fate_of b.0.text_is, tt)
copy_texts r c (suc k) (a ∷ sent) b = copy_texts r c k sent b.1

all_texts : (r : Reception) (sent : List Arrival) → AllByRecursion (IsBack r.ssrc r.payload_types) sent → (cs : List Copy) → AllByRecursion (λ i. fate_at r i ≡ Text) (flat_map (item_of (map (record_of r.payload_types) sent)) cs)
all_texts r sent b [] = tt
all_texts r sent b (c ∷ cs) =
    both (λ i. fate_at r i ≡ Text) (item_of (map (record_of r.payload_types) sent) c) (flat_map (item_of (map (record_of r.payload_types) sent)) cs) (copy_texts r c c.index sent b) (all_texts r sent b cs)

pub texts_come : (r : Reception) (plan : List PlanLine) (j : ℕ) (sent : List Arrival) → AllByRecursion (IsBack r.ssrc r.payload_types) sent
    → AllByRecursion (λ i. fate_at r i ≡ Text) (came plan j (map (record_of r.payload_types) sent))
texts_come r plan j sent b = all_texts r sent b (arrives plan j (map (λ x. x.0) (map (record_of r.payload_types) sent)))

pub all_count : (r : Reception) (items : List Item) → AllByRecursion (λ i. fate_at r i ≡ Text) items → many is_packet (fate_at r) items ≡ length items
all_count r [] a = refl
all_count r (x ∷ items) a = rw a.0 (ap suc (all_count r items a.1))

pub none_refused : (r : Reception) (items : List Item) → AllByRecursion (λ i. fate_at r i ≡ Text) items → many is_refused (fate_at r) items ≡ 0
none_refused r [] a = refl
none_refused r (x ∷ items) a = rw a.0 (none_refused r items a.1)

pub none_foreign : (r : Reception) (items : List Item) → AllByRecursion (λ i. fate_at r i ≡ Text) items → many is_foreign (fate_at r) items ≡ 0
none_foreign r [] a = refl
none_foreign r (x ∷ items) a = rw a.0 (none_foreign r items a.1)

one_each : (k : ℕ) (sent : List Arrival) (payload_types : PayloadTypes) → length (one_at k (map (record_of payload_types) sent)) ≡ length (one_at k sent)
one_each zero [] payload_types = refl
one_each (suc k) [] payload_types = refl
one_each zero (a ∷ sent) payload_types = refl
one_each (suc k) (a ∷ sent) payload_types = one_each k sent payload_types

as_many : (payload_types : PayloadTypes) (sent : List Arrival) (cs : List Copy) → length (flat_map (item_of (map (record_of payload_types) sent)) cs) ≡ length (arrivals_of_copies sent cs)
as_many payload_types sent [] = refl
as_many payload_types sent (c ∷ cs) =
    let a = length-append (item_of (map (record_of payload_types) sent) c) (flat_map (item_of (map (record_of payload_types) sent)) cs) in
    let b = length-append (arrivals_of_copies sent cs) (arrival sent c) in
    let m = length_map (λ (x : ℕ × List ℕ). let i : Item = record { time = c.at; what = Whole x.1 } in i) (one_at c.index (map (record_of payload_types) sent)) in
    let n = length_map (λ (y : Arrival). let i : Arrival = record { time = c.at; packet = y.packet } in i) (one_at c.index sent) in
    let r = as_many payload_types sent cs in
    omega (arith, a, b, m, n, r, one_each c.index sent payload_types)

pub many_come : (payload_types : PayloadTypes) (plan : List PlanLine) (j : ℕ) (sent : List Arrival) → length (came plan j (map (record_of payload_types) sent)) ≡ length (arrivals plan j sent)
many_come payload_types plan j sent =
    ap (λ ts. length (flat_map (item_of (map (record_of payload_types) sent)) (arrives plan j ts))) (times_are payload_types sent) ∙ as_many payload_types sent (arrives plan j (map (λ a. a.time) sent))
