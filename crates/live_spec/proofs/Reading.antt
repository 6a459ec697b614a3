-- A record that was written is read, and a whole file.
use Rattle.std.proofs.Common.{◌≡◌, ℕ, ◌+◌, ◌-◌, ◌≤◌, ◌/◌, ◌%◌, Bool, true, false, cond, eqb, ltb, List, [], ◌∷◌, ◌++◌, length, map, None, refl, ap, ◌∙◌, arith, length-append}
use Rattle.std.specs.List.{flat_map, AllByRecursion}
use Rattle.std.specs.Int.{w16, w32, to_be_bytes}
use Rattle.std.proofs.lemmas.Bool.{le-ltb, ne_eqb}
use Rattle.std.proofs.lemmas.List.{take_all}
use Rattle.std.proofs.lemmas.Nat.{from_be_bytes-to_be_bytes_2, from_be_bytes-to_be_bytes_4}
use Rattle.rtt_base.specs.declared.limits.TheConstants.{MOST_PACKET_OCTETS}
use Rattle.wire_spec.specs.declared.limits.TheConstants.{LAST_RECORD_MOMENT, MOST_RECORDING_OCTETS}
use Rattle.wire_spec.specs.Dump.{What, Whole, Rtcp, Next, what_of, size_of, packet_size_of, time_of, step_or, dump_step, with_item, records_by, records, dump_from, dump, usual_limit}
use Rattle.wire_spec.proofs.Records.{unrolled}
use Rattle.command_spec.specs.Streams.{is_rtcp}
use Rattle.live_spec.specs.Recorded.{Entry, Part, packet_size, record_in, part_written}
use Rattle.live_spec.specs.Laws.{IsShort, IsEarly, what_is, item_in}
use Rattle.live_spec.proofs.Heads.{opened}
use Rattle.wire_spec.proofs.Recordings.{eight_taken, eight_dropped}

-- ---- what a record is

-- a packet is itself, where its size is that of its octets
whole_what : (octets : List ℕ) → length octets ≤ MOST_PACKET_OCTETS → what_of (length octets) octets ≡ cond (eqb (length octets) 0) Rtcp (Whole octets)
whole_what octets few =
    let b : ltb (length octets) (length octets) ≡ false = le-ltb (length octets) (length octets) (omega arith) in
    let c : ltb MOST_PACKET_OCTETS (length octets) ≡ false = le-ltb MOST_PACKET_OCTETS (length octets) few in
    rw (b, c, take_all (length octets) octets (omega arith)) refl

what_read : (octets : List ℕ) → length octets ≤ MOST_PACKET_OCTETS → what_of (packet_size octets) octets ≡ what_is octets
what_read octets few = go (is_rtcp octets)
  where
    go : (b : Bool) → what_of (cond b 0 (length octets)) octets ≡ cond (eqb (cond b 0 (length octets)) 0) Rtcp (Whole octets)
    go true = refl
    go false = whole_what octets few

size_small : (octets : List ℕ) → packet_size octets ≤ length octets
size_small octets = go (is_rtcp octets)
  where
    go : (b : Bool) → cond b 0 (length octets) ≤ length octets
    go true = omega arith
    go false = omega arith

-- ---- one record

-- a record of these octets, whatever size it has for its packet
abbrev sized : ℕ → ℕ → List ℕ → List ℕ
sized t k octets = to_be_bytes w16 (length octets + 8) ++ (to_be_bytes w16 k ++ (to_be_bytes w32 t ++ octets))

sized_read : (limit byte t k : ℕ) (octets more : List ℕ) → length octets ≤ MOST_PACKET_OCTETS → k ≤ length octets → t ≤ LAST_RECORD_MOMENT → byte + (length octets + 8) ≤ limit
    → dump_step limit (record { byte = byte; rest = sized t k octets ++ more }) ≡ Next (record { time = t; what = what_of k octets }) (record { byte = byte + (length octets + 8); rest = more })
unfolding dump_step
sized_read limit byte t k octets more few within early small =
    let n : ℕ = length octets in
    let rest : List ℕ = sized t k octets ++ more in
    let size : size_of rest ≡ n + 8 = from_be_bytes-to_be_bytes_2 (n + 8) (omega (arith, few)) in
    let packet : packet_size_of rest ≡ k = from_be_bytes-to_be_bytes_2 k (omega (arith, few, within)) in
    let time : time_of rest ≡ t = from_be_bytes-to_be_bytes_4 t (omega (arith, early)) in
    let some : eqb (length rest) 0 ≡ false = ne_eqb (length rest) 0 (λ e. omega arith) in
    let head : ltb (length rest) 8 ≡ false = le-ltb (length rest) 8 (omega arith) in
    let long : ltb (n + 8) 8 ≡ false = le-ltb (n + 8) 8 (omega arith) in
    let fits : ltb limit (byte + (n + 8)) ≡ false = le-ltb limit (byte + (n + 8)) small in
    let there : ltb (length rest) (n + 8) ≡ false = le-ltb (length rest) (n + 8) (omega (arith, length-append octets more)) in
    let soon : ltb LAST_RECORD_MOMENT t ≡ false = le-ltb LAST_RECORD_MOMENT t early in
    let body = eight_taken ((n + 8) / 256 % 256) ((n + 8) % 256) (k / 256 % 256) (k % 256) (t / 16777216 % 256) (t / 65536 % 256) (t / 256 % 256) (t % 256) n octets more refl in
    let behind = eight_dropped ((n + 8) / 256 % 256) ((n + 8) % 256) (k / 256 % 256) (k % 256) (t / 16777216 % 256) (t / 65536 % 256) (t / 256 % 256) (t % 256) n octets more refl in
    let next : step_or (record { byte = byte; rest = rest }) None ≡ Next (record { time = t; what = what_of k octets }) (record { byte = byte + (n + 8); rest = more }) =
    rw (size, packet, time, body, behind) refl in
    rw (some, head, size, long, fits, there, time, soon) next

pub record_read : (limit byte begins : ℕ) (e : Entry) (more : List ℕ) → IsShort e → IsEarly begins e → byte + (length e.octets + 8) ≤ limit
    → dump_step limit (record { byte = byte; rest = record_in begins e ++ more }) ≡ Next (item_in begins e) (record { byte = byte + (length e.octets + 8); rest = more })
record_read limit byte begins e more short early small =
    sized_read limit byte (e.at - begins) (packet_size e.octets) e.octets more short (size_small e.octets) early small
    ∙ ap (λ (w : What). Next (record { time = e.at - begins; what = w }) (record { byte = byte + (length e.octets + 8); rest = more })) (what_read e.octets short)

-- ---- all records

pub record_size : (begins : ℕ) (e : Entry) → length (record_in begins e) ≡ 8 + length e.octets
record_size begins e = omega arith

pub sizes : (begins : ℕ) (e : Entry) (more : List ℕ) → length (record_in begins e ++ more) ≡ length e.octets + 8 + length more
sizes begins e more = omega (arith, length-append (record_in begins e) more, record_size begins e)

pub all_read : (limit byte begins : ℕ) (es : List Entry) → AllByRecursion IsShort es → AllByRecursion (IsEarly begins) es → byte + length (flat_map (record_in begins) es) ≤ limit
    → records limit (record { byte = byte; rest = flat_map (record_in begins) es }) ≡ record { items = map (item_in begins) es; fault = None }
unfolding dump_step
all_read limit byte begins [] short early small = unrolled limit (record { byte = byte; rest = [] })
all_read limit byte begins (e ∷ es) short early small =
    let more : List ℕ = flat_map (record_in begins) es in
    let size = sizes begins e more in
    unrolled limit (record { byte = byte; rest = record_in begins e ++ more })
    ∙ ap (records_by (records limit)) (record_read limit byte begins e more short.0 early.0 (omega (arith, size)))
    ∙ ap (with_item (item_in begins e)) (all_read limit (byte + (length e.octets + 8)) begins es short.1 early.1 (omega (arith, size)))

pub head_size : (start : ℕ) (p : Part) → length (part_written start p) ≡ 44 + length (flat_map (record_in p.begins) p.entries)
head_size start p = omega arith

pub file_read : (start : ℕ) (p : Part) → AllByRecursion IsShort p.entries → AllByRecursion (IsEarly p.begins) p.entries → length (part_written start p) ≤ MOST_RECORDING_OCTETS
    → dump usual_limit (part_written start p) ≡ record { items = map (item_in p.begins) p.entries; fault = None }
unfolding dump
file_read start p short early small =
    ap (dump_from usual_limit) (opened (start + p.begins) (flat_map (record_in p.begins) p.entries))
    ∙ all_read usual_limit 44 p.begins p.entries short early (omega (arith, head_size start p, small))
