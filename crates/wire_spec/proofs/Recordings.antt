-- A recording that is written is read back.
use Rattle.std.proofs.Common.{◌≡◌, ℕ, suc, ◌+◌, ◌-◌, ◌<◌, ◌≤◌, ◌/◌, ◌%◌, false, eqb, ltb, List, [], ◌∷◌, ◌++◌, length, take, drop, map, None, Ok, refl, ap, ◌∙◌, arith, length-append}
use Rattle.std.specs.List.{flat_map, AllByRecursion}
use Rattle.std.specs.Int.{w16, w32, to_be_bytes}
use Rattle.std.proofs.lemmas.Bool.{le-ltb, ne_eqb}
use Rattle.std.proofs.lemmas.List.{take_at, take_all, drop_at}
use Rattle.std.proofs.lemmas.Nat.{from_be_bytes-to_be_bytes_2, from_be_bytes-to_be_bytes_4}
use Rattle.wire_spec.specs.Dump.{Whole, Next, what_of, size_of, packet_size_of, time_of, step_or, dump_step, with_item, records_by, records, dump_from, dump, opening, dump_opening, record_written, dump_written, FitsRecord, sent_item}
use Rattle.wire_spec.proofs.Records.{unrolled}
use Rattle.rtt_base.specs.declared.limits.TheConstants.{MOST_PACKET_OCTETS}
use Rattle.wire_spec.specs.declared.limits.TheConstants.{LAST_RECORD_MOMENT}

-- ---- the line and the head

abbrev head_octets : List ℕ
head_octets = to_be_bytes w32 0 ++ (to_be_bytes w32 0 ++ (127 ∷ 0 ∷ 0 ∷ 1 ∷ (to_be_bytes w16 5004 ++ to_be_bytes w16 0)))

opened : (rest : List ℕ) → opening (dump_opening ++ rest) ≡ Ok (record { byte = 44; rest = rest })
unfolding opening
opened rest =
    let byte : length (dump_opening ++ rest) - length (head_octets ++ rest) ≡ 28 = omega arith in
    let long : ltb (length (head_octets ++ rest)) 16 ≡ false = le-ltb (length (head_octets ++ rest)) 16 (omega arith) in
    rw (byte, long) refl

-- ---- one record

one_what : (octets : List ℕ) → 0 < length octets → length octets ≤ MOST_PACKET_OCTETS → what_of (length octets) octets ≡ Whole octets
one_what octets some few =
    let a : eqb (length octets) 0 ≡ false = ne_eqb (length octets) 0 (λ e. omega arith) in
    let b : ltb (length octets) (length octets) ≡ false = le-ltb (length octets) (length octets) (omega arith) in
    let c : ltb MOST_PACKET_OCTETS (length octets) ≡ false = le-ltb MOST_PACKET_OCTETS (length octets) few in
    rw (a, b, c, take_all (length octets) octets (omega arith)) refl

pub eight_taken : (a b c d e f g h n : ℕ) (octets more : List ℕ) → length octets ≡ n → drop 8 (take (n + 8) (a ∷ b ∷ c ∷ d ∷ e ∷ f ∷ g ∷ h ∷ (octets ++ more))) ≡ octets
eight_taken a b c d e f g h n octets more e' =
    let k : n + 8 ≡ suc (suc (suc (suc (suc (suc (suc (suc n))))))) = omega arith in
    rw k (take_at octets more n e')

pub eight_dropped : (a b c d e f g h n : ℕ) (octets more : List ℕ) → length octets ≡ n → drop (n + 8) (a ∷ b ∷ c ∷ d ∷ e ∷ f ∷ g ∷ h ∷ (octets ++ more)) ≡ more
eight_dropped a b c d e f g h n octets more e' =
    let k : n + 8 ≡ suc (suc (suc (suc (suc (suc (suc (suc n))))))) = omega arith in
    rw k (drop_at octets more n e')

record_read : (limit byte : ℕ) (r : ℕ × List ℕ) (more : List ℕ) → FitsRecord r → byte + (length r.1 + 8) ≤ limit → dump_step limit (record { byte = byte; rest = record_written r ++ more }) ≡ Next (sent_item r) (record { byte = byte + (length r.1 + 8); rest = more })
unfolding dump_step
record_read limit byte r more fits small =
    let n : ℕ = length r.1 in
    let rest : List ℕ = record_written r ++ more in
    let size : size_of rest ≡ n + 8 = from_be_bytes-to_be_bytes_2 (n + 8) (omega (arith, fits.few)) in
    let packet : packet_size_of rest ≡ n = from_be_bytes-to_be_bytes_2 n (omega (arith, fits.few)) in
    let time : time_of rest ≡ r.0 = from_be_bytes-to_be_bytes_4 r.0 (omega (arith, fits.time)) in
    let some : eqb (length rest) 0 ≡ false = ne_eqb (length rest) 0 (λ e. omega arith) in
    let head : ltb (length rest) 8 ≡ false = le-ltb (length rest) 8 (omega arith) in
    let long : ltb (n + 8) 8 ≡ false = le-ltb (n + 8) 8 (omega arith) in
    let within : ltb limit (byte + (n + 8)) ≡ false = le-ltb limit (byte + (n + 8)) small in
    let there : ltb (length rest) (n + 8) ≡ false = le-ltb (length rest) (n + 8) (omega (arith, length-append r.1 more)) in
    let early : ltb LAST_RECORD_MOMENT r.0 ≡ false = le-ltb LAST_RECORD_MOMENT r.0 fits.time in
    let body = eight_taken ((n + 8) / 256 % 256) ((n + 8) % 256) (n / 256 % 256) (n % 256) (r.0 / 16777216 % 256) (r.0 / 65536 % 256) (r.0 / 256 % 256) (r.0 % 256) n r.1 more refl in
    let behind = eight_dropped ((n + 8) / 256 % 256) ((n + 8) % 256) (n / 256 % 256) (n % 256) (r.0 / 16777216 % 256) (r.0 / 65536 % 256) (r.0 / 256 % 256) (r.0 % 256) n r.1 more refl in
    let next : step_or (record { byte = byte; rest = rest }) None ≡ Next (sent_item r) (record { byte = byte + (n + 8); rest = more }) =
    rw (size, packet, time, body, behind, one_what r.1 fits.some fits.few) refl in
    rw (some, head, size, long, within, there, time, early) next

-- ---- all records

written_size : (r : ℕ × List ℕ) (more : List ℕ) → length (record_written r ++ more) ≡ length r.1 + 8 + length more
written_size r more = omega (arith, length-append r.1 more)

pub all_read : (limit byte : ℕ) (rs : List (ℕ × List ℕ)) → AllByRecursion FitsRecord rs → byte + length (flat_map record_written rs) ≤ limit → records limit (record { byte = byte; rest = flat_map record_written rs }) ≡ record { items = map sent_item rs; fault = None }
unfolding dump_step
all_read limit byte [] fits small = unrolled limit (record { byte = byte; rest = [] })
all_read limit byte (r ∷ rs) fits small =
    let more : List ℕ = flat_map record_written rs in
    let size = written_size r more in
    unrolled limit (record { byte = byte; rest = record_written r ++ more })
    ∙ ap (records_by (records limit)) (record_read limit byte r more fits.0 (omega (arith, size)))
    ∙ ap (with_item (sent_item r)) (all_read limit (byte + (length r.1 + 8)) rs fits.1 (omega (arith, size)))

pub read_back : (limit : ℕ) (rs : List (ℕ × List ℕ)) → AllByRecursion FitsRecord rs → length (dump_written rs) ≤ limit → dump limit (dump_written rs) ≡ record { items = map sent_item rs; fault = None }
unfolding dump
read_back limit rs fits small =
    ap (dump_from limit) (opened (flat_map record_written rs)) ∙ all_read limit 44 rs fits (omega arith)
