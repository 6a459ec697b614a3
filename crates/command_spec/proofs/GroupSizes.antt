-- How many octets a split has, from what is heard packet by packet.
use Rattle.std.proofs.Common.{◌≡◌, ℕ, suc, ◌+◌, ◌*◌, ◌<◌, ◌≤◌, ◌^◌, ◌%◌, Bool, true, false, cond, Option, Some, None, List, [], ◌∷◌, ◌++◌, length, map, refl, ap, sym, arith}
use Rattle.std.specs.Prelude.{◌==◌, ◌&&◌, nat_le, if◌then◌else◌}
use Rattle.std.specs.List.{flat_map}
use Rattle.std.proofs.lemmas.Bool.{eq-eqb, eqb-true, ne_eqb}
use Rattle.std.proofs.lemmas.List.{length-append}
use Rattle.rtt_base.specs.declared.text_packets.PayloadTypes.{PayloadTypes}
use Rattle.rtt_base.specs.declared.blocks.TextBlock.{TextBlock}
use Rattle.wire_spec.specs.Packets.{Packet, back, has_text}
use Rattle.wire_spec.specs.Dump.{dump_opening, record_written}
use Rattle.wire_spec.specs.SentPackets.{packet_written}
use Rattle.stream_spec.specs.Numbering.{Numbered}
use Rattle.stream_spec.specs.Hearing.{is_marked, is_new, marker, new_texts, older_texts, piece, text_list}
use Rattle.stream_spec.specs.Ready.{Chunk, chunk, chunks_over}
use Rattle.command_spec.specs.Splitting.{Group, alone, groups, groups_from, joined, moment_of, packet_of, packets_from, record_of, recorded, timestamp_of}
use Rattle.command_spec.proofs.CascadeOutputs.{by_bool}
use Rattle.command_spec.proofs.Carrying.{plain_size}

-- ---- groups
-- what the records of groups take: 8 octets, 12 of a header, and the text
abbrev pub cost : List Group → ℕ
cost [] = 0
cost (g ∷ gs) = 20 + length g.text + cost gs

-- what another moment weighs
abbrev pub moved : Bool → ℕ
moved same = if same then 0 else 1020

-- what chunks weigh behind one that is ready at r: each octet 53, and 1020 where the moment is another
abbrev pub weight : ℕ → List Chunk → ℕ
weight r [] = 0
weight r (c ∷ cs) = 53 * length c.text + moved (r == c.ready) + weight c.ready cs

not_le : (m n : ℕ) → nat_le m n ≡ false → n < m
not_le m n e = grind arith

cost_from : (g : Group) (cs : List Chunk) → 51 * cost (groups_from g cs) ≤ 1020 + 52 * length g.text + weight g.ready cs
cost_from g [] = omega arith
cost_from g (c ∷ cs) =
    let apart = cost_from (alone c) cs in
    let together = cost_from (joined g c) cs in
    let sum = length-append g.text c.text in
    by_bool
    (λ r. (r ≡ (g.ready == c.ready)) → 51 * cost (cond (r && nat_le (length g.text + length c.text) 1023) (groups_from (joined g c) cs) (g ∷ groups_from (alone c) cs))
    ≤ 1020 + 52 * length g.text + (53 * length c.text + moved r + weight c.ready cs))
    (g.ready == c.ready)
    (λ t is. by_bool
    (λ f. 51 * cost (cond f (groups_from (joined g c) cs) (g ∷ groups_from (alone c) cs)) ≤ 1020 + 52 * length g.text + (53 * length c.text + 0 + weight c.ready cs))
    (nat_le (length g.text + length c.text) 1023)
    (λ fits.
    let same : weight g.ready cs ≡ weight c.ready cs = ap (λ r. weight r cs) (eqb-true g.ready c.ready (sym is)) in
    omega (arith, together, sum, same))
    (λ full. let more = not_le (length g.text + length c.text) 1023 full in omega (arith, apart, more)))
    (λ f is. omega (arith, apart))
    refl

-- ---- packets
abbrev pub total : List (List ℕ) → ℕ
total [] = 0
total (t ∷ ts) = length t + total ts

abbrev one_if_some : List (List ℕ) → ℕ
one_if_some [] = 0
one_if_some (t ∷ ts) = 1

other_moment : (r : ℕ) (b : Bool) → moved b ≤ 1020
other_moment r true = omega arith
other_moment r false = omega arith

same_moment : (place t : ℕ) (texts : List (List ℕ)) (rest : List Chunk) (most : ℕ) → ((r : ℕ) → weight r rest ≤ most) → weight t (map (chunk place t) texts ++ rest) ≤ 53 * total texts + most
same_moment place t [] rest most all = let a = all t in omega (arith, a)
same_moment place t (x ∷ xs) rest most all =
    let more = same_moment place t xs rest most all in
    let same : moved (t == t) ≡ 0 = ap moved (eq-eqb t t refl) in
    omega (arith, more, same)

one_packet : (r place t : ℕ) (texts : List (List ℕ)) (rest : List Chunk) (most : ℕ) → ((r : ℕ) → weight r rest ≤ most)
    → weight r (map (chunk place t) texts ++ rest) ≤ 1020 * one_if_some texts + 53 * total texts + most
one_packet r place t [] rest most all = let a = all r in omega (arith, a)
one_packet r place t (x ∷ xs) rest most all =
    let more = same_moment place t xs rest most all in
    let other = other_moment r (r == t) in
    omega (arith, more, other)

-- the octets of the texts of a packet
abbrev pub older_size : List TextBlock → ℕ
older_size [] = 0
older_size (b ∷ bs) = length b.text + older_size bs

abbrev pub text_size : Packet → ℕ
text_size p = older_size p.older + length p.primary

-- what the packets took at least: 8 octets of a record, 12 of a header, and their texts
abbrev pub taken : List Numbered → ℕ
taken [] = 0
taken (b ∷ bs) = 20 + text_size b.packet + taken bs

total_append : (xs ys : List (List ℕ)) → total (xs ++ ys) ≡ total xs + total ys
total_append [] ys = omega arith
total_append (x ∷ xs) ys = let e = total_append xs ys in omega (arith, e)

one_text : (text : List ℕ) → total (text_list text) ≤ length text
one_text text = by_bool (λ b. total (cond b (text ∷ []) []) ≤ length text) (has_text text) (λ t. omega arith) (λ f. omega arith)

older_total : (prev : Option Numbered) (timestamp : ℕ) (bs : List TextBlock) → total (older_texts prev timestamp bs) ≤ older_size bs
older_total prev timestamp [] = omega arith
older_total prev timestamp (b ∷ bs) =
    let rest = older_total prev timestamp bs in
    let one = one_text b.text in
    by_bool (λ n. total (cond n (text_list b.text) [] ++ older_texts prev timestamp bs) ≤ length b.text + older_size bs) (is_new prev (back timestamp b.offset))
    (λ t. let e = total_append (text_list b.text) (older_texts prev timestamp bs) in omega (arith, e, one, rest)) (λ f. omega (arith, rest))

piece_total : (present : ℕ → Bool) (first : ℕ) (prev : Option Numbered) (b : Numbered) → total (piece present first prev b) ≤ 3 + text_size b.packet
piece_total present first prev b =
    let older = older_total prev b.packet.timestamp b.packet.older in
    let own = one_text b.packet.primary in
    let news = total_append (older_texts prev b.packet.timestamp b.packet.older) (text_list b.packet.primary) in
    by_bool (λ m. total (cond m (marker ∷ []) [] ++ new_texts prev b) ≤ 3 + text_size b.packet) (is_marked present first prev b)
    (λ t. omega (arith, older, own, news)) (λ f. omega (arith, older, own, news))

one_most : (texts : List (List ℕ)) → one_if_some texts ≤ 1
one_most [] = omega arith
one_most (x ∷ xs) = omega arith

-- what chunks of these packets weigh at most
abbrev load : List Numbered → ℕ
load [] = 0
load (b ∷ bs) = 1224 + 102 * text_size b.packet + load bs

abbrev pub one_if_any : List Numbered → ℕ
one_if_any [] = 0
one_if_any (b ∷ bs) = 1

load_less : (bs : List Numbered) → load bs ≤ 102 * taken bs
load_less [] = omega arith
load_less (b ∷ bs) = let rest = load_less bs in omega (arith, rest)

load_taken : (bs : List Numbered) → load bs + 816 * one_if_any bs ≤ 102 * taken bs
load_taken [] = omega arith
load_taken (b ∷ bs) = let rest = load_less bs in omega (arith, rest)

over_weight : (ready : Numbered → ℕ) (place : ℕ) (present : ℕ → Bool) (first : ℕ) (prev : Option Numbered) (bs : List Numbered) (r : ℕ)
    → weight r (chunks_over ready place present first prev bs) ≤ load bs
over_weight ready place present first prev [] r = omega arith
over_weight ready place present first prev (b ∷ bs) r =
    let here = one_packet r place (ready b) (piece present first prev b) (chunks_over ready place present first (Some b) bs) (load bs) (over_weight ready place present first (Some b) bs) in
    let few = piece_total present first prev b in
    let one = one_most (piece present first prev b) in
    omega (arith, here, few, one)

-- what groups of chunks take
groups_weight : (cs : List Chunk) (most : ℕ) → ((r : ℕ) → weight r cs ≤ most) → 51 * cost (groups cs) ≤ most
groups_weight [] most all = omega arith
groups_weight (c ∷ cs) most all =
    let from = cost_from (alone c) cs in
    let a = all (suc c.ready) in
    let other : moved (suc c.ready == c.ready) ≡ 1020 = ap moved (ne_eqb (suc c.ready) c.ready (λ e. omega (arith, e))) in
    omega (arith, from, a, other)

pub groups_cost : (ready : Numbered → ℕ) (place : ℕ) (present : ℕ → Bool) (first : ℕ) (bs : List Numbered)
    → cost (groups (chunks_over ready place present first None bs)) + 16 * one_if_any bs ≤ 2 * taken bs
groups_cost ready place present first bs =
    let w = groups_weight (chunks_over ready place present first None bs) (load bs) (over_weight ready place present first None bs) in
    let t = load_taken bs in
    omega (arith, w, t)

-- ---- octets
size_opening : length dump_opening ≡ 44
size_opening = refl

eight_more : (n : ℕ) → suc (suc (suc (suc (suc (suc (suc (suc n))))))) ≡ 8 + n
eight_more n = omega arith

head_size : (at : ℕ) (packet : List ℕ) → length (record_written (at, packet)) ≡ 8 + length packet
head_size at packet = eight_more (length packet)

records_size : (payload_types : PayloadTypes) (s seq least : ℕ) (gs : List Group) → length (flat_map record_written (map (record_of payload_types) (packets_from s seq least gs))) ≡ cost gs
records_size payload_types s seq least [] = refl
records_size payload_types s seq least (g ∷ gs) =
    let rest = records_size payload_types s ((seq + 1) % 2 ^ 16) ((timestamp_of least g + 1) % 2 ^ 32) gs in
    let own = packet_written payload_types (packet_of s seq (timestamp_of least g) g.text) in
    let one = plain_size payload_types s seq (timestamp_of least g) g.text in
    let all = length-append (record_written (moment_of g, own)) (flat_map record_written (map (record_of payload_types) (packets_from s ((seq + 1) % 2 ^ 16) ((timestamp_of least g + 1) % 2 ^ 32) gs))) in
    let head = head_size (moment_of g) own in
    omega (arith, rest, one, all, head)

pub recorded_size : (payload_types : PayloadTypes) (s seq least : ℕ) (gs : List Group) → length (recorded payload_types (packets_from s seq least gs)) ≡ 44 + cost gs
recorded_size payload_types s seq least gs =
    let all = length-append dump_opening (flat_map record_written (map (record_of payload_types) (packets_from s seq least gs))) in
    let rest = records_size payload_types s seq least gs in
    let open_ = size_opening in
    omega (arith, all, rest, open_)
