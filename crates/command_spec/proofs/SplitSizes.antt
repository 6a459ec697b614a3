-- A split has at most twice as many octets as its recording may have.
use Rattle.std.proofs.Common.{◌≡◌, ℕ, zero, suc, ◌+◌, ◌-◌, ◌*◌, ◌≤◌, Bool, true, false, cond, Option, Some, None, List, [], ◌∷◌, length, map, take, drop, filter, Result, Ok, Err, refl, ap, subst, arith}
use Rattle.std.specs.Prelude.{◌==◌, ◌&&◌, ◌/◌, ◌%◌, codes, nat_eq, nat_le, nat_lt, slice_index, if◌then◌else◌}
use Rattle.std.specs.List.{starts_with}
use Rattle.std.proofs.lemmas.Bool.{ltb-false}
use Rattle.std.proofs.lemmas.List.{length-take, length-drop}
use Rattle.rtt_base.specs.Steps.{◌>>=◌}
use Rattle.rtt_base.proofs.Steps.{bind_ok}
use Rattle.rtt_base.specs.declared.text_packets.PayloadTypes.{PayloadTypes}
use Rattle.rtt_base.specs.declared.blocks.TextBlock.{TextBlock}
use Rattle.wire_spec.specs.declared.faults.TextFault.{TextFault}
use Rattle.wire_spec.specs.declared.faults.RtpFault.TheVariants as rtp_fault
use Rattle.wire_spec.specs.declared.faults.RedFault.{RedFault}
use Rattle.wire_spec.specs.declared.faults.RedFault.TheVariants.{WrongType, Cut, Many, Long, NotText}
use Rattle.wire_spec.specs.declared.headers.RedHeader.{RedHeader}
use Rattle.wire_spec.specs.Faults.{header_fault, blocks_fault}
use Rattle.wire_spec.specs.Packets.{Packet, Arrival, primary_text, redundant}
use Rattle.wire_spec.specs.Rtp.{Reading, past, past_extension, rtp, rtp_of_header, unpadded}
use Rattle.wire_spec.specs.Red.{Headers, all_utf8, and_others, blocks_at, header_at, headers_at, older_size, red, red_within, texts_at, texts_within, with_header}
use Rattle.wire_spec.specs.Text.{accepted, is_asked, refused_as, short_within, text_of, text_of_short, text_packet, text_within}
use Rattle.wire_spec.specs.declared.faults.DumpKind.TheVariants.{BadLength, EndsInside, TooLong, TooLarge}
use Rattle.wire_spec.specs.Dump.{Fault, Item, Place, Step, End, Broken, Next, What, Whole, Rtcp, Cut as Part, Large, after_line, arrived, arrivals_after, arrivals_with, dump, dump_from, dump_step, item_of, opening, packet_size_of, past_head, past_line, records, records_by, records_within, size_of, step_or, time_of, what_of}
use Rattle.stream_spec.specs.Numbering.{Numbered, by_number, first_number, has_number, in_time, numbered, used}
use Rattle.stream_spec.specs.Hearing.{is_packet_of}
use Rattle.stream_spec.specs.Ready.{ready_of}
use Rattle.stream_spec.specs.Still.{still, still_block, still_packet}
use Rattle.command_spec.specs.Splitting.{Trunk, came_of, chunks_of, groups, split}
use Rattle.command_spec.specs.Laws.{split_of}
use Rattle.command_spec.proofs.GroupSizes.{cost, groups_cost, one_if_any, recorded_size, taken, text_size}
use Rattle.command_spec.proofs.GroupSizes as sizes
use Rattle.rtt_base.specs.declared.limits.TheConstants.{MOST_PACKET_OCTETS, MOST_TEXT_OCTETS}
use Rattle.wire_spec.specs.declared.limits.TheConstants.{LAST_RECORD_MOMENT}
use Rattle.stream_spec.proofs.Still.{still_short as still_less}
use Rattle.wire_spec.proofs.Plain.{refused_ok}
use Rattle.command_spec.proofs.CascadeOutputs.{by_bool}

-- ---- packets that are used
inserted : (e : Numbered) (us : List Numbered) → taken (by_number e us) ≡ 20 + text_size e.packet + taken us
inserted e [] = refl
inserted e (u ∷ us) =
    let rest = inserted e us in
    by_bool (λ b. taken (cond b (e ∷ u ∷ us) (u ∷ by_number e us)) ≡ 20 + text_size e.packet + (20 + text_size u.packet + taken us)) (nat_lt e.number u.number)
    (λ t. refl) (λ f. omega (arith, rest))

used_less : (wait : ℕ) (es : List Numbered) → taken (used wait es) ≤ taken es
used_less wait [] = omega arith
used_less wait (e ∷ es) =
    let rest = used_less wait es in
    let one = inserted e (used wait es) in
    by_bool (λ b. taken (cond b (by_number e (used wait es)) (used wait es)) ≤ 20 + text_size e.packet + taken es) (in_time wait e es)
    (λ t. omega (arith, one, rest)) (λ f. omega (arith, rest))

some_less : (p : Numbered → Bool) (us : List Numbered) → taken (filter p us) ≤ taken us
some_less p [] = omega arith
some_less p (u ∷ us) =
    let rest = some_less p us in
    by_bool (λ b. taken (cond b (u ∷ filter p us) (filter p us)) ≤ 20 + text_size u.packet + taken us) (p u) (λ t. omega (arith, rest)) (λ f. omega (arith, rest))

-- ---- keep-alives
blocks_less : (bs : List TextBlock) → sizes.older_size (map still_block bs) ≤ sizes.older_size bs
blocks_less [] = omega arith
blocks_less (b ∷ bs) = let one = still_less b.text in let rest = blocks_less bs in omega (arith, one, rest)

packet_less : (p : Packet) → text_size (still_packet p) ≤ text_size p
packet_less p = let one = still_less p.primary in let rest = blocks_less p.older in omega (arith, one, rest)

-- ---- what came
abbrev pub came : List Arrival → ℕ
came [] = 0
came (a ∷ past) = 20 + text_size a.packet + came past

numbered_less : (past : List Arrival) → taken (numbered (still past)) ≤ came past
numbered_less [] = omega arith
numbered_less (a ∷ past) = let one = packet_less a.packet in let rest = numbered_less past in omega (arith, one, rest)

pub used_came : (wait s : ℕ) (past : List Arrival) → taken (filter (is_packet_of s) (used wait (numbered (still past)))) ≤ came past
used_came wait s past =
    let a = some_less (is_packet_of s) (used wait (numbered (still past))) in
    let b = used_less wait (numbered (still past)) in
    let c = numbered_less past in
    omega (arith, a, b, c)

-- ---- the octets of a packet
past_less : (n : ℕ) (octets rest : List ℕ) → past n octets ≡ Ok rest → length rest ≤ length octets
past_less n octets rest e = go (nat_lt (length octets) n) e
  where
    go : (b : Bool) → cond b (Err rtp_fault.Short) (Ok (drop n octets)) ≡ Ok rest → length rest ≤ length octets
    go true e = absurd (cc e)
    go false e = let same : drop n octets ≡ rest = cc e in let d = length-drop n octets in let l = ap (λ (x : List ℕ). length x) same in omega (arith, d, l)

extension_less : (b : Bool) (octets rest : List ℕ) → past_extension b octets ≡ Ok rest → length rest ≤ length octets
extension_less false octets rest e = let same : octets ≡ rest = cc e in let l = ap (λ (x : List ℕ). length x) same in omega (arith, l)
extension_less true octets rest e =
    let r = bind_ok (past 4 octets) _ rest e in
    let a = past_less 4 octets r.0 r.1 in
    let b = past_less _ r.0 rest r.2 in
    omega (arith, a, b)

padding_less : (b : Bool) (octets rest : List ℕ) → unpadded b octets ≡ Ok rest → length rest ≤ length octets
padding_less false octets rest e = let same : octets ≡ rest = cc e in let l = ap (λ (x : List ℕ). length x) same in omega (arith, l)
padding_less true octets rest e = go (slice_index octets (length octets - 1)) (nat_le 1 (slice_index octets (length octets - 1)) && nat_le (slice_index octets (length octets - 1)) (length octets)) e
  where
    go : (q : ℕ) (b : Bool) → cond b (Ok (take (length octets - q) octets)) (Err rtp_fault.Padding) ≡ Ok rest → length rest ≤ length octets
    go q true e = let same : take (length octets - q) octets ≡ rest = cc e in let d = length-take (length octets - q) octets in let l = ap (λ (x : List ℕ). length x) same in omega (arith, d, l)
    go q false e = absurd (cc e)

header_less : (octets : List ℕ) (r : Reading) → 12 ≤ length octets → rtp_of_header octets ≡ Ok r → 12 + length r.payload ≤ length octets
unfolding rtp_of_header
header_less octets r long e =
    let a = bind_ok (past (4 * (slice_index octets 0 % 16)) (drop 12 octets)) _ r e in
    let b = bind_ok (past_extension (slice_index octets 0 / 16 % 2 == 1) a.0) _ r a.2 in
    let c = bind_ok (unpadded (slice_index octets 0 / 32 % 2 == 1) b.0) _ r b.2 in
    let x = past_less (4 * (slice_index octets 0 % 16)) (drop 12 octets) a.0 a.1 in
    let y = extension_less (slice_index octets 0 / 16 % 2 == 1) a.0 b.0 b.1 in
    let z = padding_less (slice_index octets 0 / 32 % 2 == 1) b.0 c.0 c.1 in
    let d = length-drop 12 octets in
    let same : c.0 ≡ r.payload = let f = c.2 in cc f in
    let l = ap (λ (o : List ℕ). length o) same in
    omega (arith, x, y, z, d, l, long)

rtp_less : (octets : List ℕ) (r : Reading) → rtp octets ≡ Ok r → 12 + length r.payload ≤ length octets
unfolding rtp
rtp_less octets r e = go (nat_lt (length octets) 12) (slice_index octets 0 / 64 == 2) refl e
  where
    go : (a b : Bool) → nat_lt (length octets) 12 ≡ a → cond a (Err rtp_fault.Short) (cond b (rtp_of_header octets) (Err rtp_fault.Version)) ≡ Ok r → 12 + length r.payload ≤ length octets
    go true b is e = absurd (cc e)
    go false true is e = header_less octets r (ltb-false (length octets) 12 is) e
    go false false is e = absurd (cc e)

-- the texts of blocks
abbrev all_size : List TextBlock → ℕ
all_size [] = 0
all_size (b ∷ bs) = length b.text + all_size bs

blocks_size : (hs : List RedHeader) (octets : List ℕ) → all_size (blocks_at hs octets) ≤ length octets
blocks_size [] octets = omega arith
blocks_size (h ∷ hs) octets =
    let t = length-take h.size octets in
    let d = length-drop h.size octets in
    let rest = blocks_size hs (drop h.size octets) in
    omega (arith, t, d, rest)

texts_size : (hs : List RedHeader) (octets : List ℕ) (blocks : List TextBlock) → texts_at hs octets ≡ Ok blocks → all_size blocks ≤ length octets
unfolding texts_within
texts_size hs octets blocks e = go (nat_lt (length octets) (older_size hs)) (nat_lt (older_size hs + MOST_TEXT_OCTETS) (length octets)) (all_utf8 (blocks_at hs octets)) e
  where
    go : (a b u : Bool) → cond a (Err Cut) (cond b (Err Long) (cond u (Ok (blocks_at hs octets)) (Err NotText))) ≡ Ok blocks → all_size blocks ≤ length octets
    go true b u e = absurd (cc e)
    go false true u e = absurd (cc e)
    go false false true e = let same : blocks_at hs octets ≡ blocks = cc e in subst (λ (x : List TextBlock). all_size x ≤ length octets) same (blocks_size hs octets)
    go false false false e = absurd (cc e)

others_less : (octets : List ℕ) (others : Result Headers RedFault) (o : Option RedHeader) (hs : Headers) (most : ℕ) → length octets ≤ most → ((x : Headers) → others ≡ Ok x → length x.texts ≤ most)
    → and_others octets others o ≡ Ok hs → length hs.texts ≤ most
others_less octets others None hs most l g e =
    let same : drop 1 octets ≡ hs.texts = cc e in
    let d = length-drop 1 octets in
    let k = ap (λ (x : List ℕ). length x) same in
    omega (arith, d, k, l)
others_less octets others (Some h) hs most l g e =
    let r = bind_ok others (λ x. Ok (with_header h x)) hs e in
    let same : r.0.texts ≡ hs.texts = let f = r.2 in cc f in
    subst (λ (x : List ℕ). length x ≤ most) same (g r.0 r.1)

headers_less : (room t140 : ℕ) (octets : List ℕ) (hs : Headers) → headers_at room t140 octets ≡ Ok hs → length hs.texts ≤ length octets
unfolding headers_at
headers_less zero t140 octets hs e =
    let r = bind_ok (header_at true t140 octets) (and_others octets (Err Many)) hs e in
    others_less octets (Err Many) r.0 hs (length octets) (omega arith) (λ x q. absurd (cc q)) r.2
headers_less (suc room) t140 octets hs e =
    let r = bind_ok (header_at false t140 octets) (and_others octets (headers_at room t140 (drop 4 octets))) hs e in
    let d = length-drop 4 octets in
    others_less octets (headers_at room t140 (drop 4 octets)) r.0 hs (length octets) (omega arith) (λ x q. let k = headers_less room t140 (drop 4 octets) x q in omega (arith, k, d)) r.2

red_size : (octets : List ℕ) (pt : ℕ) (payload_types : PayloadTypes) (blocks : List TextBlock) → red octets pt payload_types ≡ Ok blocks → all_size blocks ≤ length octets
unfolding red_within
red_size octets pt payload_types blocks e = go (pt == payload_types.t140) (pt == payload_types.red) e
  where
    go : (a b : Bool) → cond a (texts_at [] octets) (cond b (headers_at 8 payload_types.t140 octets >>= λ hs. texts_at hs.headers hs.texts) (Err WrongType)) ≡ Ok blocks → all_size blocks ≤ length octets
    go true b e = texts_size [] octets blocks e
    go false true e =
        let r = bind_ok (headers_at 8 payload_types.t140 octets) (λ hs. texts_at hs.headers hs.texts) blocks e in
        let a = texts_size r.0.headers r.0.texts blocks r.2 in
        let b = headers_less 8 payload_types.t140 octets r.0 r.1 in
        omega (arith, a, b)
    go false false e = absurd (cc e)

parts_size : (bs : List TextBlock) → sizes.older_size (redundant bs) + length (primary_text bs) ≤ all_size bs
parts_size [] = omega arith
parts_size (b ∷ []) = omega arith
parts_size (b ∷ c ∷ bs) = let rest = parts_size (c ∷ bs) in omega (arith, rest)

accepted_same : (asked : Option ℕ) (a b : Reading) → accepted asked a ≡ Ok b → a ≡ b
accepted_same asked a b e = go (is_asked asked a.ssrc) (nat_lt 1 a.cc) e
  where
    go : (x y : Bool) → cond x (cond y (Err Rattle.wire_spec.specs.declared.faults.TextFault.TheVariants.Sources) (Ok a)) (Err Rattle.wire_spec.specs.declared.faults.TextFault.TheVariants.Foreign) ≡ Ok b → a ≡ b
    go true true e = absurd (cc e)
    go true false e = cc e
    go false y e = absurd (cc e)

text_less : (octets : List ℕ) (asked : Option ℕ) (payload_types : PayloadTypes) (p : Packet) → text_of octets asked payload_types ≡ Ok p → 12 + text_size p ≤ length octets
unfolding text_within short_within
text_less octets asked payload_types p e = go (nat_lt MOST_PACKET_OCTETS (length octets)) e
  where
    short : (refused_as header_fault (rtp octets) >>= λ reading. accepted asked reading >>= λ r. refused_as blocks_fault (red r.payload r.pt payload_types) >>= λ blocks. Ok (text_packet r blocks)) ≡ Ok p → 12 + text_size p ≤ length octets
    short e =
        let a = bind_ok (refused_as header_fault (rtp octets)) _ p e in
        let b = bind_ok (accepted asked a.0) _ p a.2 in
        let c = bind_ok (refused_as blocks_fault (red b.0.payload b.0.pt payload_types)) _ p b.2 in
        let x = rtp_less octets a.0 (refused_ok header_fault (rtp octets) a.0 a.1) in
        let y = ap (λ (r : Reading). length r.payload) (accepted_same asked a.0 b.0 b.1) in
        let z = red_size b.0.payload b.0.pt payload_types c.0 (refused_ok blocks_fault (red b.0.payload b.0.pt payload_types) c.0 c.1) in
        let w = parts_size c.0 in
        let same : text_packet b.0 c.0 ≡ p = let f = c.2 in cc f in
        let l = ap (λ (q : Packet). text_size q) same in
        omega (arith, x, y, z, w, l)

    go : (b : Bool) → cond b (Err Rattle.wire_spec.specs.declared.faults.TextFault.TheVariants.Long) (text_of_short octets asked payload_types) ≡ Ok p → 12 + text_size p ≤ length octets
    go true e = absurd (cc e)
    go false e = short e

-- ---- records
-- what records take, of those that are whole
abbrev pub items_size : List Item → ℕ
items_size [] = 0
items_size (item ∷ items) = elim item.what [ Whole octets ↦ 8 + length octets | Rtcp ↦ 0 | Part ↦ 0 | Large ↦ 0 ] + items_size items

arrived_less : (time : ℕ) (octets : List ℕ) (s : ℕ) (payload_types : PayloadTypes) (past : List Arrival) → came (arrived time (text_of octets (Some s) payload_types) past) ≤ 8 + length octets + came past
arrived_less time octets s payload_types past = go (text_of octets (Some s) payload_types) refl
  where
    go : (r : Result Packet TextFault) → text_of octets (Some s) payload_types ≡ r → came (arrived time r past) ≤ 8 + length octets + came past
    go (Err fault) is = omega arith
    go (Ok p) is = let l = text_less octets (Some s) payload_types p is in omega (arith, l)

item_less : (s : ℕ) (payload_types : PayloadTypes) (item : Item) (past : List Arrival) → came (arrivals_with s payload_types item past) ≤ elim item.what [ Whole octets ↦ 8 + length octets | Rtcp ↦ 0 | Part ↦ 0 | Large ↦ 0 ] + came past
item_less s payload_types item past = go item.what
  where
    go : (w : What) → came (elim w [ Whole octets ↦ arrived item.time (text_of octets (Some s) payload_types) past | Rtcp ↦ past | Part ↦ past | Large ↦ past ])
        ≤ elim w [ Whole octets ↦ 8 + length octets | Rtcp ↦ 0 | Part ↦ 0 | Large ↦ 0 ] + came past
    go (Whole octets) = arrived_less item.time octets s payload_types past
    go Rtcp = omega arith
    go Part = omega arith
    go Large = omega arith

pub came_less : (s : ℕ) (payload_types : PayloadTypes) (past : List Arrival) (items : List Item) → came (arrivals_after s payload_types past items) ≤ items_size items + came past
came_less s payload_types past [] = omega arith
came_less s payload_types past (item ∷ items) =
    let one = item_less s payload_types item past in
    let rest = came_less s payload_types (arrivals_with s payload_types item past) items in
    omega (arith, one, rest)

-- ---- the recording
what_less : (n : ℕ) (body : List ℕ) → elim (what_of n body) [ Whole octets ↦ 8 + length octets | Rtcp ↦ 0 | Part ↦ 0 | Large ↦ 0 ] ≤ 8 + length body
what_less n body = go (n == 0) (nat_lt (length body) n) (nat_lt MOST_PACKET_OCTETS n)
  where
    go : (a b c : Bool) → elim (cond a Rtcp (cond b Part (cond c Large (Whole (take n body))))) [ Whole octets ↦ 8 + length octets | Rtcp ↦ 0 | Part ↦ 0 | Large ↦ 0 ] ≤ 8 + length body
    go true b c = omega arith
    go false true c = omega arith
    go false false true = omega arith
    go false false false = let t = length-take n body in omega (arith, t)

abbrev item_size : Item → ℕ
item_size item = elim item.what [ Whole octets ↦ 8 + length octets | Rtcp ↦ 0 | Part ↦ 0 | Large ↦ 0 ]

next_fits : (limit : ℕ) (p : Place) (item : Item) (place : Place) → dump_step limit p ≡ Next item place → (p.byte + item_size item ≤ place.byte) × (place.byte ≤ limit)
unfolding dump_step
next_fits limit p item place e =
    go (length p.rest == 0) (nat_lt (length p.rest) 8) (nat_lt (size_of p.rest) 8) (nat_lt limit (p.byte + size_of p.rest)) (nat_lt (length p.rest) (size_of p.rest)) (nat_lt LAST_RECORD_MOMENT (time_of p.rest)) refl refl e
  where
    go : (a b c d f g : Bool) → nat_lt (size_of p.rest) 8 ≡ c → nat_lt limit (p.byte + size_of p.rest) ≡ d
        → cond a End (cond b (step_or p (Some EndsInside)) (step_or p (cond c (Some BadLength) (cond d (Some TooLarge) (cond f (Some EndsInside) (cond g (Some TooLong) None)))))) ≡ Next item place
        → (p.byte + item_size item ≤ place.byte) × (place.byte ≤ limit)
    go true b c d f g long small e = absurd (cc e)
    go false true c d f g long small e = absurd (cc e)
    go false false true d f g long small e = absurd (cc e)
    go false false false true f g long small e = absurd (cc e)
    go false false false false true g long small e = absurd (cc e)
    go false false false false false true long small e = absurd (cc e)
    go false false false false false false long small e =
        let same : item_of p.rest ≡ item = cc e in
        let there : p.byte + size_of p.rest ≡ place.byte = cc e in
        let eight = ltb-false (size_of p.rest) 8 long in
        let low = ltb-false limit (p.byte + size_of p.rest) small in
        let w = what_less (packet_size_of p.rest) (drop 8 (take (size_of p.rest) p.rest)) in
        let d = length-drop 8 (take (size_of p.rest) p.rest) in
        let t = length-take (size_of p.rest) p.rest in
        let own : item_size (item_of p.rest) ≡ item_size item = ap item_size same in
        (omega (arith, there, eight, w, d, t, own), omega (arith, there, low))

items_fit : (fuel limit : ℕ) (p : Place) → items_size (records_within fuel limit p).items ≤ limit - p.byte
unfolding records_within
items_fit zero limit p = omega arith
items_fit (suc fuel) limit p = go (dump_step limit p) refl (items_fit fuel limit)
  where
    go : (s : Step) → dump_step limit p ≡ s → ((q : Place) → items_size (records_within fuel limit q).items ≤ limit - q.byte) → items_size (records_by (records_within fuel limit) s).items ≤ limit - p.byte
    go End is rest = omega arith
    go (Broken fault) is rest = omega arith
    go (Next item place) is rest =
        let f = next_fits limit p item place is in
        let a = f.0 in
        let b = f.1 in
        let r = rest place in
        omega (arith, a, b, r)

-- the line and the head take 16 octets at least
head_fits : (octets rest : List ℕ) (byte : ℕ) (place : Place) → past_head byte rest ≡ Ok place → 16 ≤ place.byte
head_fits octets rest byte place e = go (nat_lt (length rest) 16) e
  where
    go : (b : Bool) → cond {A = Result Place Fault} b (Err (record { byte = byte; kind = EndsInside })) (Ok (record { byte = byte + 16; rest = drop 16 rest })) ≡ Ok place → 16 ≤ place.byte
    go true e = absurd (cc e)
    go false e = let same : byte + 16 ≡ place.byte = cc e in omega (arith, same)

opening_fits : (octets : List ℕ) (place : Place) → opening octets ≡ Ok place → 16 ≤ place.byte
unfolding opening
opening_fits octets place e = go (if starts_with nat_eq octets (codes "#!rtpplay1.0 ") then past_line 128 octets else None) e
  where
    go : (o : Option (List ℕ)) → after_line octets o ≡ Ok place → 16 ≤ place.byte
    go None e = absurd (cc e)
    go (Some rest) e = head_fits octets rest (length octets - length rest) place e

-- what the records of a recording take
dump_fits : (limit : ℕ) (octets : List ℕ) → items_size (dump limit octets).items ≤ limit - 16
unfolding dump records
dump_fits limit octets = go (opening octets) refl
  where
    go : (r : Result Place Fault) → opening octets ≡ r → items_size (dump_from limit r).items ≤ limit - 16
    go (Err fault) is = omega arith
    go (Ok place) is = let a = items_fit (length place.rest) limit place in let b = opening_fits octets place is in omega (arith, a, b)

-- ---- the split
pub split_fits : (t : Trunk) (octets : List ℕ) (s : ℕ) → 22 ≤ t.limit → length (split_of t octets s) ≤ 2 * t.limit
unfolding split
split_fits t octets s some =
    let past = came_of t octets in
    let bs = filter (is_packet_of s) (used t.wait (numbered (still past))) in
    let cs = chunks_of t.wait past s in
    let size = recorded_size t.payload_types s 0 0 (groups cs) in
    let cost_is = groups_cost (ready_of t.wait (numbered (still past))) 0 (has_number (used t.wait (numbered (still past)))) (first_number 0 (numbered (still past))) bs in
    let a = used_came t.wait s past in
    let b = came_less t.ssrc t.payload_types [] (dump t.limit octets).items in
    let c = dump_fits t.limit octets in
    go bs (cost (groups cs)) (length (split_of t octets s)) size cost_is (omega (arith, a, b, c))
  where
    go : (bs : List Numbered) (n l : ℕ) → l ≡ 44 + n → n + 16 * one_if_any bs ≤ 2 * taken bs → taken bs ≤ t.limit - 16 → l ≤ 2 * t.limit
    go [] n l is few low = omega (arith, is, few, low, some)
    go (x ∷ bs) n l is few low = omega (arith, is, few, low, some)
