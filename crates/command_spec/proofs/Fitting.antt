-- Where packets have a limit, no packet to a terminal has more octets.
use Rattle.std.proofs.Common.{◌≡◌, ℕ, zero, suc, ◌+◌, ◌*◌, ◌<◌, ◌≤◌, Option, Some, None, inl, inr, List, [], ◌∷◌, ◌++◌, length, length-append, refl, ap, subst, sym, ◌∙◌, arith}
use Rattle.std.specs.Prelude.{All, map, option_to_list}
use Rattle.std.specs.Option.{ForSome}
use Rattle.std.specs.Int.{w32, to_be_bytes}
use Rattle.std.specs.List.{AllByRecursion, flat_map}
use Rattle.std.proofs.lemmas.List.Elements.{All-from_recursion, All-map}
use Rattle.rtt_base.specs.declared.blocks.TextBlock.{TextBlock}
use Rattle.rtt_base.specs.declared.text_packets.PayloadTypes.{PayloadTypes}
use Rattle.wire_spec.specs.Packets.{Arrival, Packet}
use Rattle.wire_spec.specs.Rtp.{Head, rtp_written}
use Rattle.wire_spec.specs.SentPackets.{head_of, packet_written, payload_sent}
use Rattle.wire_spec.proofs.Sizes.{spelling_size}
use Rattle.file_spec.specs.declared.conference_lines.LegLine.{LegLine}
use Rattle.file_spec.specs.Conference.{Conference}
use Rattle.file_spec.specs.Kept.{IsConference}
use Rattle.stream_spec.specs.Lists.{In}
use Rattle.stream_spec.specs.Own.{Sent, Stream, nth, packet_after, repeat_of, repeats, sent_of}
use Rattle.stream_spec.proofs.Sent.{in_sent_of}
use Rattle.mixer_spec.specs.Setups.{generations_of, leg_at, setup, stream}
use Rattle.mixer_spec.specs.Table.{Table, TurnEntry, packets, sents}
use Rattle.mixer_spec.specs.Bridged.{IsConferenceMixed, IsMixed, leg_chunks}
use Rattle.mixer_spec.specs.Rooms.{room, room_within}
use Rattle.mixer_spec.proofs.Conferences.{setup_law}
use Rattle.mixer_spec.proofs.Final.{AtEnd, at_end}
use Rattle.mixer_spec.proofs.OfFiles.{mixed_law}
use Rattle.mixer_spec.proofs.Paced.{Timed, sent_in}
use Rattle.mixer_spec.proofs.Rooms.{fits, times}
use Rattle.command_spec.specs.Mixing.{records_to, sent_to}
use Rattle.command_spec.proofs.SentBack.{all_push, below_legs}

-- ---- one packet
head_size : (h : Head) (payload : List ℕ) → length (rtp_written h payload) ≤ 16 + length payload
head_size h payload = let r = go h.csrc in omega (arith, r)
  where
    go : (o : Option ℕ) → 12 + length (flat_map (to_be_bytes w32) (option_to_list o) ++ payload) ≤ 16 + length payload
    go None = omega arith
    go (Some s) = omega arith

-- each of these texts has at most r octets
abbrev AreWithin : ℕ → List TextBlock → Type 0
AreWithin r bs = AllByRecursion (λ (b : TextBlock). length b.text ≤ r) bs

-- all their octets
abbrev text_octets : List TextBlock → List ℕ
text_octets bs = flat_map (λ (b : TextBlock). b.text) bs

texts_size : (r : ℕ) (bs : List TextBlock) → AreWithin r bs → length (text_octets bs) ≤ times r (length bs)
texts_size r [] a = omega arith
texts_size r (b ∷ bs) a = let h = texts_size r bs a.1 in omega (arith, a.0, h, length-append b.text (text_octets bs))

payload_size : (payload_types : PayloadTypes) (older : List TextBlock) (text : List ℕ) → length (payload_sent payload_types older text) ≤ 4 * length older + 1 + length (text_octets older) + length text
payload_size payload_types [] text = omega arith
payload_size payload_types (b ∷ bs) text =
    let size : length (payload_sent payload_types (b ∷ bs) text) ≡ 4 * length (b ∷ bs) + 1 + length (text_octets (b ∷ bs)) + length text = spelling_size payload_types.t140 (b ∷ bs) text in
    omega (arith, size)

packet_size : (payload_types : PayloadTypes) (p : Packet) (most g : ℕ) → g ≤ 3 → 17 + 4 * g ≤ most → length p.older ≡ g → AreWithin (room most g) p.older → length p.primary ≤ room most g
    → length (packet_written payload_types p) ≤ most
packet_size payload_types p most g few m count older primary =
    let texts : length (text_octets p.older) ≤ times (room most g) g = subst (λ (n : ℕ). length (text_octets p.older) ≤ times (room most g) n) count (texts_size (room most g) p.older older) in
    let all = fits most g (length (text_octets p.older)) (length p.primary) few m texts primary in
    omega (arith, head_size (head_of payload_types p) (payload_sent payload_types p.older p.primary), payload_size payload_types p.older p.primary, count, all)

-- ---- what it repeats
nth_is : (k : ℕ) (zs : List Sent) (z : Sent) → nth k zs ≡ Some z → In z zs
nth_is k [] z e = absurd (cc e)
nth_is zero (y ∷ zs) z e = inl (cc e)
nth_is (suc k) (y ∷ zs) z e = inr (nth_is k zs z e)

repeat_within : (r media : ℕ) (o : Option Sent) → ((z : Sent) → o ≡ Some z → length z.text ≤ r) → length (repeat_of media o).text ≤ r
repeat_within r media None f = omega arith
repeat_within r media (Some z) f = f z refl

older_within : (r g media : ℕ) (zs : List Sent) → ((z : Sent) → In z zs → length z.text ≤ r) → AreWithin r (repeats g media zs)
older_within r zero media zs f = tt
older_within r (suc g) media zs f = (repeat_within r media (nth g zs) (λ z e. f z (nth_is g zs z e)), older_within r g media zs f)

older_count : (g media : ℕ) (zs : List Sent) → length (repeats g media zs) ≡ g
older_count zero media zs = refl
older_count (suc g) media zs = let r = older_count g media zs in omega (arith, r)

-- ---- all packets to a terminal
-- the octets of a packet are no more than this
abbrev IsWithin : PayloadTypes → ℕ → Arrival → Type 0
IsWithin payload_types most a = length (packet_written payload_types a.packet) ≤ most

sent_within : (payload_types : PayloadTypes) (st : Stream) (most : ℕ) (past : List TurnEntry) → st.generations ≤ 3 → 17 + 4 * st.generations ≤ most
    → ((z : Sent) → In z (sents past) → length z.text ≤ room most st.generations)
    → AllByRecursion (IsWithin payload_types most) (packets st past)
sent_within payload_types st most [] few m f = tt
sent_within payload_types st most (e ∷ past) few m f =
    all_push (IsWithin payload_types most) (packets st past) (record { time = e.at; packet = packet_after st (sents past) e.sent })
    (sent_within payload_types st most past few m (λ z i. f z (inr i)))
    (packet_size payload_types (packet_after st (sents past) e.sent) most st.generations few m (older_count st.generations e.sent.media (sent_of e.sent.source (sents past)))
    (older_within (room most st.generations) st.generations e.sent.media (sent_of e.sent.source (sents past)) (λ z i. f z (inr (in_sent_of e.sent.source (sents past) z i).0)))
    (f e.sent (inl refl)))

pub timed_within : (c : Conference) (table : Table) (k : ℕ) → IsConference c → (j : ℕ) (leg : LegLine) → leg_at c.legs j ≡ Some leg → Timed (setup c) table.seats j k table.media (table.terminals j).past
    → (most : ℕ) → c.mtu ≡ Some most → AllByRecursion (IsWithin leg.payload_types most) (sent_to c table j)
timed_within c table k is j leg at t most limit =
    let g : ℕ = generations_of (leg_at c.legs j) in
    let few : g ≤ 3 = (setup_law c is).generations j in
    let low = (is.mtu most limit).low in
    let same : (setup c).room j ≡ room most g = ap (λ (o : Option ℕ). room_within o g) limit in
    sent_within leg.payload_types (stream (setup c) j) most (table.terminals j).past few (omega (arith, few, low))
    (λ z i.
    let r = sent_in (table.terminals j).past z i in
    let l = (t.paced.texts r.0 r.1).0 in
    let e : length z.text ≡ length r.0.sent.text = ap (λ (y : Sent). length y.text) r.2 in
    omega (arith, l, e, same))

pub written_within : (payload_types : PayloadTypes) (most : ℕ) (sent : List Arrival) → AllByRecursion (IsWithin payload_types most) sent → AllByRecursion (λ (octets : List ℕ). length octets ≤ most) (map (λ (a : Arrival). packet_written payload_types a.packet) sent)
written_within payload_types most [] a = tt
written_within payload_types most (x ∷ sent) a = (a.0, written_within payload_types most sent a.1)

-- of a conference that was mixed
pub fits_all : (c : Conference) (inputs : ℕ → List ℕ) (table : Table) → IsConference c → IsConferenceMixed c inputs table → (j : ℕ) (leg : LegLine) → leg_at c.legs j ≡ Some leg
    → ForSome c.mtu (λ most. All (λ r. length r.1 ≤ most) (records_to c table j leg))
fits_all c inputs table is over j leg at most limit =
    let m : IsMixed (setup c) (leg_chunks c inputs) c.tick c.turns table = mixed_law c inputs table is over in
    let a : AtEnd (setup c) c.turns j table = at_end (setup c) (leg_chunks c inputs) c.tick c.turns j table m.setup m.texts (below_legs c.legs j leg at) over in
    All-map (λ (r : ℕ × List ℕ). length r.1 ≤ most) (λ (x : Arrival). (x.time, packet_written leg.payload_types x.packet)) (sent_to c table j)
    (All-from_recursion (IsWithin leg.payload_types most) (sent_to c table j) (timed_within c table a.made is j leg at a.timed most limit))
