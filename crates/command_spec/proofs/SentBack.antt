-- The packets to a terminal are read back from its recording.
use Rattle.std.proofs.Common.{◌≡◌, ℕ, zero, suc, ◌*◌, ◌<◌, ◌≤◌, ◌^◌, Bool, true, false, Some, Ok, Result, inl, inr, List, [], ◌∷◌, ◌++◌, length, refl, ap, subst, ◌∙◌, arith}
use Rattle.std.specs.Prelude.{map, ◌==◌, All}
use Rattle.std.specs.Option.{ForSome}
use Rattle.std.specs.List.{AllByRecursion}
use Rattle.std.proofs.Math.Nat.{mul-le-mul_left}
use Rattle.std.proofs.lemmas.List.Elements.{All-head, All-tail}
use Rattle.std.proofs.lemmas.Bool.Decides.{nat_tests}
use Rattle.rtt_base.specs.declared.text_packets.PayloadTypes.{PayloadTypes}
use Rattle.wire_spec.specs.declared.faults.TextFault.{TextFault}
use Rattle.wire_spec.specs.Packets.{Packet, Arrival}
use Rattle.wire_spec.specs.Text.{text_of}
use Rattle.wire_spec.specs.SentPackets.{packet_written}
use Rattle.wire_spec.specs.Dump.{FitsRecord, dump_written}
use Rattle.wire_spec.proofs.SentBack.{sent_back}
use Rattle.wire_spec.proofs.Recordings.{read_back}
use Rattle.file_spec.specs.declared.conference_lines.LegLine.{LegLine}
use Rattle.file_spec.specs.Conference.{Conference}
use Rattle.file_spec.specs.Kept.{IsConference, IsLeg, AreTwoTypes}
use Rattle.stream_spec.specs.Lists.{In}
use Rattle.stream_spec.specs.History.{Lawful, placed}
use Rattle.stream_spec.specs.Own.{Sendable, own_packet, packet_after, Own, Closed}
use Rattle.mixer_spec.specs.Setups.{Setup, setup, stream, leg_at, ssrc_of}
use Rattle.mixer_spec.specs.Table.{TurnEntry, Table, packets, sents}
use Rattle.mixer_spec.specs.Bridged.{IsConferenceMixed, IsMixed, leg_chunks, packets_to}
use Rattle.mixer_spec.proofs.Paced.{Timed, can_send}
use Rattle.mixer_spec.proofs.Conferences.{setup_law}
use Rattle.mixer_spec.proofs.Final.{AtEnd, at_end}
use Rattle.mixer_spec.proofs.OfFiles.{mixed_law}
use Rattle.command_spec.specs.Mixing.{sent_to}
use Rattle.command_spec.specs.Bridges.{Bridge, setup_of, told_to, records_of, IsOut}
use Rattle.stream_spec.proofs.Fitting.{packet_fits, few_octets}
use Rattle.command_spec.proofs.Ssrcs.{HasSsrcs}
use Rattle.rtt_base.specs.declared.limits.TheConstants.{MOST_PACKET_OCTETS}
use Rattle.wire_spec.specs.declared.limits.TheConstants.{LAST_RECORD_MOMENT}

-- ---- legs by their numbers
pub below_legs : (legs : List LegLine) (j : ℕ) (leg : LegLine) → leg_at legs j ≡ Some leg → j < length legs
below_legs [] j leg e = absurd (cc e)
below_legs (l ∷ legs) zero leg e = omega arith
below_legs (l ∷ legs) (suc j) leg e = let r = below_legs legs j leg e in omega (arith, r)

all_at : (P : LegLine → Type 0) (legs : List LegLine) (j : ℕ) (leg : LegLine) → All P legs → leg_at legs j ≡ Some leg → P leg
all_at P [] j leg a e = absurd (cc e)
all_at P (l ∷ legs) zero leg a e = let same : l ≡ leg = cc e in subst P same (All-head P l legs a)
all_at P (l ∷ legs) (suc j) leg a e = all_at P legs j leg (All-tail P l legs a) e

ssrc_fits : (legs : List LegLine) (k : ℕ) → All (λ l. l.ssrc < 2 ^ 32) legs → ssrc_of (leg_at legs k) < 2 ^ 32
ssrc_fits [] k a = omega arith
ssrc_fits (l ∷ legs) zero a = All-head (λ l. l.ssrc < 2 ^ 32) l legs a
ssrc_fits (l ∷ legs) (suc k) a = ssrc_fits legs k (All-tail (λ l. l.ssrc < 2 ^ 32) l legs a)

-- ---- one packet
pub record IsBack (ssrc : ℕ) (payload_types : PayloadTypes) (a : Arrival) : Type 0 where
  pub text_is : text_of (packet_written payload_types a.packet) (Some ssrc) payload_types ≡ Ok a.packet
  pub some : 0 < length (packet_written payload_types a.packet)
  pub few : length (packet_written payload_types a.packet) ≤ MOST_PACKET_OCTETS

packet_back : (s : Setup) (j : ℕ) (payload_types : PayloadTypes) (past : List TurnEntry) (e : TurnEntry) → s.generations j ≤ 3 → s.mixer < 2 ^ 32 → AreTwoTypes payload_types → e.sent.source < 2 ^ 32 → Sendable (stream s j) (sents (e ∷ past))
    → IsBack s.mixer payload_types (record { time = e.at; packet = packet_after (stream s j) (sents past) e.sent })
packet_back s j payload_types past e g m t b k =
    let p : Packet = packet_after (stream s j) (sents past) e.sent in
    let high = t.t140.high in
    let up = t.red.high in
    let fits = packet_fits payload_types (stream s j) (sents past) e.sent (omega (arith, high)) (omega (arith, up)) t.differ g m b k in
    let few = few_octets payload_types (stream s j) (sents past) e.sent g k in
    let asked : (p.ssrc == s.mixer) ≡ true = grind (arith, nat_tests) in
    record { text_is = sent_back payload_types p (Some s.mixer) fits asked few; some = omega arith; few = few }

pub all_push : {X : Type 0} (P : X → Type 0) (xs : List X) (x : X) → AllByRecursion P xs → P x → AllByRecursion P (xs ++ x ∷ [])
all_push P [] x a p = (p, tt)
all_push P (y ∷ xs) x a p = (a.0, all_push P xs x a.1 p)

backs : (s : Setup) (j : ℕ) (payload_types : PayloadTypes) (past : List TurnEntry) → s.generations j ≤ 3 → s.mixer < 2 ^ 32 → AreTwoTypes payload_types → ((e : TurnEntry) → In e past → e.sent.source < 2 ^ 32) → Sendable (stream s j) (sents past)
    → AllByRecursion (IsBack s.mixer payload_types) (packets (stream s j) past)
backs s j payload_types [] g m t b k = tt
backs s j payload_types (e ∷ past) g m t b k =
    all_push (IsBack s.mixer payload_types) (packets (stream s j) past) (record { time = e.at; packet = packet_after (stream s j) (sents past) e.sent })
    (backs s j payload_types past g m t (λ x i. b x (inr i)) k.1) (packet_back s j payload_types past e g m t (b e (inl refl)) k)

-- ---- all packets to a terminal
sources : (c : Conference) → HasSsrcs c → (j k : ℕ) (table : Table) → Timed (setup c) table.seats j k table.media (table.terminals j).past → (e : TurnEntry) → In e (table.terminals j).past → e.sent.source < 2 ^ 32
sources c h j k table t e i = go ((setup c).aware j) refl
  where
    go : (b : Bool) → (setup c).aware j ≡ b → e.sent.source < 2 ^ 32
    go true a = let q = ((t.aware a).own e i).source in let l = ssrc_fits c.legs e.leg h.legs in omega (arith, q, l)
    go false a = let q = (t.unaware a).own e i in let l = h.mixer in omega (arith, q, l)

pub timed_back : (c : Conference) (table : Table) (k : ℕ) → IsConference c → HasSsrcs c → (setup c).step * k < 2 ^ 31 → (j : ℕ) (leg : LegLine) → leg_at c.legs j ≡ Some leg
    → Timed (setup c) table.seats j k table.media (table.terminals j).past → AllByRecursion (IsBack c.mixer.ssrc leg.payload_types) (sent_to c table j)
timed_back c table k is h span j leg e t =
    let past = (table.terminals j).past in
    backs (setup c) j leg.payload_types past ((setup_law c is).generations j) h.mixer (all_at IsLeg c.legs j leg is.legs.each e).types (sources c h j k table t) (can_send (setup c) (setup_law c is) j k table.media past span t.paced)

pub all_back : (c : Conference) (inputs : ℕ → List ℕ) (table : Table) → IsConference c → HasSsrcs c → IsConferenceMixed c inputs table → (j : ℕ) (leg : LegLine) → leg_at c.legs j ≡ Some leg
    → AllByRecursion (IsBack c.mixer.ssrc leg.payload_types) (sent_to c table j)
all_back c inputs table is h over j leg e =
    let m : IsMixed (setup c) (leg_chunks c inputs) c.tick c.turns table = mixed_law c inputs table is over in
    let a : AtEnd (setup c) c.turns j table = at_end (setup c) (leg_chunks c inputs) c.tick c.turns j table m.setup m.texts (below_legs c.legs j leg e) over in
    let up : (setup c).step * a.made ≤ (setup c).step * c.turns = mul-le-mul_left (setup c).step a.few in
    timed_back c table a.made is h (omega (arith, up, m.span)) j leg e a.timed

-- ---- the recording
abbrev record_of : PayloadTypes → Arrival → ℕ × List ℕ
record_of payload_types a = (a.time, packet_written payload_types a.packet)

texts_back : (ssrc : ℕ) (payload_types : PayloadTypes) (sent : List Arrival) → AllByRecursion (IsBack ssrc payload_types) sent
    → map (λ r. text_of r.1 (Some ssrc) payload_types) (map (record_of payload_types) sent) ≡ map (λ (p : Packet). let q : Result Packet TextFault = Ok p in q) (map (λ (a : Arrival). a.packet) sent)
texts_back ssrc payload_types [] b = refl
texts_back ssrc payload_types (a ∷ sent) b = λ i. b.0.text_is i ∷ texts_back ssrc payload_types sent b.1 i

pub map_twice : {X Y Z : Type 0} (f : Y → Z) (g : X → Y) (xs : List X) → map f (map g xs) ≡ map (λ x. f (g x)) xs
map_twice f g [] = refl
map_twice f g (x ∷ xs) = ap (λ zs. f (g x) ∷ zs) (map_twice f g xs)

fit : (ssrc : ℕ) (payload_types : PayloadTypes) (sent : List Arrival) → AllByRecursion (IsBack ssrc payload_types) sent → All (λ r. r.0 ≤ LAST_RECORD_MOMENT) (map (record_of payload_types) sent) → AllByRecursion FitsRecord (map (record_of payload_types) sent)
fit ssrc payload_types [] b a = tt
fit ssrc payload_types (x ∷ sent) b a = (
  record { time = All-head (λ r. r.0 ≤ LAST_RECORD_MOMENT) (record_of payload_types x) (map (record_of payload_types) sent) a; some = b.0.some; few = b.0.few },
  fit ssrc payload_types sent b.1 (All-tail (λ r. r.0 ≤ LAST_RECORD_MOMENT) (record_of payload_types x) (map (record_of payload_types) sent) a),
)

pub out_is : (b : Bridge) (j : ℕ) (leg : LegLine) → AllByRecursion (IsBack b.conference.mixer.ssrc leg.payload_types) (sent_to b.conference b.table j)
    → ForSome b.conference.mtu (λ most. All (λ r. length r.1 ≤ most) (records_of b j leg))
    → Lawful (told_to b j) → Own leg.generations (told_to b j) → Closed leg.generations (told_to b j)
    → packets_to (setup_of b) j (b.table.terminals j).past ≡ map (own_packet (told_to b j)) (placed (told_to b j)) → IsOut b j leg (dump_written (records_of b j leg))
out_is b j leg k fit_all lawful own closed p = record {
  lawful = lawful;
  own = own;
  closed = closed;
  is = refl;
  packets = texts_back b.conference.mixer.ssrc leg.payload_types (sent_to b.conference b.table j) k
      ∙ (ap (map (λ (p : Packet). let q : Result Packet TextFault = Ok p in q)) p ∙ map_twice (λ (p : Packet). let q : Result Packet TextFault = Ok p in q) (own_packet (told_to b j)) (placed (told_to b j)));
  fit = fit_all;
  read_back = λ limit early small. read_back limit (records_of b j leg) (fit b.conference.mixer.ssrc leg.payload_types (sent_to b.conference b.table j) k early) small;
}
