-- What is sent to a terminal can be recorded: few packets, short ones, at early moments.
use Rattle.std.proofs.Common.{◌≡◌, ℕ, suc, ◌*◌, ◌^◌, ◌<◌, ◌≤◌, Bool, true, false, cond, inl, inr, Option, Some, None, List, [], ◌∷◌, ◌++◌, length, length-append, map, refl, ap, subst, sym, arith}
use Rattle.std.specs.List.{AllByRecursion}
use Rattle.std.proofs.lemmas.List.{length-map}
use Rattle.rtt_base.specs.declared.text_packets.PayloadTypes.{PayloadTypes}
use Rattle.wire_spec.specs.Packets.{Arrival}
use Rattle.wire_spec.specs.SentPackets.{packet_written}
use Rattle.stream_spec.specs.Lists.{In}
use Rattle.stream_spec.specs.Own.{Stream, Sendable, packet_after}
use Rattle.stream_spec.proofs.Fitting.{few_octets}
use Rattle.mixer_spec.specs.Setups.{Setup, IsSetup, stream}
use Rattle.mixer_spec.specs.Table.{Call, Admit, Hush, Leave, Offer, Turn, TurnEntry, Table, is_given, has_room, give, given, free_place, come_to, sents, packets, after_calls}
use Rattle.mixer_spec.specs.Calls.{turns_made}
use Rattle.mixer_spec.proofs.Seats.{leave_with}
use Rattle.mixer_spec.proofs.OnePacket.{one_law}
use Rattle.mixer_spec.proofs.Paced.{can_send}
use Rattle.mixer.specs.Allowed.{AreAllowed}
use Rattle.mixer.specs.Early.{AreEarly}
use Rattle.mixer.specs.States.{State}
use Rattle.mixer.specs.Standing.{MixerStandsFor}
use Rattle.mixer.proofs.Sending.{good}
use Rattle.rtt_base.specs.declared.limits.TheConstants.{MOST_PACKET_OCTETS}

-- ---- how many, and when
-- at most k, each at an early moment
record IsFewOf (k : ℕ) (past : List TurnEntry) : Type 0 where
  few : length past ≤ k
  early : (e : TurnEntry) → In e past → e.at < 2 ^ 32

sent_few : (s : Setup) (calls : List Call) (j : ℕ) → AreEarly calls → IsFewOf (turns_made calls) ((after_calls s calls).terminals j).past
sent_few s [] j a = record { few = omega arith; early = λ e i. absurd i }
sent_few s (Admit i l ∷ past) j a = go (free_place s (after_calls s past).seats) (sent_few s past j a)
  where
    go : (o : Option ℕ) → IsFewOf (turns_made past) ((after_calls s past).terminals j).past → IsFewOf (turns_made past) ((come_to i l (after_calls s past) o).terminals j).past
    go None h = h
    go (Some p) h = h
sent_few s (Hush i ∷ past) j a = sent_few s past j a
sent_few s (Leave i ∷ past) j a =
    let h = sent_few s past j a in leave_with s i (after_calls s past) (λ (t : Table). IsFewOf (turns_made past) (t.terminals j).past) h (λ m. h)
sent_few s (Offer c ∷ past) j a = go (has_room s c.source c (after_calls s past)) (sent_few s past j a)
  where
    to : (b : Bool) → IsFewOf (turns_made past) ((after_calls s past).terminals j).past → IsFewOf (turns_made past) (cond b (give c.source c ((after_calls s past).terminals j)) ((after_calls s past).terminals j)).past
    to true h = h
    to false h = h

    go : (b : Bool) → IsFewOf (turns_made past) ((after_calls s past).terminals j).past → IsFewOf (turns_made past) ((cond {A = Table} b (given c.source c (after_calls s past)) (after_calls s past)).terminals j).past
    go false h = h
    go true h = to (is_given (after_calls s past).seats c.source j) h
sent_few s (Turn now ∷ past) j a = elim (one_law s now j (after_calls s past)) [
  | inl e ↦ let h = sent_few s past j a.1 in subst (IsFewOf (suc (turns_made past))) (sym e) (record { few = omega (arith, h.few); early = h.early })
  | inr x ↦ let h = sent_few s past j a.1 in subst (IsFewOf (suc (turns_made past))) (sym x.1) (record {
    few = omega (arith, h.few);
    early = λ e i. elim i [ inl q ↦ let m = ap (λ (y : TurnEntry). y.at) q in omega (arith, m, x.2.at, a.0) | inr k ↦ h.early e k ];
  })
]

-- ---- as records
abbrev pub record_of : PayloadTypes → Arrival → ℕ × List ℕ
record_of payload_types a = (a.time, packet_written payload_types a.packet)

-- the record's moment and its packet's octets
abbrev pub IsShortRecord : ℕ × List ℕ → Type 0
IsShortRecord r = (r.0 < 2 ^ 32) × (length r.1 ≤ MOST_PACKET_OCTETS)

push_record : (payload_types : PayloadTypes) (xs : List Arrival) (x : Arrival) → AllByRecursion IsShortRecord (map (record_of payload_types) xs) → IsShortRecord (record_of payload_types x) → AllByRecursion IsShortRecord (map (record_of payload_types) (xs ++ x ∷ []))
push_record payload_types [] x a p = (p, tt)
push_record payload_types (y ∷ xs) x a p = (a.0, push_record payload_types xs x a.1 p)

short_records : (payload_types : PayloadTypes) (c : Stream) (past : List TurnEntry) → c.generations ≤ 3 → Sendable c (sents past) → ((e : TurnEntry) → In e past → e.at < 2 ^ 32) → AllByRecursion IsShortRecord (map (record_of payload_types) (packets c past))
short_records payload_types c [] g d f = tt
short_records payload_types c (e ∷ past) g d f =
    push_record payload_types (packets c past) (record { time = e.at; packet = packet_after c (sents past) e.sent }) (short_records payload_types c past g d.1 (λ x i. f x (inr i))) (f e (inl refl), few_octets payload_types c (sents past) e.sent g d)

count_packets : (c : Stream) (past : List TurnEntry) → length (packets c past) ≡ length past
count_packets c [] = refl
count_packets c (e ∷ past) = omega (arith, count_packets c past, length-append (packets c past) (record { time = e.at; packet = packet_after c (sents past) e.sent } ∷ []))

pub record AreRecords (k : ℕ) (records : List (ℕ × List ℕ)) : Type 0 where
  pub each : AllByRecursion IsShortRecord records
  pub few : length records ≤ k

pub records_fit : (s : Setup) (payload_types : PayloadTypes) (calls : List Call) (j : ℕ) → IsSetup s → AreAllowed s calls → s.step * turns_made calls < 2 ^ 31 → AreEarly calls → j < s.legs
    → AreRecords (turns_made calls) (map (record_of payload_types) (packets (stream s j) ((after_calls s calls).terminals j).past))
records_fit s payload_types calls j is a b early l =
    let w = after_calls s calls in
    let h = sent_few s calls j early in
    record {
      each = short_records payload_types (stream s j) (w.terminals j).past (is.generations j) (can_send s is j (turns_made calls) w.media (w.terminals j).past b ((good s is calls a).timed j l).paced) h.early;
      few = omega (arith, h.few, length-map (packets (stream s j) (w.terminals j).past) (record_of payload_types), count_packets (stream s j) (w.terminals j).past);
    }

-- of a mixer that made at most five million turns
pub mixer_records : (s : Setup) (payload_types : ℕ → PayloadTypes) (m : State) (calls : List Call) (j : ℕ) → MixerStandsFor s m calls → m.turns ≤ 5000000 → AreEarly calls → j < s.legs
    → AreRecords 5000000 (map (record_of (payload_types j)) (packets (stream s j) ((after_calls s calls).terminals j).past))
mixer_records s payload_types m calls j h t early l =
    let span : s.step * turns_made calls < 2 ^ 31 = let e : s.step * turns_made calls ≡ 200 * turns_made calls = ap (λ k. k * turns_made calls) h.step in omega (arith, e, h.turns, t) in
    let r = records_fit s (payload_types j) calls j h.setup h.allowed span early l in
    record { each = r.each; few = omega (arith, r.few, h.turns, t) }
