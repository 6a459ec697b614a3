-- What a script sends is read back.
use Rattle.std.proofs.Common.{◌≡◌, ℕ, ◌<◌, ◌≤◌, ◌^◌, true, inl, inr, Some, None, Ok, Result, List, [], ◌∷◌, ◌++◌, length, refl, ap, subst, sym, ◌∙◌, arith}
use Rattle.std.specs.Prelude.{map, ◌==◌, All}
use Rattle.std.specs.List.{AllByRecursion}
use Rattle.std.proofs.lemmas.List.Elements.{recursion_from_All}
use Rattle.std.proofs.lemmas.Bool.Decides.{nat_tests}
use Rattle.wire_spec.specs.declared.faults.TextFault.{TextFault}
use Rattle.wire_spec.specs.Packets.{Packet}
use Rattle.wire_spec.specs.Text.{text_of}
use Rattle.wire_spec.specs.Dump.{FitsRecord, dump, sent_item, usual_limit}
use Rattle.wire_spec.proofs.SentBack.{sent_back}
use Rattle.wire_spec.proofs.Recordings.{read_back}
use Rattle.file_spec.specs.Script.{ScriptLine}
use Rattle.stream_spec.specs.Lists.{In}
use Rattle.stream_spec.specs.History.{History, Placed, placed}
use Rattle.stream_spec.specs.Own.{Sent, Sendable, own_packet, packet_after, entry_after, sent_history}
use Rattle.stream_spec.specs.Typed.{Event, Turned, sents, IsScript}
use Rattle.stream_spec.proofs.Grows.{placed_grown, packet_stays}
use Rattle.stream_spec.proofs.Sent.{the_last, last_packet, in_sent_of}
use Rattle.stream_spec.proofs.Typing.{paced}
use Rattle.packetizer.specs.declared.senders.SenderSettings.{SenderSettings}
use Rattle.packetizer.specs.SenderSettings.{AreSettings, stream_of}
use Rattle.packetizer.specs.SenderStanding.{sent_by, history_sent}
use Rattle.wire_spec.specs.SentPackets.{packet_written}
use Rattle.stream_spec.proofs.Fitting.{packet_fits, few_octets}
use Rattle.command_spec.specs.Scripts.{AreLines, events_through}
use Rattle.text_conversions.specs.Scripts.{records_of, records_sent, recording_sent}
use Rattle.text_conversions.proofs.Typed.{script_through}
use Rattle.rtt_base.specs.declared.limits.TheConstants.{MOST_PACKET_OCTETS}
use Rattle.wire_spec.specs.declared.limits.TheConstants.{LAST_RECORD_MOMENT}
use Rattle.std.proofs.lemmas.List.{map-append}
use Rattle.stream_spec.proofs.Lists.{map_same}
use Rattle.command_spec.proofs.SentBack.{all_push as all_append}

-- ---- a packet
pub record IsBack (settings : SenderSettings) (p : Packet) : Type 0 where
  pub text_is : text_of (packet_written settings.payload_types p) (Some settings.ssrc) settings.payload_types ≡ Ok p
  pub some : 0 < length (packet_written settings.payload_types p)
  pub few : length (packet_written settings.payload_types p) ≤ MOST_PACKET_OCTETS

packet_back : (settings : SenderSettings) (zs : List Sent) (e : Sent) → AreSettings settings → settings.ssrc < 2 ^ 32 → e.source ≡ settings.ssrc → Sendable (stream_of settings) (e ∷ zs)
    → IsBack settings (packet_after (stream_of settings) zs e)
packet_back settings zs e k ssrc own s =
    let c = stream_of settings in
    let p : Packet = packet_after c zs e in
    let fits = packet_fits settings.payload_types c zs e k.t140 k.red k.differ k.generations ssrc (omega (arith, own, ssrc)) s in
    let few = few_octets settings.payload_types c zs e k.generations s in
    let asked : (p.ssrc == settings.ssrc) ≡ true = grind (arith, nat_tests) in
    record { text_is = sent_back settings.payload_types p (Some settings.ssrc) fits asked few; some = omega arith; few = few }

-- ---- all packets
abbrev pub Backs : SenderSettings → List Turned → Type 0
Backs settings [] = Unit {0}
Backs settings (e ∷ es) = IsBack settings (packet_after (stream_of settings) (sents es) e.sent) × Backs settings es

backs : (settings : SenderSettings) (es : List Turned) → AreSettings settings → settings.ssrc < 2 ^ 32 → ((z : Sent) → In z (sents es) → z.source ≡ settings.ssrc) → Sendable (stream_of settings) (sents es) → Backs settings es
backs settings [] k b own s = tt
backs settings (e ∷ es) k b own s = (packet_back settings (sents es) e.sent k b (own e.sent (inl refl)) s, backs settings es k b (λ z i. own z (inr i)) s.1)

pub all_back : (settings : SenderSettings) (past : List Event) → AreSettings settings → settings.ssrc < 2 ^ 32 → IsScript past → Backs settings (sent_by settings past)
all_back settings past k b s =
    let p = paced (stream_of settings) settings.interval past k.generations (let l = k.least in omega arith) s in
    backs settings (sent_by settings past) k b (λ z i. (in_sent_of settings.ssrc (sents (sent_by settings past)) z (subst (λ (zs : List Sent). In z zs) (sym p.own) i)).1) p.sendable

-- ---- the own packets of the history
-- a packet of a record, read; and the own packet of an entry, as it is read
abbrev pub read_of : SenderSettings → ℕ × List ℕ → Result Packet TextFault
read_of settings r = text_of r.1 (Some settings.ssrc) settings.payload_types

abbrev pub own_of : History → Placed → Result Packet TextFault
own_of h x = Ok (own_packet h x)

pub read_are : (settings : SenderSettings) (es : List Turned) → Backs settings es → map (read_of settings) (records_of settings es) ≡ map (own_of (sent_history (stream_of settings) (sents es))) (placed (sent_history (stream_of settings) (sents es)))
read_are settings [] b = refl
read_are settings (e ∷ es) b =
    let c = stream_of settings in
    let zs = sents es in
    let h : History = sent_history c zs in
    let more : History = sent_history c (sents (e ∷ es)) in
    map-append (read_of settings) (records_of settings es) ((e.at, packet_written settings.payload_types (packet_after c zs e.sent)) ∷ [])
    ∙ (ap (λ (ps : List (Result Packet TextFault)). ps ++ read_of settings (e.at, packet_written settings.payload_types (packet_after c zs e.sent)) ∷ [])
    (read_are settings es b.1 ∙ sym (map_same (own_of more) (own_of h) (placed h) (λ x i. ap (λ (p : Packet). let q : Result Packet TextFault = Ok p in q) (packet_stays h (entry_after c.generations zs e.sent) x i))))
    ∙ (ap (λ (p : Result Packet TextFault). map (own_of more) (placed h) ++ p ∷ []) (b.0.text_is ∙ ap (λ (p : Packet). let q : Result Packet TextFault = Ok p in q) (sym (last_packet c zs e.sent)))
    ∙ (sym (map-append (own_of more) (placed h) (the_last c zs e.sent ∷ []))
    ∙ ap (map (own_of more)) (sym (placed_grown h (entry_after c.generations zs e.sent))))))

-- ---- the recording
all_front : {X : Type 0} (P : X → Type 0) (xs : List X) (x : X) → AllByRecursion P (xs ++ x ∷ []) → AllByRecursion P xs × P x
all_front P [] x a = (tt, a.0)
all_front P (y ∷ xs) x a = let r = all_front P xs x a.1 in ((a.0, r.0), r.1)

fit : (settings : SenderSettings) (es : List Turned) → Backs settings es → AllByRecursion (λ r. r.0 ≤ LAST_RECORD_MOMENT) (records_of settings es) → AllByRecursion FitsRecord (records_of settings es)
fit settings [] b a = tt
fit settings (e ∷ es) b a =
    let r : ℕ × List ℕ = (e.at, packet_written settings.payload_types (packet_after (stream_of settings) (sents es) e.sent)) in
    let f = all_front (λ r. r.0 ≤ LAST_RECORD_MOMENT) (records_of settings es) r a in
    all_append FitsRecord (records_of settings es) r (fit settings es b.1 f.0) (record { time = f.1; some = b.0.some; few = b.0.few })

pub packets_back : (settings : SenderSettings) (lines : List ScriptLine) (t : ℕ) → AreSettings settings → settings.ssrc < 2 ^ 32 → AreLines lines → t < 2 ^ 31
    → map (read_of settings) (records_sent settings lines t) ≡ map (own_of (history_sent settings (events_through lines t))) (placed (history_sent settings (events_through lines t)))
packets_back settings lines t k b a l = read_are settings (sent_by settings (events_through lines t)) (all_back settings (events_through lines t) k b (script_through lines t a l))

pub items_back : (settings : SenderSettings) (lines : List ScriptLine) (t : ℕ) → AreSettings settings → settings.ssrc < 2 ^ 32 → AreLines lines → t < 2 ^ 31 → All (λ r. r.0 ≤ LAST_RECORD_MOMENT) (records_sent settings lines t)
    → length (recording_sent settings lines t) ≤ usual_limit → dump usual_limit (recording_sent settings lines t) ≡ record { items = map sent_item (records_sent settings lines t); fault = None }
items_back settings lines t k b a l early small =
    read_back usual_limit (records_sent settings lines t)
    (fit settings (sent_by settings (events_through lines t)) (all_back settings (events_through lines t) k b (script_through lines t a l)) (recursion_from_All (λ r. r.0 ≤ LAST_RECORD_MOMENT) (records_sent settings lines t) early)) small
