-- Groups carry the texts of chunks, and their packets are read back.
use Rattle.std.proofs.Common.{◌≡◌, ℕ, ◌+◌, ◌<◌, ◌≤◌, ◌^◌, ◌%◌, Bool, true, false, cond, Some, None, Ok, List, [], ◌∷◌, ◌++◌, refl, ap, sym, ◌∙◌, subst, arith, length, length-append, map, append-nil, append_assoc}
use Rattle.std.specs.Prelude.{◌==◌, max}
use Rattle.std.specs.List.{AllByRecursion, concat}
use Rattle.std.proofs.lemmas.Bool.{and_parts, eq-eqb, leb-true}
use Rattle.std.proofs.lemmas.List.Folds.{concat-append}
use Rattle.std.proofs.lemmas.Str.{IsUtf8-append}
use Rattle.rtt_base.specs.declared.text_packets.PayloadTypes.{PayloadTypes}
use Rattle.wire_spec.specs.Packets.{Arrival, has_text}
use Rattle.wire_spec.specs.Text.{text_of}
use Rattle.wire_spec.specs.SentPackets.{packet_written}
use Rattle.wire_spec.specs.Dump.{FitsRecord, arrivals_within, arrived, dump, dump_written, latest, sent_item}
use Rattle.wire_spec.proofs.Longer.{text_longer}
use Rattle.wire_spec.proofs.SentBack.{sent_back}
use Rattle.wire_spec.proofs.Recordings.{read_back}
use Rattle.stream_spec.specs.Carries.{Groups}
use Rattle.stream_spec.specs.Ready.{Chunk}
use Rattle.command_spec.specs.Splitting.{Group, alone, groups, groups_from, joined, joins, moment_of, packet_of, packets_from, record_of, timestamp_of}
use Rattle.command_spec.specs.Laws.{AreSendable, IsSendable, IsStream}
use Rattle.rtt_base.specs.declared.limits.TheConstants.{MOST_TEXT_OCTETS}

-- ---- groups
abbrev texts_in : List Group → List (List ℕ)
texts_in gs = map (λ g. g.text) gs

abbrev texts_at : List Chunk → List (List ℕ)
texts_at cs = map (λ c. c.text) cs

some_text : (xs ys : List ℕ) → has_text xs ≡ true → has_text (xs ++ ys) ≡ true
some_text [] ys h = cc h
some_text (x ∷ xs) ys h = refl

joined_fits : (g : Group) (c : Chunk) → joins g c ≡ true → IsSendable g.text → IsSendable c.text → IsSendable (g.text ++ c.text)
joined_fits g c j p q = record {
  some = some_text g.text c.text p.some;
  utf8 = IsUtf8-append g.text c.text p.utf8 q.utf8;
  few = let short = leb-true (length g.text + length c.text) MOST_TEXT_OCTETS (and_parts (g.ready == c.ready) _ j).1 in omega (arith, short, length-append g.text c.text);
}

from_carry : (g : Group) (done : List (List ℕ)) (cs : List Chunk) → g.text ≡ concat done → IsSendable g.text → AreSendable cs → Groups (texts_in (groups_from g cs)) (done ++ texts_at cs) []
from_carry g done [] e p q = (done, [], refl, e, p.few, refl)
from_carry g done (c ∷ cs) e p q =
    go (joins g c) refl
    (λ more fits. from_carry (joined g c) (done ++ c.text ∷ []) cs more fits q.1)
    (from_carry (alone c) (c.text ∷ []) cs (sym (append-nil c.text)) q.0 q.1)
  where
    go : (b : Bool) → joins g c ≡ b
        → (g.text ++ c.text ≡ concat (done ++ c.text ∷ []) → IsSendable (g.text ++ c.text) → Groups (texts_in (groups_from (joined g c) cs)) ((done ++ c.text ∷ []) ++ texts_at cs) [])
        → Groups (texts_in (groups_from (alone c) cs)) (c.text ∷ texts_at cs) []
        → Groups (texts_in (cond b (groups_from (joined g c) cs) (g ∷ groups_from (alone c) cs))) (done ++ c.text ∷ texts_at cs) []
    go true j f h =
        let more : g.text ++ c.text ≡ concat (done ++ c.text ∷ []) = ap (λ t. t ++ c.text) e ∙ (ap (λ t. concat done ++ t) (sym (append-nil c.text)) ∙ sym (concat-append done (c.text ∷ []))) in
        subst (λ ts. Groups (texts_in (groups_from (joined g c) cs)) ts []) (append_assoc done (c.text ∷ []) (texts_at cs)) (f more (joined_fits g c j p q.0))
    go false j f h = (done, c.text ∷ texts_at cs, refl, e, p.few, h)

pub groups_carry : (cs : List Chunk) → AreSendable cs → Groups (texts_in (groups cs)) (texts_at cs) []
groups_carry [] q = refl
groups_carry (c ∷ cs) q = from_carry (alone c) (c.text ∷ []) cs (sym (append-nil c.text)) q.0 q.1

abbrev pub AllSendable : List Group → Type 0
AllSendable gs = AllByRecursion (λ g. IsSendable g.text) gs

from_sendable : (g : Group) (cs : List Chunk) → IsSendable g.text → AreSendable cs → AllSendable (groups_from g cs)
from_sendable g [] p q = (p, tt)
from_sendable g (c ∷ cs) p q =
    go (joins g c) refl (λ fits. from_sendable (joined g c) cs fits q.1) (from_sendable (alone c) cs q.0 q.1)
  where
    go : (b : Bool) → joins g c ≡ b → (IsSendable (g.text ++ c.text) → AllSendable (groups_from (joined g c) cs)) → AllSendable (groups_from (alone c) cs)
        → AllSendable (cond b (groups_from (joined g c) cs) (g ∷ groups_from (alone c) cs))
    go true j f h = f (joined_fits g c j p q.0)
    go false j f h = (p, h)

pub groups_sendable : (cs : List Chunk) → AreSendable cs → AllSendable (groups cs)
groups_sendable [] q = tt
groups_sendable (c ∷ cs) q = from_sendable (alone c) cs q.0 q.1

-- ---- packets
pub plain_size : (payload_types : PayloadTypes) (s seq timestamp : ℕ) (text : List ℕ) → length (packet_written payload_types (packet_of s seq timestamp text)) ≡ 12 + length text
plain_size payload_types s seq timestamp text = rw (eq-eqb s s refl) (omega arith)

pub record IsBack (payload_types : PayloadTypes) (s : ℕ) (a : Arrival) : Type 0 where
  pub text_is : text_of (packet_written payload_types a.packet) (Some s) payload_types ≡ Ok a.packet
  pub record_fits : FitsRecord (record_of payload_types a)

one_back : (payload_types : PayloadTypes) (s seq timestamp : ℕ) (g : Group) → IsStream payload_types s → seq < 2 ^ 16 → timestamp < 2 ^ 32 → IsSendable g.text → IsBack payload_types s (record { time = moment_of g; packet = packet_of s seq timestamp g.text })
one_back payload_types s seq timestamp g is n m p =
    let size = plain_size payload_types s seq timestamp g.text in
    record {
      text_is = sent_back payload_types (packet_of s seq timestamp g.text) (Some s)
          (record { seq = n; timestamp = m; ssrc = is.ssrc; source = is.ssrc; few = omega arith; older = tt; primary = (omega (arith, p.few), p.utf8); t140 = is.t140; red = is.red; differ = is.differ })
          (eq-eqb s s refl) (omega (arith, size, p.few));
      record_fits = record { time = omega arith; some = omega (arith, size); few = omega (arith, size, p.few) };
    }

pub all_back : (payload_types : PayloadTypes) (s seq least : ℕ) (gs : List Group) → IsStream payload_types s → seq < 2 ^ 16 → least < 2 ^ 32 → AllSendable gs → AllByRecursion (IsBack payload_types s) (packets_from s seq least gs)
all_back payload_types s seq least [] is n m q = tt
all_back payload_types s seq least (g ∷ gs) is n m q = (
  one_back payload_types s seq (timestamp_of least g) g is n (omega (arith, m)) q.0,
  all_back payload_types s ((seq + 1) % 2 ^ 16) ((timestamp_of least g + 1) % 2 ^ 32) gs is (omega arith) (omega arith) q.1,
)

-- ---- the recording is read back
abbrev pub rows : PayloadTypes → List Arrival → List (ℕ × List ℕ)
rows payload_types ps = map (record_of payload_types) ps

all_fit : (payload_types : PayloadTypes) (s : ℕ) (ps : List Arrival) → AllByRecursion (IsBack payload_types s) ps → AllByRecursion FitsRecord (rows payload_types ps)
all_fit payload_types s [] b = tt
all_fit payload_types s (a ∷ ps) b = (b.0.record_fits, all_fit payload_types s ps b.1)

pub reads : (payload_types : PayloadTypes) (s limit : ℕ) (ps : List Arrival) → AllByRecursion (IsBack payload_types s) ps → length (dump_written (rows payload_types ps)) ≤ limit
    → dump limit (dump_written (rows payload_types ps)) ≡ record { items = map sent_item (rows payload_types ps); fault = None }
reads payload_types s limit ps b n = read_back limit (rows payload_types ps) (all_fit payload_types s ps b) n

-- what comes of these packets, after others, newest first
abbrev pub came_after : List Arrival → List Arrival → List Arrival
came_after past [] = past
came_after past (a ∷ ps) = came_after (record { time = max a.time (latest past); packet = a.packet } ∷ past) ps

pub arrives : (most : ℕ) → MOST_TEXT_OCTETS ≤ most → (payload_types : PayloadTypes) (s : ℕ) (past ps : List Arrival) → AllByRecursion (IsBack payload_types s) ps → arrivals_within most s payload_types past (map sent_item (rows payload_types ps)) ≡ came_after past ps
arrives most l payload_types s past [] b = refl
arrives most l payload_types s past (a ∷ ps) b =
    ap (λ r. arrivals_within most s payload_types (arrived a.time r past) (map sent_item (rows payload_types ps)))
    (text_longer MOST_TEXT_OCTETS most (packet_written payload_types a.packet) (Some s) payload_types a.packet l b.0.text_is)
    ∙ arrives most l payload_types s (record { time = max a.time (latest past); packet = a.packet } ∷ past) ps b.1
