-- A packet where it lies, of which nothing but its primary text is heard.
use Rattle.std.proofs.Common.{◌≡◌, ℕ, ◌+◌, ◌-◌, ◌*◌, ◌<◌, ◌≤◌, Bool, true, false, cond, Option, Some, List, [], ◌∷◌, ◌++◌, length, get_or, set, take, drop, refl, ap, subst, sym, ◌∙◌, arith}
use Rattle.std.specs.Prelude.{◌==◌, ◌&&◌, ◌||◌, nat_lt, not, IsTrue}
use Rattle.std.specs.List.{concat}
use Rattle.std.specs.Option.{ForSome}
use Rattle.std.proofs.lemmas.Bool.{ltb-false, le-ltb, not-true}
use Rattle.std.proofs.lemmas.List.{drop-drop}
use Rattle.std.proofs.lemmas.List.Quantifiers.{position-Some}
use Rattle.rtt_base.specs.declared.text_packets.TextPacket.{TextPacket}
use Rattle.wire_spec.specs.declared.headers.RedHeader.{RedHeader}
use Rattle.wire_spec.specs.Packets.{packet_of, redundant, primary, back}
use Rattle.wire_spec.specs.Red.{header_of}
use Rattle.stream_spec.specs.Numbering.{Numbered}
use Rattle.stream_spec.specs.Hearing.{text_list, heard_by}
use Rattle.rtp_text.specs.declared.views.TextView.{TextView}
use Rattle.rtp_text.specs.Reading.{headers_of}
use Rattle.rtp_text.specs.Views.{headers_in, older_at, older_in, blocks_in, packet_in}
use Rattle.rtp_text.proofs.Steps.{headers_cut}
use Rattle.receiver.specs.declared.receivers.Receiver.{Receiver}
use Rattle.receiver.specs.declared.receivers.LastPacket.{LastPacket}
use Rattle.receiver.specs.declared.source_texts.SourceText.{SourceText}
use Rattle.receiver.specs.Stands.{Stands, used_packet}
use Rattle.receiver.specs.Steps.{missing_up_to, missing_then, is_new_since, is_marked_since, new_since, older_since, texts_since, told_since}
use Rattle.receiver.specs.Each.{AreHeard}
use Rattle.receiver.specs.Plain.{viewed_packet, gives_since, any_gives_since, IsPlain, IsPlainAt, IsKept}
use Rattle.receiver.proofs.Takes.{IsCounted, count_fits, seat, IsSeat, stands_listed, each_listed, heard_at, markers, texts_there}
use Rattle.rtp_text.proofs.Viewing.{redundant_is, primary_is}
use Rattle.stream_spec.proofs.Plain.{list_whole as concat_text}
use Rattle.rtp_text.proofs.Plain.{older_count}

-- ---- headers

-- one header more was looked at
pub next_header : (seen : Option LastPacket) (timestamp n place : ℕ) (octets : List ℕ) (h : RedHeader) (all : Bool) → place < n → h ≡ header_of (drop (4 * place) octets) → gives_since seen timestamp h ≡ false
    → any_gives_since seen timestamp (headers_of (n - place) (drop (4 * place) octets)) ≡ all → any_gives_since seen timestamp (headers_of (n - (place + 1)) (drop (4 * (place + 1)) octets)) ≡ all
next_header seen timestamp n place octets h all l is none so_far =
    let cut = headers_cut (n - place) (drop (4 * place) octets) (omega arith) in
    let left : n - place - 1 ≡ n - (place + 1) = omega arith in
    let at : 4 * place + 4 ≡ 4 * (place + 1) = omega arith in
    let gone : gives_since seen timestamp (header_of (drop (4 * place) octets)) ≡ false = ap (gives_since seen timestamp) (sym is) ∙ none in
    ap (λ (o : List ℕ). any_gives_since seen timestamp (headers_of (n - (place + 1)) o)) (sym (drop-drop 4 (4 * place) octets ∙ ap (λ (m : ℕ). drop m octets) at))
    ∙ (ap (λ (m : ℕ). any_gives_since seen timestamp (headers_of m (drop 4 (drop (4 * place) octets)))) (sym left)
    ∙ (sym (ap (λ (b : Bool). b || any_gives_since seen timestamp (headers_of (n - place - 1) (drop 4 (drop (4 * place) octets)))) gone)
    ∙ (sym (ap (any_gives_since seen timestamp) cut) ∙ so_far)))

-- a header that gives a text was found
pub header_found : (seen : Option LastPacket) (timestamp n place : ℕ) (octets : List ℕ) (h : RedHeader) (all : Bool) → place < n → h ≡ header_of (drop (4 * place) octets) → gives_since seen timestamp h ≡ true
    → any_gives_since seen timestamp (headers_of (n - place) (drop (4 * place) octets)) ≡ all → true ≡ all
header_found seen timestamp n place octets h all l is one so_far =
    let cut = headers_cut (n - place) (drop (4 * place) octets) (omega arith) in
    let here : gives_since seen timestamp (header_of (drop (4 * place) octets)) ≡ true = ap (gives_since seen timestamp) (sym is) ∙ one in
    sym (ap (λ (b : Bool). b || any_gives_since seen timestamp (headers_of (n - place - 1) (drop 4 (drop (4 * place) octets)))) here) ∙ (sym (ap (any_gives_since seen timestamp) cut) ∙ so_far)

-- a block that gives no text
none_of : (seen : Option LastPacket) (timestamp : ℕ) (h : RedHeader) (octets : List ℕ) → gives_since seen timestamp h ≡ false → new_since seen timestamp (record { offset = h.offset; text = take h.size octets }) ≡ []
none_of seen timestamp h octets e = go (is_new_since seen (back timestamp h.offset)) h.size e
  where
    go : (b : Bool) (n : ℕ) → (b && nat_lt 0 n) ≡ false → cond b (text_list (take n octets)) [] ≡ []
    go false n q = refl
    go true n q = let m = ltb-false 0 n q in let z : n ≡ 0 = omega arith in rw z refl

either_none : (a b : Bool) → (a || b) ≡ false → (a ≡ false) × (b ≡ false)
either_none false false e = (refl, refl)
either_none false true e = cc e
either_none true b e = cc e

pub none_older : (seen : Option LastPacket) (timestamp : ℕ) (hs : List RedHeader) (octets : List ℕ) → any_gives_since seen timestamp hs ≡ false → older_since seen timestamp (older_at hs octets) ≡ []
none_older seen timestamp [] octets e = refl
none_older seen timestamp (h ∷ hs) octets e =
    let parts = either_none (gives_since seen timestamp h) (any_gives_since seen timestamp hs) e in
    rw (none_of seen timestamp h octets parts.0) (none_older seen timestamp hs (drop h.size octets) parts.1)

-- no more numbers are missing than the packet repeats
pub unmarked : (seen : Option LastPacket) (missing : ℕ) (v : TextView) → missing - missing_then seen ≤ v.count → is_marked_since seen missing v.timestamp (older_in v) ≡ false
unmarked seen missing v few =
    rw (older_count v.count v.headers.now v.older.now, le-ltb _ _ few) refl

pub plain_of : (seen : Option LastPacket) (missing : ℕ) (v : TextView) (repeats : Bool) → missing - missing_then seen ≤ v.count → repeats ≡ any_gives_since seen v.timestamp (headers_in v) → IsTrue (not repeats) → IsPlain seen missing v
plain_of seen missing v repeats few e none = record {
  unmarked = unmarked seen missing v few;
  repeated = none_older seen v.timestamp (headers_in v) v.older.now (sym e ∙ not-true repeats none);
}

-- ---- the packet of a view

abbrev pub shown : TextView → TextPacket
shown v = record { marker_bit = v.marker_bit; seq = v.seq; timestamp = v.timestamp; ssrc = v.ssrc; source = v.source; older = older_in v; primary = v.primary.now }

pub shown_is : (v : TextView) → packet_of (shown v) ≡ packet_in v
shown_is v = refl

used_is : (time number : ℕ) (v : TextView) → used_packet time number (shown v) ≡ viewed_packet time number v
used_is time number v = rw (shown_is v) refl

plain_marked : (seen : Option LastPacket) (missing : ℕ) (v : TextView) → IsPlain seen missing v → is_marked_since seen missing (shown v).timestamp (shown v).older ≡ false
plain_marked seen missing v p = p.unmarked

plain_texts : (seen : Option LastPacket) (missing : ℕ) (v : TextView) → IsPlain seen missing v → texts_since seen (shown v) ≡ text_list v.primary.now
plain_texts seen missing v p = rw (p.repeated) refl

plain_told : (seen : Option LastPacket) (missing : ℕ) (v : TextView) → IsPlain seen missing v → concat (told_since seen missing (shown v)) ≡ v.primary.now
plain_told seen missing v p = rw (plain_marked seen missing v p, plain_texts seen missing v p) (concat_text v.primary.now)

-- ---- the whole step

-- the receiver when the number is counted
abbrev with_number : Receiver → ℕ → Receiver
with_number r number = record { listed = r.listed; latest = Some number; missing = missing_up_to r number }

module _ (r last : Receiver) (number place : ℕ) (v : TextView) (sources : List ℕ) (us : List Numbered) (time : ℕ) (s : Stands r sources us) (f : ForSome r.latest (λ l. l < number)) (small : number ≤ 18446744073709551615)
    (p : IsPlainAt r number v place) (kept : IsKept r last number v.timestamp place) where
  fits : missing_up_to r number ≤ 18446744073709551615
  fits = let n = count_fits us r.latest r.missing number s.count f in omega (arith, n)

  k : IsCounted r (with_number r number) number
  k = record { listed = refl; latest = refl; missing = refl }

  t : IsSeat r (with_number r number) sources us time number (shown v) s f k place p.own
  t = seat r (with_number r number) sources us time number (shown v) s f k place p.own p.is_place p.is_own

  plain : IsPlain p.own.seen (missing_up_to r number) v
  plain = p.plain fits

  pub plain_stands : Stands last sources (us ++ viewed_packet time number v ∷ [])
  plain_stands =
      subst (λ (b : Numbered). Stands last sources (us ++ b ∷ [])) (used_is time number v)
      (stands_listed r (with_number r number) sources us time number (shown v) s f k place p.own (record { source = p.own.source; seen = Some (record { timestamp = v.timestamp; missing = last.missing }) }) last t
      (kept.listed p.own p.is_own) refl (ap (λ (m : ℕ). Some (record { timestamp = v.timestamp; missing = m })) (kept.missing fits)) kept.latest (kept.missing fits))

  pub plain_heard : (texts : List SourceText) (x told : SourceText) → length texts ≡ length r.listed.items → x ≡ get_or texts place x → AreHeard sources us texts
      → told.text ≡ x.text ++ v.primary.now → told.markers ≡ x.markers → AreHeard sources (us ++ viewed_packet time number v ∷ []) (set texts place told)
  plain_heard texts x told n at are text markers =
      subst (λ (b : Numbered). AreHeard sources (us ++ b ∷ []) (set texts place told)) (used_is time number v)
      (each_listed r (with_number r number) sources us time number (shown v) s f k texts place p.own x told t n at are
      (text ∙ ap (λ (o : List ℕ). x.text ++ o) (sym (plain_told p.own.seen (missing_up_to r number) v plain)))
      (markers ∙ rw (plain_marked p.own.seen (missing_up_to r number) v plain) (omega arith)))

pub plain_primary : (r last : Receiver) (number place : ℕ) (v : TextView) (source : ℕ) (us : List Numbered) (time : ℕ) → Stands r (source ∷ []) us → ForSome r.latest (λ l. l < number) → number ≤ 18446744073709551615
    → IsPlainAt r number v place → IsKept r last number v.timestamp place → heard_by (us ++ viewed_packet time number v ∷ []) source ≡ heard_by us source ++ text_list v.primary.now
plain_primary r last number place v source us time s f small p kept =
    let sources : List ℕ = source ∷ [] in
    let m = missing_up_to r number in
    let seen = p.own.seen in
    let one = plain r last number place v sources us time s f small p kept in
    let there = t r last number place v sources us time s f small p kept in
    let counts = k r last number place v sources us time s f small p kept in
    let within = (position-Some (λ (n : ℕ). n == v.source) sources place 0 there.position_is).0 in
    let zero : place ≡ 0 = omega (arith, within) in
    ap (λ (b : Numbered). heard_by (us ++ b ∷ []) source) (sym (used_is time number v))
    ∙ (heard_at r (with_number r number) sources us time number (shown v) s f counts 0 (Some 0) (is_marked_since seen m v.timestamp (older_in v)) (texts_since seen (shown v)) (omega arith)
    (ap Some (sym zero) ∙ sym there.position_is)
    (λ j q. (markers r (with_number r number) sources us time number (shown v) s f counts place p.own there, texts_there r (with_number r number) sources us time number (shown v) s f counts place p.own there))
    ∙ ap (λ ts. heard_by us source ++ ts) (rw (plain_marked seen m v one, plain_texts seen m v one) refl))
