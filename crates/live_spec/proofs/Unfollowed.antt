-- A leg that is not followed is heard as one stream.
use Rattle.std.proofs.Common.{◌≡◌, ℕ, Bool, true, false, Some, None, List, [], ◌∷◌, refl, ap, subst, sym, ◌∙◌}
use Rattle.std.specs.Prelude.{Result, Ok, Err, ◌==◌, max, if◌then◌else◌}
use Rattle.std.proofs.lemmas.Bool.{eq-eqb, false≢true}
use Rattle.rtt_base.specs.declared.text_packets.PayloadTypes.{PayloadTypes}
use Rattle.wire_spec.specs.declared.faults.TextFault.{TextFault}
use Rattle.wire_spec.specs.Packets.{Packet, Arrival}
use Rattle.wire_spec.specs.Text.{text_within}
use Rattle.stream_spec.specs.Links.{Came, Datagram, Large, Quiet, Closed, Takes}
use Rattle.live_spec.specs.Told.{Hearing, Told, all_by, all_told, heard_told, ready_told, sender_chunks, sender_texts, told_by, told_came, told_packet}
use Rattle.live_spec.specs.ToldLaws.{IsPlain, Plain, Unfollowed, plain_by, plain_came, plain_packet}
use Rattle.live_spec.proofs.Asked.{any_asked, eqb_true, own_asked}

-- nobody took over
record Same (ssrc : ℕ) (d : Told) (p : Plain) : Type 0 where
  before : d.before ≡ []
  sender : d.sender ≡ Some ssrc
  past : d.past ≡ p.past
  moment : d.moment ≡ p.moment
  closed : d.closed ≡ p.closed

abbrev plain : Hearing → Hearing
plain h = record { leg = h.leg; ssrc = h.ssrc; payload_types = h.payload_types; most = h.most; wait = h.wait; follow = false; piece = h.piece }

-- a packet is read alike where its SSRC is asked for
record Alike (ssrc : ℕ) (any own : Result Packet TextFault) : Type 0 where
  mine : (p : Packet) → any ≡ Ok p → p.ssrc ≡ ssrc → own ≡ Ok p
  back : (p : Packet) → own ≡ Ok p → (any ≡ Ok p) × (p.ssrc ≡ ssrc)

alike : (most : ℕ) (octets : List ℕ) (ssrc : ℕ) (payload_types : PayloadTypes) → Alike ssrc (text_within most octets None payload_types) (text_within most octets (Some ssrc) payload_types)
alike most octets ssrc payload_types = record {
  mine = λ p e q. subst (λ (s : ℕ). text_within most octets (Some s) payload_types ≡ Ok p) q (own_asked most octets payload_types p e);
  back = λ p e. any_asked most octets ssrc payload_types p e;
}

-- of a told state whose sender has this SSRC
abbrev one : ℕ → List Arrival → ℕ → Bool → Told
one ssrc past moment closed = record { before = []; sender = Some ssrc; past = past; moment = moment; closed = closed }

abbrev as_plain : List Arrival → ℕ → Bool → Plain
as_plain past moment closed = record { past = past; moment = moment; closed = closed }

abbrev Keeps : Hearing → List Arrival → ℕ → Bool → ℕ → Result Packet TextFault → Result Packet TextFault → Type 0
Keeps h past moment closed t any own = Same h.ssrc (told_packet (plain h) (one h.ssrc past moment closed) t any) (plain_packet (as_plain past moment closed) t own)

refused : (h : Hearing) (past : List Arrival) (moment : ℕ) (closed : Bool) (t : ℕ) (own : Result Packet TextFault)
    → ((p : Packet) → own ≡ Ok p → ⊥) → Same h.ssrc (one h.ssrc past moment closed) (plain_packet (as_plain past moment closed) t own)
refused h past moment closed t (Ok p) never = absurd (never p refl)
refused h past moment closed t (Err f) never = record { before = refl; sender = refl; past = refl; moment = refl; closed = refl }

one_packet : (h : Hearing) (past : List Arrival) (moment : ℕ) (closed : Bool) (t : ℕ) (any own : Result Packet TextFault) → Alike h.ssrc any own → Keeps h past moment closed t any own
one_packet h past moment closed t (Err f) own a = refused h past moment closed t own (λ p e. absurd (cc ((a.back p e).0)))
one_packet h past moment closed t (Ok p) own a = go (p.ssrc == h.ssrc) refl
  where
    d : Told
    d = one h.ssrc past moment closed

    go : (b : Bool) → (p.ssrc == h.ssrc) ≡ b
        → Same h.ssrc (if b then record { before = []; sender = Some h.ssrc; past = record { time = max moment t; packet = p } ∷ past; moment = max moment t; closed = closed } else one h.ssrc past moment closed)
        (plain_packet (as_plain past moment closed) t own)
    go true e = subst (λ (r : Result Packet TextFault). Same h.ssrc (record { before = []; sender = Some h.ssrc; past = record { time = max moment t; packet = p } ∷ past; moment = max moment t; closed = closed })
        (plain_packet (as_plain past moment closed) t r)) (sym (a.mine p refl (eqb_true p.ssrc h.ssrc e)))
        (record { before = refl; sender = refl; past = refl; moment = refl; closed = refl })
    go false e = refused h past moment closed t own (λ q f. (
        let b = a.back q f in
        let same : p ≡ q = cc b.0 in
        false≢true (sym e ∙ eq-eqb p.ssrc h.ssrc (ap (λ (x : Packet). x.ssrc) same ∙ b.1))))

same_packet : (h : Hearing) (d : Told) (p : Plain) (t : ℕ) (any own : Result Packet TextFault) → Alike h.ssrc any own → Same h.ssrc d p → Same h.ssrc (told_packet (plain h) d t any) (plain_packet p t own)
same_packet h d p t any own a s =
    let e : one h.ssrc p.past p.moment p.closed ≡ d = λ ι. record { before = sym s.before ι; sender = sym s.sender ι; past = sym s.past ι; moment = sym s.moment ι; closed = sym s.closed ι } in
    subst (λ (x : Told). Same h.ssrc (told_packet (plain h) x t any) (plain_packet p t own)) e (one_packet h p.past p.moment p.closed t any own a)

same_came : (h : Hearing) (d : Told) (p : Plain) (t : ℕ) (came : Came) → Same h.ssrc d p → Same h.ssrc (told_came (plain h) d t came) (plain_came h p t came)
same_came h d p t (Datagram octets) s = same_packet h d p t (text_within h.most octets None h.payload_types) (text_within h.most octets (Some h.ssrc) h.payload_types) (alike h.most octets h.ssrc h.payload_types) s
same_came h d p t Large s = record { before = s.before; sender = s.sender; past = s.past; moment = ap (λ n. max n t) s.moment; closed = s.closed }
same_came h d p t Quiet s = record { before = s.before; sender = s.sender; past = s.past; moment = ap (λ n. max n t) s.moment; closed = s.closed }
same_came h d p t Closed s = record { before = s.before; sender = s.sender; past = s.past; moment = s.moment; closed = refl }

same_by : (h : Hearing) (takes : Takes) → Same h.ssrc (told_by (plain h) takes) (plain_by h takes)
same_by h [] = record { before = refl; sender = refl; past = refl; moment = refl; closed = refl }
same_by h (a ∷ past) = same_came h (told_by (plain h) past) (plain_by h past) a.at a.came (same_by h past)

plain_law : (h : Hearing) (takes : Takes) → IsPlain (plain h) takes
plain_law h takes =
    let s = same_by h takes in
    let d = told_by (plain h) takes in
    let p = plain_by h takes in
    let e : d ≡ one h.ssrc p.past p.moment p.closed = λ ι. record { before = s.before ι; sender = s.sender ι; past = s.past ι; moment = s.moment ι; closed = s.closed ι } in
    record {
      told = e;
      all = ap (all_told (plain h)) e;
      ready = ap (ready_told (plain h)) e;
      texts = ap (heard_told (plain h)) e;
    }

pub unfollowed_law : Unfollowed
unfollowed_law h takes e =
    let same : plain h ≡ h = λ i. record { leg = h.leg; ssrc = h.ssrc; payload_types = h.payload_types; most = h.most; wait = h.wait; follow = sym e i; piece = h.piece } in
    subst (λ (x : Hearing). IsPlain x takes) same (plain_law h takes)

-- the same by what was told
pub all_plain : (h : Hearing) (takes : Takes) → h.follow ≡ false → all_by h takes ≡ sender_chunks h h.ssrc (told_by h takes).past
all_plain h takes e = let u = unfollowed_law h takes e in u.all ∙ ap (λ (d : Told). sender_chunks h h.ssrc d.past) (sym u.told)

pub heard_plain : (h : Hearing) (takes : Takes) → h.follow ≡ false → heard_told h (told_by h takes) ≡ sender_texts h h.ssrc (told_by h takes).past
heard_plain h takes e = let u = unfollowed_law h takes e in u.texts ∙ ap (λ (d : Told). sender_texts h h.ssrc d.past) (sym u.told)
