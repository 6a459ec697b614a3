-- What is known of senders, step by step.
use Rattle.std.proofs.Common.{◌≡◌, ℕ, Bool, true, false, Option, Some, None, List, [], ◌∷◌, Result, Ok, Err, refl, ap, sym, ◌∙◌, subst}
use Rattle.std.specs.Prelude.{◌+◌, ◌==◌, ◌&&◌, ◌||◌, map, max, nat_le, not, take, zero, suc, if◌then◌else◌}
use Rattle.std.specs.List.{list_any}
use Rattle.rtt_base.specs.declared.text_packets.PayloadTypes.{PayloadTypes}
use Rattle.wire_spec.specs.declared.faults.TextFault.{TextFault}
use Rattle.wire_spec.specs.Packets.{Packet}
use Rattle.wire_spec.specs.Text.{text_within}
use Rattle.file_spec.specs.Primaries.{primary_limit}
use Rattle.live_spec.specs.Told.{Former, Hearing, Told, former_after, is_sender, known_senders, last_moment, quiet_time, taken_over, takes_over, told_packet, with_packet}
use Rattle.live_leg.specs.declared.senders.Senders.{Senders}
use Rattle.live_leg.specs.declared.senders.DatagramSender.{DatagramSender}
use Rattle.live_leg.specs.declared.senders.DatagramSender.TheVariants.{Refused, Foreign, Sender, First, Other}
use Rattle.live_leg.specs.Senders.{IsMet, Knows, Meets, MeetsText, Notes, Passes, Remembers, TakesOver, known_after, over_from, remembered, sent_of}

-- ---- the last 64
take_twice : (n : ℕ) (xs : List ℕ) → take n (take (suc n) xs) ≡ take n xs
take_twice zero xs = refl
take_twice (suc n) [] = refl
take_twice (suc n) (x ∷ xs) = ap (λ ys. x ∷ ys) (take_twice n xs)

known_more : (sender : Option ℕ) (d : Told) (t : ℕ) (known : List ℕ) → known ≡ known_senders d.before → known_after sender known ≡ known_senders (former_after sender d.past t d.before)
known_more None d t known e = e
known_more (Some s) d t known e = ap (λ xs. s ∷ xs) (ap (λ (xs : List ℕ). take 63 xs) e ∙ take_twice 63 (map (λ (f : Former). f.ssrc) d.before))

-- ---- a packet of text
abbrev pub told_if : Told → ℕ → Packet → Bool → Bool → Told
told_if d t p a b = if a then with_packet d t p else (if b then taken_over d t p else d)

abbrev pub sent_if : Told → Bool → Bool → DatagramSender
sent_if d a b = if a then Sender else (if b then over_from d.sender else Foreign)

met : (old new : Senders) (t : ℕ) (p : Packet) (sent : DatagramSender) (h : Hearing) (d : Told) (a b : Bool) → is_sender d.sender p.ssrc ≡ a → takes_over h d t p.ssrc ≡ b
    → Knows new h (told_if d t p a b) → sent ≡ sent_if d a b → IsMet old new t (λ _. Ok p) sent h d
met old new t p sent h d a b ea eb k s = record {
  knows = subst (λ (x : Bool). Knows new h (told_if d t p x (takes_over h d t p.ssrc))) (sym ea) (subst (λ (y : Bool). Knows new h (told_if d t p a y)) (sym eb) k);
  sent_is = s ∙ (ap (λ (y : Bool). sent_if d a y) (sym eb) ∙ ap (λ (x : Bool). sent_if d x (takes_over h d t p.ssrc)) (sym ea));
}

abbrev over_by : Senders → ℕ → ℕ → Bool
over_by s t ssrc = s.follow && (not (list_any (λ x. x == ssrc) s.known.items) || nat_le (s.last + quiet_time) (max s.moment t))

sender_by : (s : Senders) (h : Hearing) (d : Told) (p : Packet) (ssrc : ℕ) (a : Bool) → Knows s h d → p.ssrc ≡ ssrc → is_sender s.sender ssrc ≡ a → is_sender d.sender p.ssrc ≡ a
sender_by s h d p ssrc a k e is = ap (λ (o : Option ℕ). is_sender o p.ssrc) (sym k.sender) ∙ (ap (λ (x : ℕ). is_sender s.sender x) e ∙ is)

takes_by : (s : Senders) (h : Hearing) (d : Told) (t : ℕ) (p : Packet) (ssrc : ℕ) (b : Bool) → Knows s h d → p.ssrc ≡ ssrc → over_by s t ssrc ≡ b → takes_over h d t p.ssrc ≡ b
takes_by s h d t p ssrc b k e is =
    ap (λ (x : ℕ). takes_over h d t x) e
    ∙ (ap (λ (f : Bool). f && (not (list_any (λ x. x == ssrc) (known_senders d.before)) || nat_le (last_moment d.past + quiet_time) (max d.moment t))) (sym k.follow)
    ∙ (ap (λ (xs : List ℕ). s.follow && (not (list_any (λ x. x == ssrc) xs) || nat_le (last_moment d.past + quiet_time) (max d.moment t))) (sym k.known)
    ∙ (ap (λ (n : ℕ). s.follow && (not (list_any (λ x. x == ssrc) s.known.items) || nat_le (n + quiet_time) (max d.moment t))) (sym k.last)
    ∙ (ap (λ (n : ℕ). s.follow && (not (list_any (λ x. x == ssrc) s.known.items) || nat_le (s.last + quiet_time) (max n t))) (sym k.moment) ∙ is))))

-- one of the sender
pub meets_sender : (old new : Senders) (t ssrc : ℕ) → is_sender old.sender ssrc ≡ true → Notes old new t → MeetsText old new t ssrc Sender
meets_sender old new t ssrc is n p e h d k =
    met old new t p Sender h d true (takes_over h d t p.ssrc) (sender_by old h d p ssrc true k e is) refl
    (record {
      payload_types = n.payload_types ∙ k.payload_types;
      most = ap primary_limit n.long ∙ k.most;
      follow = n.follow ∙ k.follow;
      sender = n.sender ∙ k.sender;
      known = n.known ∙ k.known;
      moment = n.moment ∙ ap (λ x. max x t) k.moment;
      last = n.last ∙ ap (λ x. max x t) k.moment;
    }) refl

-- one that is passed over
pub meets_foreign : (s : Senders) (t ssrc : ℕ) → is_sender s.sender ssrc ≡ false → over_by s t ssrc ≡ false → MeetsText s s t ssrc Foreign
meets_foreign s t ssrc is never p e h d k =
    met s s t p Foreign h d false false (sender_by s h d p ssrc false k e is) (takes_by s h d t p ssrc false k e never) k refl

-- one of who takes over
pub meets_other : (old new : Senders) (t ssrc : ℕ) (sent : DatagramSender) → is_sender old.sender ssrc ≡ false → over_by old t ssrc ≡ true → TakesOver old new t ssrc sent → MeetsText old new t ssrc sent
meets_other old new t ssrc sent is may over p e h d k =
    met old new t p sent h d false true (sender_by old h d p ssrc false k e is) (takes_by old h d t p ssrc true k e may)
    (record {
      payload_types = over.payload_types ∙ k.payload_types;
      most = ap primary_limit over.long ∙ k.most;
      follow = over.follow ∙ k.follow;
      sender = over.sender ∙ ap (λ (x : ℕ). Some x) (sym e);
      known = over.known ∙ (ap (λ (o : Option ℕ). known_after o old.known.items) k.sender ∙ known_more d.sender d (max d.moment t) old.known.items k.known);
      moment = over.moment ∙ ap (λ n. max n t) k.moment;
      last = over.last ∙ ap (λ n. max n t) k.moment;
    })
    (over.sent_is ∙ ap over_from k.sender)

-- who sends is the sender from now on
pub takes_from : (old mid noted new : Senders) (t ssrc sender : ℕ) → old.sender ≡ Some sender → mid.payload_types ≡ old.payload_types → mid.long ≡ old.long → mid.follow ≡ old.follow → mid.sender ≡ Some ssrc → mid.known.items ≡ old.known.items → mid.moment ≡ old.moment
    → Notes mid noted t → Remembers noted new sender → TakesOver old new t ssrc Other
takes_from old mid noted new t ssrc sender is payload_types long follow now known moment n r = record {
  payload_types = r.payload_types ∙ (n.payload_types ∙ payload_types);
  long = r.long ∙ (n.long ∙ long);
  follow = r.follow ∙ (n.follow ∙ follow);
  sender = r.sender ∙ (n.sender ∙ now);
  known = r.known ∙ (ap (remembered sender) (n.known ∙ known) ∙ ap (λ (o : Option ℕ). known_after o old.known.items) (sym is));
  moment = r.moment ∙ (n.moment ∙ ap (λ (x : ℕ). max x t) moment);
  last = r.last ∙ (n.last ∙ ap (λ (x : ℕ). max x t) moment);
  sent_is = ap over_from (sym is);
}

pub takes_first : (old mid new : Senders) (t ssrc : ℕ) → old.sender ≡ None → mid.payload_types ≡ old.payload_types → mid.long ≡ old.long → mid.follow ≡ old.follow → mid.sender ≡ Some ssrc → mid.known.items ≡ old.known.items → mid.moment ≡ old.moment
    → Notes mid new t → TakesOver old new t ssrc First
takes_first old mid new t ssrc is payload_types long follow now known moment n = record {
  payload_types = n.payload_types ∙ payload_types;
  long = n.long ∙ long;
  follow = n.follow ∙ follow;
  sender = n.sender ∙ now;
  known = n.known ∙ (known ∙ ap (λ (o : Option ℕ). known_after o old.known.items) (sym is));
  moment = n.moment ∙ ap (λ (x : ℕ). max x t) moment;
  last = n.last ∙ ap (λ (x : ℕ). max x t) moment;
  sent_is = ap over_from (sym is);
}

-- ---- time
pub passes_on : (old new : Senders) (t : ℕ) → new.payload_types ≡ old.payload_types → new.long ≡ old.long → new.follow ≡ old.follow → new.sender ≡ old.sender → new.known.items ≡ old.known.items → new.moment ≡ max old.moment t → new.last ≡ old.last → Passes old new t
passes_on old new t payload_types long follow sender known moment last h d k = record {
  payload_types = payload_types ∙ k.payload_types;
  most = ap primary_limit long ∙ k.most;
  follow = follow ∙ k.follow;
  sender = sender ∙ k.sender;
  known = known ∙ k.known;
  moment = moment ∙ ap (λ (x : ℕ). max x t) k.moment;
  last = last ∙ k.last;
}

-- ---- octets
abbrev same_knows : (s u : Senders) (h : Hearing) (d : Told) → u.payload_types ≡ s.payload_types → u.long ≡ s.long → u.follow ≡ s.follow → u.sender ≡ s.sender → u.known.items ≡ s.known.items → u.moment ≡ s.moment → u.last ≡ s.last → Knows s h d → Knows u h d
same_knows s u h d a l b c e f i k = record { payload_types = a ∙ k.payload_types; most = ap primary_limit l ∙ k.most; follow = b ∙ k.follow; sender = c ∙ k.sender; known = e ∙ k.known; moment = f ∙ k.moment; last = i ∙ k.last }

pub meets_text : (old read new : Senders) (t most : ℕ) (octets : List ℕ) (p : Packet) (ssrc : ℕ) (sent : DatagramSender) → ((h : Hearing) (d : Told) → Knows old h d → Knows read h d)
    → most ≡ primary_limit old.long → text_within most octets None old.payload_types ≡ Ok p → p.ssrc ≡ ssrc → MeetsText read new t ssrc sent → Meets old new t octets sent
meets_text old read new t most octets p ssrc sent same limit reads who m h d k =
    let one = m p who h d (same h d k) in
    let e : text_within h.most octets None h.payload_types ≡ Ok p = (λ i. text_within ((sym k.most ∙ sym limit) i) octets None (sym k.payload_types i)) ∙ reads in
    record {
      knows = subst (λ (r : Result Packet TextFault). Knows new h (told_packet h d t r)) (sym e) one.knows;
      sent_is = one.sent_is ∙ ap (sent_of h d t) (sym e);
    }

pub meets_none : (old new : Senders) (t most : ℕ) (octets : List ℕ) (f : TextFault) → ((h : Hearing) (d : Told) → Knows old h d → Knows new h d) → most ≡ primary_limit old.long → text_within most octets None old.payload_types ≡ Err f → Meets old new t octets Refused
meets_none old new t most octets f same limit reads h d k =
    let e : text_within h.most octets None h.payload_types ≡ Err f = (λ i. text_within ((sym k.most ∙ sym limit) i) octets None (sym k.payload_types i)) ∙ reads in
    record {
      knows = subst (λ (r : Result Packet TextFault). Knows new h (told_packet h d t r)) (sym e) (same h d k);
      sent_is = ap (sent_of h d t) (sym e);
    }
