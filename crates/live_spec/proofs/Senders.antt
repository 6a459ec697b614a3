-- Who takes over, and what was heard of those before.
use Rattle.std.proofs.Common.{◌≡◌, ℕ, Bool, true, false, inl, inr, Option, Some, None, List, [], ◌∷◌, ◌++◌, refl, ap, sym, ◌∙◌, append_assoc}
use Rattle.std.specs.Prelude.{Result, Ok, Err, max, if◌then◌else◌}
use Rattle.std.proofs.lemmas.List.{append-nil}
use Rattle.wire_spec.specs.declared.faults.TextFault.{TextFault}
use Rattle.wire_spec.specs.Packets.{Arrival, Packet}
use Rattle.wire_spec.specs.Text.{text_within}
use Rattle.stream_spec.specs.Fronts.{IsFront}
use Rattle.stream_spec.specs.Links.{Came, Closed, Datagram, Large, Quiet, Takes}
use Rattle.live_spec.specs.Told.{Former, Hearing, Told, all_former, former_after, former_chunks, is_sender, last_chunks, taken_over, takes_over, told_by, told_came, told_packet, with_packet}
use Rattle.live_spec.specs.ToldLaws.{AreOf, AreOwn, AreSenders, FormersStay, SendersTakeOver}
use Rattle.live_spec.proofs.Asked.{eqb_true}

-- ---- one more takes over
own_after : (sender : Option ℕ) (past : List Arrival) (m : ℕ) (before : List Former) → ((ssrc : ℕ) → sender ≡ Some ssrc → AreOf ssrc past) → AreOwn before → AreOwn (former_after sender past m before)
own_after None past m before o f = f
own_after (Some s) past m before o f = (o s refl, f)

over_senders : (d : Told) (t : ℕ) (p : Packet) → AreSenders d → AreSenders (taken_over d t p)
over_senders d t p s = record {
  own = λ ssrc q a i. elim i [ inl r ↦ (let same : p.ssrc ≡ ssrc = cc q in ap (λ (x : Arrival). x.packet.ssrc) r ∙ same) | inr k ↦ absurd k ];
  former = own_after d.sender d.past (max d.moment t) d.before s.own s.former;
}

sender_is : (sender : Option ℕ) (x ssrc : ℕ) → is_sender sender x ≡ true → sender ≡ Some ssrc → x ≡ ssrc
sender_is None x ssrc e q = absurd (cc q)
sender_is (Some s) x ssrc e q = let same : s ≡ ssrc = cc q in eqb_true x s e ∙ same

packet_senders : (d : Told) (t : ℕ) (p : Packet) → is_sender d.sender p.ssrc ≡ true → AreSenders d → AreSenders (with_packet d t p)
packet_senders d t p e s = record {
  own = λ ssrc q a i. elim i [ inl r ↦ ap (λ (x : Arrival). x.packet.ssrc) r ∙ sender_is d.sender p.ssrc ssrc e q | inr k ↦ s.own ssrc q a k ];
  former = s.former;
}

text_senders : (h : Hearing) (d : Told) (t : ℕ) (r : Result Packet TextFault) → AreSenders d → AreSenders (told_packet h d t r)
text_senders h d t (Err fault) s = s
text_senders h d t (Ok p) s = go (is_sender d.sender p.ssrc) (takes_over h d t p.ssrc) refl
  where
    go : (a b : Bool) → is_sender d.sender p.ssrc ≡ a → AreSenders (if a then with_packet d t p else (if b then taken_over d t p else d))
    go true b e = packet_senders d t p e s
    go false true e = over_senders d t p s
    go false false e = s

-- ---- what was heard before
formers_after : (h : Hearing) (sender : Option ℕ) (past : List Arrival) (m : ℕ) (before : List Former) → IsFront (all_former h before) (all_former h (former_after sender past m before))
formers_after h None past m before = ([], sym (append-nil (all_former h before)))
formers_after h (Some s) past m before = (former_chunks h (record { ssrc = s; past = past; until = m }), refl)

text_formers : (h : Hearing) (d : Told) (t : ℕ) (r : Result Packet TextFault) → IsFront (all_former h d.before) (all_former h (told_packet h d t r).before)
text_formers h d t (Err fault) = ([], sym (append-nil (all_former h d.before)))
text_formers h d t (Ok p) = go (is_sender d.sender p.ssrc) (takes_over h d t p.ssrc)
  where
    go : (a b : Bool) → IsFront (all_former h d.before) (all_former h (if a then with_packet d t p else (if b then taken_over d t p else d)).before)
    go true b = ([], sym (append-nil (all_former h d.before)))
    go false true = formers_after h d.sender d.past (max d.moment t) d.before
    go false false = ([], sym (append-nil (all_former h d.before)))

-- ---- takes
came_senders : (h : Hearing) (d : Told) (t : ℕ) (came : Came) → AreSenders d → AreSenders (told_came h d t came)
came_senders h d t (Datagram octets) s = text_senders h d t (text_within h.most octets None h.payload_types) s
came_senders h d t Large s = record { own = s.own; former = s.former }
came_senders h d t Quiet s = record { own = s.own; former = s.former }
came_senders h d t Closed s = record { own = s.own; former = s.former }

pub senders_law : SendersTakeOver
senders_law h [] = record { own = λ ssrc q a i. absurd i; former = tt }
senders_law h (a ∷ past) = came_senders h (told_by h past) a.at a.came (senders_law h past)

came_formers : (h : Hearing) (d : Told) (t : ℕ) (came : Came) → IsFront (all_former h d.before) (all_former h (told_came h d t came).before)
came_formers h d t (Datagram octets) = text_formers h d t (text_within h.most octets None h.payload_types)
came_formers h d t Large = ([], sym (append-nil (all_former h d.before)))
came_formers h d t Quiet = ([], sym (append-nil (all_former h d.before)))
came_formers h d t Closed = ([], sym (append-nil (all_former h d.before)))

by_formers : (h : Hearing) (later earlier : Takes) → IsFront (all_former h (told_by h earlier).before) (all_former h (told_by h (later ++ earlier)).before)
by_formers h [] earlier = ([], sym (append-nil (all_former h (told_by h earlier).before)))
by_formers h (a ∷ later) earlier =
    let first = all_former h (told_by h earlier).before in
    let f = by_formers h later earlier in
    let g = came_formers h (told_by h (later ++ earlier)) a.at a.came in
    (f.0 ++ g.0, g.1 ∙ (ap (λ cs. cs ++ g.0) f.1 ∙ append_assoc first f.0 g.0))

pub formers_law : FormersStay
formers_law h later earlier =
    let first = all_former h (told_by h earlier).before in
    let d = told_by h (later ++ earlier) in
    let f = by_formers h later earlier in
    (f.0 ++ last_chunks h d.sender d.past, ap (λ cs. cs ++ last_chunks h d.sender d.past) f.1 ∙ append_assoc first f.0 (last_chunks h d.sender d.past))
