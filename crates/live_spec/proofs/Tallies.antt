-- What is counted of a leg adds up.
use Rattle.std.proofs.Common.{◌≡◌, ◌≤◌, ◌⊎◌, ◌+◌, ℕ, Bool, true, false, true≢false, inl, inr, Option, Some, None, List, [], ◌∷◌, Result, Ok, Err, refl, ap, sym, ◌∙◌, arith}
use Rattle.std.specs.Prelude.{suc, max, length, if◌then◌else◌}
use Rattle.wire_spec.specs.declared.faults.TextFault.{TextFault}
use Rattle.wire_spec.specs.Packets.{Packet, Arrival}
use Rattle.wire_spec.specs.Text.{text_within}
use Rattle.stream_spec.specs.Links.{Came, Datagram, Large, Quiet, Closed, Takes}
use Rattle.live_spec.specs.Told.{Former, Hearing, Told, former_after, is_sender, taken_over, takes_over, told_by, told_came, told_packet, with_packet}
use Rattle.view_spec.specs.declared.tallies.Tally.{Tally}
use Rattle.live_spec.specs.Tally.{tally_by, tally_came, tally_packet, with_foreign, with_refused, with_sender, with_text}
use Rattle.live_spec.specs.TallyLaws.{TalliesAddUp, all_packets, all_senders, datagrams_in, former_packets, is_datagram, one_if_any}
use Rattle.live_spec.proofs.Unfollowed.{unfollowed_law}
use Rattle.wire_spec.proofs.Plain.{and_left}

-- 1, where there is a sender
abbrev one_if_sent : Option ℕ → ℕ
one_if_sent None = 0
one_if_sent (Some s) = 1

-- What is known of what was told, and of what was counted of so many datagrams. Of a leg that is followed there is a sender where
-- something came of it.
record Sums (h : Hearing) (d : Told) (y : Tally) (n : ℕ) : Type 0 where
  came : y.came ≡ n
  parts : y.came ≡ y.text + y.refused + y.foreign
  text : y.text ≡ all_packets d
  senders : y.senders ≡ all_senders d
  begun : one_if_any d.past ≡ 0 → length d.before ≡ 0
  followed : h.follow ≡ true → one_if_sent d.sender ≡ one_if_any d.past

-- ---- lists
none_past : (past : List Arrival) → one_if_any past ≡ 0 → length past ≡ 0
none_past [] e = refl
none_past (a ∷ past) e = absurd (omega (arith, e))

one_or_none : (past : List Arrival) → (one_if_any past ≡ 0) ⊎ (one_if_any past ≡ 1)
one_or_none [] = inl refl
one_or_none (a ∷ past) = inr refl

one_at_most : (past : List Arrival) → one_if_any past ≤ 1
one_at_most [] = omega arith
one_at_most (a ∷ past) = omega arith

former_count : (sender : Option ℕ) (past : List Arrival) (t : ℕ) (before : List Former) → length (former_after sender past t before) ≡ one_if_sent sender + length before
former_count None past t before = omega arith
former_count (Some s) past t before = omega arith

former_text : (sender : Option ℕ) (past : List Arrival) (t : ℕ) (before : List Former) → one_if_sent sender ≡ one_if_any past
    → former_packets (former_after sender past t before) ≡ length past + former_packets before
former_text None past t before e = let none = none_past past (sym e) in omega (arith, none)
former_text (Some s) past t before e = refl

-- ---- a packet
sent_there : (sender : Option ℕ) (ssrc : ℕ) → is_sender sender ssrc ≡ true → one_if_sent sender ≡ 1
sent_there None ssrc e = absurd (true≢false (sym e))
sent_there (Some s) ssrc e = refl

text_sums : (h : Hearing) (d : Told) (t : ℕ) (p : Packet) (y : Tally) (n : ℕ) → is_sender d.sender p.ssrc ≡ true → Sums h d y n → Sums h (with_packet d t p) (with_text y) (suc n)
text_sums h d t p y n e s = record {
  came = ap suc s.came;
  parts = (let parts = s.parts in omega (arith, parts));
  text = (let text = s.text in omega (arith, text));
  senders = (
      let senders = s.senders in
      elim (one_or_none d.past) [
        | inl none ↦ let begun = s.begun none in omega (arith, senders, none, begun)
        | inr one ↦ omega (arith, senders, one)
      ]
      );
  begun = λ none. absurd (omega (arith, none));
  followed = λ f. sent_there d.sender p.ssrc e;
}

over_sums : (h : Hearing) (d : Told) (t : ℕ) (p : Packet) (y : Tally) (n : ℕ) → h.follow ≡ true → Sums h d y n → Sums h (taken_over d t p) (with_sender y) (suc n)
over_sums h d t p y n follows s =
    let same = s.followed follows in
    record {
      came = ap suc s.came;
      parts = (let parts = s.parts in omega (arith, parts));
      text = (let text = s.text in let former = former_text d.sender d.past (max d.moment t) d.before same in omega (arith, text, former));
      senders = (let senders = s.senders in let former = former_count d.sender d.past (max d.moment t) d.before in omega (arith, senders, former, same));
      begun = λ none. absurd (omega (arith, none));
      followed = λ f. refl;
    }

refused_sums : (h : Hearing) (d : Told) (y : Tally) (n : ℕ) → Sums h d y n → Sums h d (with_refused y) (suc n)
refused_sums h d y n s = record { came = ap suc s.came; parts = (let parts = s.parts in omega (arith, parts)); text = s.text; senders = s.senders; begun = s.begun; followed = s.followed }

foreign_sums : (h : Hearing) (d : Told) (y : Tally) (n : ℕ) → Sums h d y n → Sums h d (with_foreign y) (suc n)
foreign_sums h d y n s = record { came = ap suc s.came; parts = (let parts = s.parts in omega (arith, parts)); text = s.text; senders = s.senders; begun = s.begun; followed = s.followed }

packet_sums : (h : Hearing) (d : Told) (t : ℕ) (r : Result Packet TextFault) (y : Tally) (n : ℕ) → Sums h d y n → Sums h (told_packet h d t r) (tally_packet h d t r y) (suc n)
packet_sums h d t (Err fault) y n s = refused_sums h d y n s
packet_sums h d t (Ok p) y n s = go (is_sender d.sender p.ssrc) (takes_over h d t p.ssrc) refl refl
  where
    go : (a b : Bool) → is_sender d.sender p.ssrc ≡ a → takes_over h d t p.ssrc ≡ b
        → Sums h (if a then with_packet d t p else (if b then taken_over d t p else d)) (if a then with_text y else (if b then with_sender y else with_foreign y)) (suc n)
    go true b e f = text_sums h d t p y n e s
    go false true e f = over_sums h d t p y n (and_left h.follow _ f) s
    go false false e f = foreign_sums h d y n s

-- ---- takes
-- the same of so many datagrams
sums_of : (h : Hearing) (d : Told) (y : Tally) (n m : ℕ) → n ≡ m → Sums h d y n → Sums h d y m
sums_of h d y n m e s = record { came = s.came ∙ e; parts = s.parts; text = s.text; senders = s.senders; begun = s.begun; followed = s.followed }

came_sums : (h : Hearing) (d : Told) (t : ℕ) (came : Came) (y : Tally) (n : ℕ) → Sums h d y n → Sums h (told_came h d t came) (tally_came h d t came y) ((if is_datagram came then 1 else 0) + n)
came_sums h d t (Datagram octets) y n s = sums_of h _ _ (suc n) (1 + n) (omega arith) (packet_sums h d t (text_within h.most octets None h.payload_types) y n s)
came_sums h d t Large y n s =
    let w = refused_sums h d y n s in
    record { came = w.came ∙ omega arith; parts = w.parts; text = w.text; senders = w.senders; begun = w.begun; followed = w.followed }
came_sums h d t Quiet y n s = record { came = s.came ∙ omega arith; parts = s.parts; text = s.text; senders = s.senders; begun = s.begun; followed = s.followed }
came_sums h d t Closed y n s = record { came = s.came ∙ omega arith; parts = s.parts; text = s.text; senders = s.senders; begun = s.begun; followed = s.followed }

by_sums : (h : Hearing) (takes : Takes) → Sums h (told_by h takes) (tally_by h takes) (datagrams_in takes)
by_sums h [] = record {
  came = refl;
  parts = refl;
  text = refl;
  senders = refl;
  begun = λ none. refl;
  followed = λ f. ap (λ (b : Bool). one_if_sent (if b then None else Some h.ssrc)) f;
}
by_sums h (a ∷ past) = came_sums h (told_by h past) a.at a.came (tally_by h past) (datagrams_in past) (by_sums h past)

pub tallies_law : TalliesAddUp
tallies_law h takes =
    let s = by_sums h takes in
    record {
      came = s.came;
      parts = s.parts;
      text = s.text;
      senders = s.senders;
      one = λ e.
          let senders = s.senders in
          let none : length (told_by h takes).before ≡ 0 = ap (λ (d : Told). length d.before) (unfollowed_law h takes e).told in
          let most = one_at_most (told_by h takes).past in
          omega (arith, senders, none, most);
    }
