-- The definitions computed on examples: packets as they stand on the wire, what is heard of them, and what the places
-- that came tell.
use Rattle.std.proofs.Common.{◌≡◌, ℕ, suc, ◌+◌, ◌^◌, ◌≤◌, ◌<◌, Bool, true, false, not, inl, inr, List, [], ◌∷◌, length, take, refl, ap, sym, ◌∙◌, arith, lit≤, lit<}
use Rattle.std.specs.Prelude.{map, zero, ◌==◌, ◌&&◌, ◌||◌, nat_lt, nat_le, if◌then◌else◌, IsUtf8}
use Rattle.std.specs.Str.{IsAscii}
use Rattle.std.proofs.lemmas.Str.{IsUtf8-from_ascii}
use Rattle.std.proofs.lemmas.Bool.{cases_Bool, ltb-true, leb-true, and_parts, or_cases, true≢false, not-true}
use Rattle.std.specs.List.{list_any}
use Rattle.rtt_base.specs.declared.blocks.TextBlock.{TextBlock}
use Rattle.wire_spec.specs.Packets.{Packet, Arrival, has_text}
use Rattle.stream_spec.specs.Lists.{In}
use Rattle.stream_spec.specs.Numbering.{Numbered, numbered, in_time, used}
use Rattle.stream_spec.specs.Hearing.{heard, marker}
use Rattle.stream_spec.specs.Ready.{Chunk, chunks, chunk}
use Rattle.stream_spec.specs.History.{History, Placed, Lawful, Come, IsNear, placed, places}
use Rattle.stream_spec.specs.Kept.{kept, texts}
use Rattle.stream_spec.specs.Carries.{Carries}
use Rattle.stream_spec.specs.Own.{Closed, Sent, Stream, own_packet, sent_history, packet_after, history_of, sent_of, MaySend, Sendable}
use Rattle.stream_spec.proofs.Walks.{l1}
use Rattle.stream_spec.proofs.OwnPackets.{own_come}
use Rattle.stream_spec.proofs.Sent.{sent_lawful, sent_own}
use Rattle.stream_spec.proofs.Closing.{sent_closed}

abbrev pub block : ℕ → List ℕ → TextBlock
block o t = record { offset = o; text = t }

abbrev A : List ℕ
A = 65 ∷ []

abbrev B : List ℕ
B = 66 ∷ []

abbrev C : List ℕ
C = 67 ∷ []

abbrev D : List ℕ
D = 68 ∷ []

abbrev pub at : ℕ → Packet → Arrival
at t p = record { time = t; packet = p }

-- a packet of the stream 1001
abbrev pub red : Bool → ℕ → ℕ → List TextBlock → List ℕ → Packet
red marker_bit seq timestamp older primary = record { marker_bit = marker_bit; seq = seq; timestamp = timestamp; ssrc = 1001; source = 1001; older = older; primary = primary }

-- A, B, C, D typed at 0, 300, 600, 900, the first sequence number being n
abbrev p0 : ℕ → Packet
p0 n = red true n 0 (block 16383 [] ∷ block 16383 [] ∷ []) A

abbrev p1 : ℕ → Packet
p1 n = red false n 300 (block 16383 [] ∷ block 300 A ∷ []) B

abbrev p2 : ℕ → Packet
p2 n = red false n 600 (block 600 A ∷ block 300 B ∷ []) C

abbrev p3 : ℕ → Packet
p3 n = red false n 900 (block 600 B ∷ block 300 C ∷ []) D

abbrev p4 : ℕ → Packet
p4 n = red false n 1200 (block 600 C ∷ block 300 D ∷ []) []

abbrev p5 : ℕ → Packet
p5 n = red false n 1500 (block 600 D ∷ block 300 [] ∷ []) []

two_lost : heard 1000 (at 1500 (p5 5) ∷ at 1200 (p4 4) ∷ at 900 (p3 3) ∷ at 0 (p0 0) ∷ []) 1001 ≡ A ∷ B ∷ C ∷ D ∷ []
two_lost = refl

three_lost : heard 1000 (at 1500 (p5 5) ∷ at 1200 (p4 4) ∷ at 0 (p0 0) ∷ []) 1001 ≡ A ∷ marker ∷ C ∷ D ∷ []
three_lost = refl

end_lost : heard 1000 (at 600 (p2 2) ∷ at 300 (p1 1) ∷ at 0 (p0 0) ∷ []) 1001 ≡ A ∷ B ∷ C ∷ []
end_lost = refl

abbrev whole : List Arrival
whole = at 1500 (p5 3) ∷ at 1200 (p4 2) ∷ at 900 (p3 1) ∷ at 600 (p2 0) ∷ at 300 (p1 65535) ∷ at 0 (p0 65534) ∷ []

numbers_wrap : heard 1000 whole 1001 ≡ A ∷ B ∷ C ∷ D ∷ []
numbers_wrap = refl

five_copies : length (used 1000 (numbered (at 0 (p0 0) ∷ at 0 (p0 0) ∷ at 0 (p0 0) ∷ at 0 (p0 0) ∷ at 0 (p0 0) ∷ []))) ≡ 1
five_copies = refl

-- two come in reversed order, one of them again
turned : heard 1000 (at 1899 (p1 1) ∷ at 1300 (p1 1) ∷ at 1200 (p2 2) ∷ at 0 (p0 0) ∷ []) 1001 ≡ A ∷ B ∷ C ∷ []
turned = refl

-- ---- packets without redundant blocks
abbrev plain : ℕ → ℕ → List ℕ → Packet
plain seq timestamp text = red false seq timestamp [] text

-- the number between two that came is given up 1000 after the later one
abbrev late_by : ℕ → List Arrival
late_by t = at t (plain 8 300 B) ∷ at 300 (plain 9 600 C) ∷ at 0 (plain 7 0 A) ∷ []

late_by_none : heard 1000 (late_by 1299) 1001 ≡ A ∷ B ∷ C ∷ []
late_by_none = refl

late_by_one : heard 1000 (late_by 1300) 1001 ≡ A ∷ marker ∷ C ∷ []
late_by_one = refl

-- the numbers 9, 10, .. behind 7, one each millisecond, newest first
abbrev later : ℕ → List Arrival
later zero = at 0 (plain 7 0 A) ∷ []
later (suc k) = at (suc k) (plain (k + 9) (k + 2) C) ∷ later k

-- 8 after 64 greater numbers, and after 65
abbrev eight : ℕ → Numbered
eight t = record { time = t; number = 65544; packet = plain 8 1 B }

sixty_four_greater : in_time 1000 (eight 65) (numbered (later 64)) ≡ true
sixty_four_greater = refl

sixty_five_greater : in_time 1000 (eight 66) (numbered (later 65)) ≡ false
sixty_five_greater = refl

number_before_first : heard 1000 (at 10 (plain 40000 10 B) ∷ at 0 (plain 0 0 A) ∷ []) 1001 ≡ A ∷ []
number_before_first = refl

tie_is_lower : heard 1000 (at 10 (plain 32768 10 B) ∷ at 0 (plain 0 0 A) ∷ []) 1001 ≡ A ∷ []
tie_is_lower = refl

largest_jump : heard 1000 (at 10 (plain 32767 10 B) ∷ at 0 (plain 0 0 A) ∷ []) 1001 ≡ A ∷ marker ∷ B ∷ []
largest_jump = refl

-- the records say 5000, 100 and 0
time_never_falls : heard 1000 (at 5000 (plain 8 300 B) ∷ at 5000 (plain 9 600 C) ∷ at 5000 (plain 7 0 A) ∷ []) 1001 ≡ A ∷ B ∷ C ∷ []
time_never_falls = refl

-- ---- when a text may be taken
ready_with_the_gap : chunks 1000 3 (at 900 (p3 3) ∷ at 0 (p0 0) ∷ []) 1001 ≡ chunk 3 0 A ∷ chunk 3 1900 B ∷ chunk 3 1900 C ∷ chunk 3 1900 D ∷ []
ready_with_the_gap = refl

-- just in time, and given up
ready_at_1299 : chunks 1000 3 (late_by 1299) 1001 ≡ chunk 3 0 A ∷ chunk 3 1299 B ∷ chunk 3 1299 C ∷ []
ready_at_1299 = refl

ready_at_1300 : chunks 1000 3 (late_by 1300) 1001 ≡ chunk 3 0 A ∷ chunk 3 1300 marker ∷ chunk 3 1300 C ∷ []
ready_at_1300 = refl

-- the number 8 is missing: 64 greater ones wait for it, and with the 65th all are ready
abbrev ready_times : ℕ → ℕ → List Chunk
ready_times zero t = []
ready_times (suc k) t = chunk 3 t C ∷ ready_times k t

ready_after_sixty_four : chunks 1000 3 (later 64) 1001 ≡ chunk 3 0 A ∷ chunk 3 1001 marker ∷ ready_times 64 1001
ready_after_sixty_four = refl

ready_after_sixty_five : chunks 1000 3 (later 65) 1001 ≡ chunk 3 0 A ∷ chunk 3 65 marker ∷ ready_times 65 65
ready_after_sixty_five = refl

-- ---- what is sent
abbrev c : Stream
c = record { ssrc = 1001; first = 0; base = 0; generations = 2 }

abbrev sent : ℕ → List ℕ → Sent
sent m t = record { source = 1001; media = m; text = t }

abbrev six : List Sent
six = sent 1500 [] ∷ sent 1200 [] ∷ sent 900 D ∷ sent 600 C ∷ sent 300 B ∷ sent 0 A ∷ []

own_packets : map (own_packet (sent_history c six)) (placed (sent_history c six)) ≡ p0 0 ∷ p1 1 ∷ p2 2 ∷ p3 3 ∷ p4 4 ∷ p5 5 ∷ []
own_packets = refl

last_packet : packet_after c (sent 1200 [] ∷ sent 900 D ∷ sent 600 C ∷ sent 300 B ∷ sent 0 A ∷ []) (sent 1500 []) ≡ p5 5
last_packet = refl

-- A, B and then nothing, in packets that repeat none, one or three
abbrev with_generations : ℕ → Stream
with_generations g = record { ssrc = 1001; first = 0; base = 0; generations = g }

abbrev three_sent : List Sent
three_sent = sent 600 [] ∷ sent 300 B ∷ sent 0 A ∷ []

abbrev packets_of : ℕ → List Packet
packets_of g = map (own_packet (sent_history (with_generations g) three_sent)) (placed (sent_history (with_generations g) three_sent))

no_generation : packets_of 0 ≡ red true 0 0 [] A ∷ red false 1 300 [] B ∷ red false 2 600 [] [] ∷ []
no_generation = refl

one_generation : packets_of 1 ≡ red true 0 0 (block 16383 [] ∷ []) A ∷ red false 1 300 (block 300 A ∷ []) B ∷ red false 2 600 (block 300 B ∷ []) [] ∷ []
one_generation = refl

three_generations : packets_of 3 ≡
    red true 0 0 (block 16383 [] ∷ block 16383 [] ∷ block 16383 [] ∷ []) A
    ∷ red false 1 300 (block 16383 [] ∷ block 16383 [] ∷ block 300 A ∷ []) B
    ∷ red false 2 600 (block 16383 [] ∷ block 600 A ∷ block 300 B ∷ []) [] ∷ []
three_generations = refl

read_back : history_of (p0 0 ∷ p1 1 ∷ p2 2 ∷ p3 3 ∷ p4 4 ∷ p5 5 ∷ []) 0 ≡ sent_history c six
read_back = refl

kept_three_lost : texts (kept (sent_history c six) (places 1000 (sent_history c six) (at 1500 (p5 5) ∷ at 1200 (p4 4) ∷ at 0 (p0 0) ∷ [])) 1001) ≡ A ∷ marker ∷ C ∷ D ∷ []
kept_three_lost = refl

-- ---- three sources in turn, each with A, B, C, D typed at 0, 300, 600, 900, in 18 packets 100 apart
abbrev mixer : Stream
mixer = record { ssrc = 9000; first = 100; base = 5000; generations = 2 }

abbrev by : ℕ → ℕ → List ℕ → Sent
by s m t = record { source = s; media = m; text = t }

abbrev round : ℕ → List ℕ → List Sent → List Sent
round m t past = by 1003 (m + 200) t ∷ by 1002 (m + 100) t ∷ by 1001 m t ∷ past

abbrev eighteen : History
eighteen = sent_history mixer (round 1500 [] (round 1200 [] (round 900 D (round 600 C (round 300 B (round 0 A []))))))

-- the packets come as they were sent, but for those at the lost places; newest first
abbrev arrive : List ℕ → List Placed → List Arrival → List Arrival
arrive lost [] past = past
arrive lost (x ∷ xs) past = arrive lost xs (if list_any (λ k. k == x.place) lost then past else at x.media (own_packet eighteen x) ∷ past)

abbrev without : List ℕ → ℕ → List (List ℕ)
without lost s = heard 1000 (arrive lost (placed eighteen) []) s

abbrev all_four : List (List ℕ)
all_four = A ∷ B ∷ C ∷ D ∷ []

round_of_three_a : without (3 ∷ 4 ∷ 5 ∷ []) 1001 ≡ all_four
round_of_three_a = refl

round_of_three_b : without (3 ∷ 4 ∷ 5 ∷ []) 1002 ≡ all_four
round_of_three_b = refl

round_of_three_c : without (3 ∷ 4 ∷ 5 ∷ []) 1003 ≡ all_four
round_of_three_c = refl

-- these markers are needless: no text is missing
six_lost_a : without (3 ∷ 4 ∷ 5 ∷ 6 ∷ 7 ∷ 8 ∷ []) 1001 ≡ A ∷ marker ∷ B ∷ C ∷ D ∷ []
six_lost_a = refl

six_lost_b : without (3 ∷ 4 ∷ 5 ∷ 6 ∷ 7 ∷ 8 ∷ []) 1002 ≡ A ∷ marker ∷ B ∷ C ∷ D ∷ []
six_lost_b = refl

six_lost_c : without (3 ∷ 4 ∷ 5 ∷ 6 ∷ 7 ∷ 8 ∷ []) 1003 ≡ A ∷ marker ∷ B ∷ C ∷ D ∷ []
six_lost_c = refl

scattered_lost_a : without (1 ∷ 2 ∷ 4 ∷ []) 1001 ≡ all_four
scattered_lost_a = refl

scattered_lost_b : without (1 ∷ 2 ∷ 4 ∷ []) 1002 ≡ marker ∷ all_four
scattered_lost_b = refl

scattered_lost_c : without (1 ∷ 2 ∷ 4 ∷ []) 1003 ≡ marker ∷ all_four
scattered_lost_c = refl

-- ---- all texts of 66 arrivals
abbrev times : ℕ → List (List ℕ)
times zero = []
times (suc k) = C ∷ times k

heard_after_sixty_four : heard 1000 (at 65 (plain 8 1 B) ∷ later 64) 1001 ≡ A ∷ B ∷ times 64
heard_after_sixty_four = refl

heard_after_sixty_five : heard 1000 (at 66 (plain 8 1 B) ∷ later 65) 1001 ≡ A ∷ marker ∷ times 65
heard_after_sixty_five = refl

-- ---- the premises of the laws are met by what a sender makes
every : {X : Type 0} → (X → Bool) → List X → Bool
every p [] = true
every p (x ∷ xs) = p x && every p xs

every_in : {X : Type 0} (p : X → Bool) (xs : List X) → every p xs ≡ true → (x : X) → In x xs → p x ≡ true
unfolding every
every_in p [] e x i = absurd i
every_in p (y ∷ xs) e x (inl q) = ap p q ∙ (and_parts (p y) (every p xs) e).0
every_in p (y ∷ xs) e x (inr i) = every_in p xs (and_parts (p y) (every p xs) e).1 x i

abbrev is_later : Sent → Sent → Bool
is_later e x = nat_lt x.media e.media && nat_lt e.media (x.media + 2 ^ 31)

abbrev is_close : Sent → Sent → Bool
is_close e x = not (has_text x.text) || nat_le e.media (x.media + 16383)

may : (s : Stream) (past : List Sent) (e : Sent) → every (is_later e) past ≡ true → every (is_close e) (take s.generations (sent_of e.source past)) ≡ true → (length e.text ≤ 1023) × IsUtf8 e.text → MaySend s past e
may s past e l n t = record {
  later = λ x i. let a = and_parts (nat_lt x.media e.media) (nat_lt e.media (x.media + 2 ^ 31)) (every_in (is_later e) past l x i) in (ltb-true x.media e.media a.0, ltb-true e.media (x.media + 2 ^ 31) a.1);
  near = λ x i h. elim (or_cases (not (has_text x.text)) (nat_le e.media (x.media + 16383)) (every_in (is_close e) (take s.generations (sent_of e.source past)) n x i)) [
    | inl f ↦ absurd (true≢false (sym h ∙ not-true (has_text x.text) f))
    | inr g ↦ leb-true e.media (x.media + 16383) g
  ];
  text = t;
}

ascii : (n : ℕ) → n < 128 → IsAscii (n ∷ [])
ascii n l zero = l
ascii n l (suc i) = lit< tt

letter : (n : ℕ) → n < 128 → (length (n ∷ []) ≤ 1023) × IsUtf8 (n ∷ [])
letter n l = (lit≤ tt, IsUtf8-from_ascii (n ∷ []) (ascii n l))

silence : let none : List ℕ = [] in (length none ≤ 1023) × IsUtf8 none
silence = (lit≤ tt, IsUtf8-from_ascii [] (λ i. lit< tt))

six_sendable : Sendable c six
unfolding every
six_sendable = (
  may c (sent 1200 [] ∷ sent 900 D ∷ sent 600 C ∷ sent 300 B ∷ sent 0 A ∷ []) (sent 1500 []) refl refl silence,
  (
    may c (sent 900 D ∷ sent 600 C ∷ sent 300 B ∷ sent 0 A ∷ []) (sent 1200 []) refl refl silence,
    (
      may c (sent 600 C ∷ sent 300 B ∷ sent 0 A ∷ []) (sent 900 D) refl refl (letter 68 (lit< tt)),
      (
        may c (sent 300 B ∷ sent 0 A ∷ []) (sent 600 C) refl refl (letter 67 (lit< tt)),
        (
          may c (sent 0 A ∷ []) (sent 300 B) refl refl (letter 66 (lit< tt)),
          (may c [] (sent 0 A) refl refl (letter 65 (lit< tt)), tt),
        ),
      ),
    ),
  ),
)

six_lawful : Lawful (sent_history c six)
six_lawful = sent_lawful c six (lit≤ tt) six_sendable

-- the entries at the places 0, 4 and 5
abbrev zeroth : Placed
zeroth = record { place = 0; index = 0; source = 1001; media = 0; text = A; generations = 2; reach = 16383 }

abbrev fourth : Placed
fourth = record { place = 4; index = 4; source = 1001; media = 1200; text = []; generations = 2; reach = 600 }

three_come : Come (sent_history c six) (at 1200 (p4 4) ∷ at 0 (p0 0) ∷ [])
three_come = own_come 2 (sent_history c six) six_lawful (sent_own c six) ((1200, fourth) ∷ (0, zeroth) ∷ []) (inr (inr (inr (inr (inl refl)))), ((lit≤ tt, lit≤ tt), (inl refl, (tt, tt))))

-- what is heard is what is kept, as the law says
law_applies : heard 1000 (at 1200 (p4 4) ∷ at 0 (p0 0) ∷ []) 1001 ≡ texts (kept (sent_history c six) (places 1000 (sent_history c six) (at 1200 (p4 4) ∷ at 0 (p0 0) ∷ [])) 1001)
law_applies = l1 1000 (sent_history c six) six_lawful (at 1200 (p4 4) ∷ at 0 (p0 0) ∷ []) three_come 1001

-- each text was repeated twice
six_closed : Closed 2 (sent_history c six)
six_closed = sent_closed c six (λ z i. elim (cases_Bool (1001 == z.source)) [ inl t ↦ rw t refl | inr f ↦ rw f refl ])

-- B was repeated once
abbrev repeated_once : History
repeated_once = sent_history c (sent 600 [] ∷ sent 300 B ∷ sent 0 A ∷ [])

not_closed : Closed 2 repeated_once → ⊥
not_closed f = absurd (below (f (record { place = 1; index = 1; source = 1001; media = 300; text = B; generations = 2; reach = 16383 }) (inr (inl refl)) refl))
  where
    below : 3 < 3 → ⊥
    below l = omega arith

-- a place is near the first at 32767, and is not at 32768
near_at_32767 : IsNear (sent_history c six) 32767 (at 0 (p0 0) ∷ [])
near_at_32767 = (lit≤ tt, lit≤ tt)

far_at_32768 : IsNear (sent_history c six) 32768 (at 0 (p0 0) ∷ []) → ⊥
far_at_32768 n = beyond n.0
  where
    beyond : 32768 ≤ 32767 → ⊥
    beyond l = omega arith

-- two texts are carried by one entry
two_carried : Carries (sent_history c (sent 300 [] ∷ sent 0 (65 ∷ 66 ∷ []) ∷ [])) 1001 (A ∷ B ∷ [])
two_carried = (A ∷ B ∷ [], [], refl, refl, lit≤ tt, refl)
