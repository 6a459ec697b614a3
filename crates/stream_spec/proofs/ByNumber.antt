-- Chunks packet by packet: one more used packet, and all of them.
use Rattle.std.proofs.Common.{◌≡◌, ℕ, ◌+◌, ◌-◌, ◌<◌, ◌≤◌, Bool, true, false, cond, inl, inr, Option, Some, None, List, [], ◌∷◌, ◌++◌, refl, ap, sym, ◌∙◌, arith, append-nil, append_assoc}
use Rattle.std.specs.Prelude.{◌||◌, ◌==◌, filter, map, if◌then◌else◌}
use Rattle.std.proofs.lemmas.Bool.{eqb-true}
use Rattle.rtt_base.specs.declared.blocks.TextBlock.{TextBlock}
use Rattle.stream_spec.specs.Ready.{Chunk}
use Rattle.std.proofs.lemmas.List.Elements.{filter-append}
use Rattle.wire_spec.specs.Packets.{Arrival, back}
use Rattle.stream_spec.specs.Lists.{In}
use Rattle.stream_spec.specs.Numbering.{Numbered, numbered, number_it, used, first_number, has_number}
use Rattle.stream_spec.specs.Hearing.{heard_by, last_of, adds_marker, adds_texts, marker, piece, is_packet_of, is_marked, is_new, older_texts, text_list}
use Rattle.stream_spec.specs.Ready.{chunk, chunks_over, chunks, ready_of}
use Rattle.stream_spec.specs.ChunksBy.{stamped, used_ready, chunks_from, chunks_by, chunks_added}
use Rattle.stream_spec.proofs.Lists.{in_filter}
use Rattle.stream_spec.proofs.Taking.{Headed, used_headed, piece_same, has_more}
use Rattle.stream_spec.proofs.ChunkTexts.{over_texts}

-- ---- one more packet
abbrev at_time : Numbered → ℕ
at_time u = u.time

over_same : (place : ℕ) (f g : ℕ → Bool) (first : ℕ) (prev : Option Numbered) (us : List Numbered) (b : ℕ) → ((u : Numbered) → In u us → u.number ≤ b) → ((k : ℕ) → k < b → f k ≡ g k) → chunks_over at_time place f first prev us ≡ chunks_over at_time place g first prev us
over_same place f g first prev [] b l e = refl
over_same place f g first prev (u ∷ us) b l e = rw (piece_same f g first prev u b (l u (inl refl)) e, over_same place f g first (Some u) us b (λ v i. l v (inr i)) e) refl

over_last : (place : ℕ) (f : ℕ → Bool) (first : ℕ) (prev : Option Numbered) (us : List Numbered) (b : Numbered)
    → chunks_over at_time place f first prev (us ++ b ∷ []) ≡ chunks_over at_time place f first prev us ++ map (chunk place b.time) (piece f first (last_of prev us) b)
over_last place f first prev [] b = append-nil (map (chunk place b.time) (piece f first prev b))
over_last place f first prev (u ∷ us) b = ap (λ ts. map (chunk place u.time) (piece f first prev u) ++ ts) (over_last place f first (Some u) us b)
    ∙ sym (append_assoc (map (chunk place u.time) (piece f first prev u)) (chunks_over at_time place f first (Some u) us) (map (chunk place b.time) (piece f first (last_of (Some u) us) b)))

from_more : (place first s : ℕ) (us : List Numbered) (b : Numbered) → ((u : Numbered) → In u us → u.number < b.number)
    → chunks_from place first s (us ++ b ∷ []) ≡ chunks_from place first s us ++ (if b.packet.source == s then map (chunk place b.time) (piece (has_number us) first (last_of None (filter (is_packet_of s) us)) b) else [])
from_more place first s us b above = rw (filter-append (is_packet_of s) us (b ∷ [])) (go (b.packet.source == s))
  where
    same : chunks_over at_time place (has_number (us ++ b ∷ [])) first None (filter (is_packet_of s) us) ≡ chunks_from place first s us
    same = over_same place (has_number (us ++ b ∷ [])) (has_number us) first None (filter (is_packet_of s) us) b.number
        (λ u i. let l = above u (in_filter (is_packet_of s) u us i).0 in omega arith) (λ k l. has_more us b k l)

    go : (t : Bool) → chunks_over at_time place (has_number (us ++ b ∷ [])) first None (filter (is_packet_of s) us ++ (if t then b ∷ [] else []))
        ≡ chunks_from place first s us ++ (if t then map (chunk place b.time) (piece (has_number us) first (last_of None (filter (is_packet_of s) us)) b) else [])
    go true = over_last place (has_number (us ++ b ∷ [])) first None (filter (is_packet_of s) us) b
        ∙ (ap (λ ts. ts ++ map (chunk place b.time) (piece (has_number (us ++ b ∷ [])) first (last_of None (filter (is_packet_of s) us)) b)) same
        ∙ ap (λ ts. chunks_from place first s us ++ map (chunk place b.time) ts) (piece_same (has_number (us ++ b ∷ [])) (has_number us) first (last_of None (filter (is_packet_of s) us)) b b.number (omega arith) (λ k l. has_more us b k l)))
    go false = ap (chunks_over at_time place (has_number (us ++ b ∷ [])) first None) (append-nil (filter (is_packet_of s) us)) ∙ (same ∙ sym (append-nil (chunks_from place first s us)))

pub by_more : (place : ℕ) (us : List Numbered) (b : Numbered) (s : ℕ) → ((u : Numbered) → In u us → u.number < b.number) → chunks_by place (us ++ b ∷ []) s ≡ chunks_by place us s ++ chunks_added place us b s
by_more place [] b s above = go (b.packet.source == s)
  where
    z : b.number - (b.number + 1) ≡ 0
    z = omega arith

    same : (f g : ℕ → Bool) → piece f b.number None b ≡ piece g b.number None b
    same f g = rw z refl

    go : (t : Bool) → chunks_over at_time place (has_number (b ∷ [])) b.number None (cond t (b ∷ []) []) ≡ map (chunk place b.time) (if t then piece (has_number []) b.number None b else [])
    go true = append-nil (map (chunk place b.time) (piece (has_number (b ∷ [])) b.number None b)) ∙ ap (map (chunk place b.time)) (same (has_number (b ∷ [])) (has_number []))
    go false = refl
by_more place (u ∷ us) b s above =
    from_more place u.number s (u ∷ us) b above ∙ ap (λ ts. chunks_from place u.number s (u ∷ us) ++ ts) (go (b.packet.source == s) refl)
  where
    go : (t : Bool) → (b.packet.source == s) ≡ t
        → (if t then map (chunk place b.time) (piece (has_number (u ∷ us)) u.number (last_of None (filter (is_packet_of s) (u ∷ us))) b) else [])
        ≡ map (chunk place b.time) (if t then (if adds_marker (u ∷ us) b then marker ∷ [] else []) ++ adds_texts (u ∷ us) b else [])
    go true e = ap (λ n. map (chunk place b.time) (piece (has_number (u ∷ us)) u.number (last_of None (filter (is_packet_of n) (u ∷ us))) b)) (sym (eqb-true b.packet.source s e))
    go false e = refl

-- ---- all used packets
module _ (wait : ℕ) (past : List Numbered) where
  abbrev pub timestamps : List Numbered → List Numbered
  timestamps us = map (stamped wait past) us

  abbrev pub timestamp_prev : Option Numbered → Option Numbered
  timestamp_prev None = None
  timestamp_prev (Some u) = Some (stamped wait past u)

  older_stamped : (a : Numbered) (timestamp : ℕ) (bs : List TextBlock) → older_texts (Some (stamped wait past a)) timestamp bs ≡ older_texts (Some a) timestamp bs
  older_stamped a timestamp [] = refl
  older_stamped a timestamp (b ∷ bs) = ap (λ ts. (if is_new (Some a) (back timestamp b.offset) then text_list b.text else []) ++ ts) (older_stamped a timestamp bs)

  piece_stamped : (f : ℕ → Bool) (first : ℕ) (prev : Option Numbered) (u : Numbered) → piece f first (timestamp_prev prev) (stamped wait past u) ≡ piece f first prev u
  piece_stamped f first None u = none u.packet.older
    where
      none : (bs : List TextBlock) → piece f first None (stamped wait past u) ≡ piece f first None u
      none bs = refl
  piece_stamped f first (Some a) u =
      ap (λ ts. (if is_marked f first (Some a) u then marker ∷ [] else []) ++ (ts ++ text_list u.packet.primary)) (older_stamped a u.packet.timestamp u.packet.older)

  over_stamped : (place : ℕ) (f : ℕ → Bool) (first : ℕ) (prev : Option Numbered) (us : List Numbered) → chunks_over at_time place f first (timestamp_prev prev) (timestamps us) ≡ chunks_over (ready_of wait past) place f first prev us
  over_stamped place f first prev [] = refl
  over_stamped place f first prev (u ∷ us) = rw (piece_stamped f first prev u) (ap (λ cs. map (chunk place (ready_of wait past u)) (piece f first prev u) ++ cs) (over_stamped place f first (Some u) us))

  pub filter_stamped : (s : ℕ) (us : List Numbered) → filter (is_packet_of s) (timestamps us) ≡ timestamps (filter (is_packet_of s) us)
  filter_stamped s [] = refl
  filter_stamped s (u ∷ us) = go (is_packet_of s u) (filter_stamped s us)
    where
      go : (b : Bool) → filter (is_packet_of s) (timestamps us) ≡ timestamps (filter (is_packet_of s) us)
          → cond b (stamped wait past u ∷ filter (is_packet_of s) (timestamps us)) (filter (is_packet_of s) (timestamps us)) ≡ timestamps (cond b (u ∷ filter (is_packet_of s) us) (filter (is_packet_of s) us))
      go true e = ap (λ l. stamped wait past u ∷ l) e
      go false e = e

  pub has_stamped : (us : List Numbered) (k : ℕ) → has_number (timestamps us) k ≡ has_number us k
  has_stamped [] k = refl
  has_stamped (u ∷ us) k = ap (λ b. (u.number == k) || b) (has_stamped us k)

  from_stamped : (place first s : ℕ) (us : List Numbered) → chunks_over (ready_of wait past) place (has_number us) first None (filter (is_packet_of s) us) ≡ chunks_from place first s (timestamps us)
  from_stamped place first s us =
      sym (over_stamped place (has_number us) first None (filter (is_packet_of s) us))
      ∙ (ap (chunks_over at_time place (has_number us) first None) (sym (filter_stamped s us))
      ∙ ap (λ f. chunks_over at_time place f first None (filter (is_packet_of s) (timestamps us))) (λ ι k. sym (has_stamped us k) ι))

  by_stamped : (place first s : ℕ) (us : List Numbered) → Headed first us → chunks_over (ready_of wait past) place (has_number us) first None (filter (is_packet_of s) us) ≡ chunks_by place (timestamps us) s
  by_stamped place first s [] h = absurd h
  by_stamped place first s (u ∷ us) h = ap (λ m. chunks_over (ready_of wait past) place (has_number (u ∷ us)) m None (filter (is_packet_of s) (u ∷ us))) (sym h) ∙ from_stamped place u.number s (u ∷ us)

pub all_by : (wait place : ℕ) (a : List Arrival) (s : ℕ) → chunks wait place a s ≡ chunks_by place (used_ready wait a) s
all_by wait place [] s = refl
all_by wait place (a ∷ past) s = by_stamped wait (numbered (a ∷ past)) place (first_number 0 (numbered (a ∷ past))) s (used wait (numbered (a ∷ past))) (used_headed wait (number_it (numbered past) a) (numbered past))

-- ---- their texts are heard
pub by_texts : (place : ℕ) (us : List Numbered) (s : ℕ) → map (λ (c : Chunk). c.text) (chunks_by place us s) ≡ heard_by us s
by_texts place [] s = refl
by_texts place (u ∷ us) s = over_texts at_time place (has_number (u ∷ us)) u.number None (filter (is_packet_of s) (u ∷ us))
