-- Packet by packet, as many markers are put as are heard.
use Rattle.std.proofs.Common.{◌≡◌, ℕ, ◌+◌, ◌<◌, Bool, true, false, cond, inl, inr, Option, Some, None, List, [], ◌∷◌, ◌++◌, refl, ap, subst, sym, ◌∙◌, arith, append_assoc}
use Rattle.std.specs.Prelude.{filter, length, ◌&&◌, ◌||◌, ◌==◌}
use Rattle.std.proofs.lemmas.Bool.{eqb-true, ne_eqb}
use Rattle.std.proofs.lemmas.List.Elements.{filter-append}
use Rattle.wire_spec.specs.Packets.{Arrival}
use Rattle.stream_spec.specs.Lists.{In}
use Rattle.stream_spec.specs.Numbering.{Numbered, RisingNumbers, numbered, number_it, first_number, used, has_number}
use Rattle.stream_spec.specs.Hearing.{is_marked, piece, is_packet_of, first_number_of, last_of, before_it, adds_marker}
use Rattle.stream_spec.specs.ChunksBy.{stamped, used_ready}
use Rattle.stream_spec.proofs.Rising.{used_rises}
use Rattle.stream_spec.proofs.ReadyBy.{rising_stamped}
use Rattle.stream_spec.proofs.Taking.{Headed, piece_same, used_headed}
use Rattle.receiver.specs.Each.{one_if, markers_from, markers_by}
use Rattle.view_spec.specs.Markers.{markers_over, marker_count}
use Rattle.view_spec.proofs.Markers.{piece_length}
use Rattle.stream_spec.proofs.ByNumber.{timestamps, timestamp_prev, filter_stamped, has_stamped}

-- ---- packet by packet
abbrev first_from : ℕ → List Numbered → ℕ
first_from n [] = n
first_from n (u ∷ us) = u.number

first_same : (before : List Numbered) (u : Numbered) (us : List Numbered) → first_number_of before u ≡ first_from 0 (before ++ u ∷ us)
first_same [] u us = refl
first_same (b ∷ before) u us = refl

tail_rises : (before us : List Numbered) → RisingNumbers (before ++ us) → RisingNumbers us
tail_rises [] us r = r
tail_rises (b ∷ before) us r = tail_rises before us r.1

none_below : (us : List Numbered) (k : ℕ) → ((v : Numbered) → In v us → k < v.number) → has_number us k ≡ false
none_below [] k f = refl
none_below (u ∷ us) k f = let l = f u (inl refl) in rw (ne_eqb u.number k (omega arith), none_below us k (λ v i. f v (inr i))) refl

numbers_before : (before us : List Numbered) (k : ℕ) → ((v : Numbered) → In v us → k < v.number) → has_number (before ++ us) k ≡ has_number before k
numbers_before [] us k f = none_below us k f
numbers_before (b ∷ before) us k f = ap (λ t. (b.number == k) || t) (numbers_before before us k f)

-- what is missing behind a packet makes no difference to its marker
marked_same : (f g : ℕ → Bool) (first : ℕ) (prev : Option Numbered) (u : Numbered) → ((k : ℕ) → k < u.number → f k ≡ g k) → one_if (is_marked f first prev u) ≡ one_if (is_marked g first prev u)
marked_same f g first prev u e =
    let same : length (piece f first prev u) ≡ length (piece g first prev u) = ap length (piece_same f g first prev u u.number (omega arith) e) in
    omega (arith, same, piece_length f first prev u, piece_length g first prev u)

last_append : (prev : Option Numbered) (xs ys : List Numbered) → last_of prev (xs ++ ys) ≡ last_of (last_of prev xs) ys
last_append prev [] ys = refl
last_append prev (x ∷ xs) ys = last_append (Some x) xs ys

from_over : (s : ℕ) (before us : List Numbered) → RisingNumbers (before ++ us) → markers_from before us s ≡ markers_over (has_number (before ++ us)) (first_from 0 (before ++ us)) (last_of None (filter (is_packet_of s) before)) (filter (is_packet_of s) us)
from_over s before [] r = refl
from_over s before (u ∷ us) r =
    let all : (before ++ u ∷ []) ++ us ≡ before ++ u ∷ us = append_assoc before (u ∷ []) us in
    let next = from_over s (before ++ u ∷ []) us (subst RisingNumbers (sym all) r) in
    let next' = subst (λ (vs : List Numbered). markers_from (before ++ u ∷ []) us s ≡ markers_over (has_number vs) (first_from 0 vs) (last_of None (filter (is_packet_of s) (before ++ u ∷ []))) (filter (is_packet_of s) us)) all next in
    let last : last_of None (filter (is_packet_of s) (before ++ u ∷ [])) ≡ last_of (last_of None (filter (is_packet_of s) before)) (filter (is_packet_of s) (u ∷ [])) = ap (last_of None) (filter-append (is_packet_of s) before (u ∷ [])) ∙ last_append None (filter (is_packet_of s) before) (filter (is_packet_of s) (u ∷ [])) in
    let next'' = next' ∙ ap (λ (q : Option Numbered). markers_over (has_number (before ++ u ∷ us)) (first_from 0 (before ++ u ∷ us)) q (filter (is_packet_of s) us)) last in
    go (u.packet.source == s) refl next''
  where
    f : ℕ → Bool
    f = has_number (before ++ u ∷ us)

    above : (k : ℕ) → k < u.number → (v : Numbered) → In v (u ∷ us) → k < v.number
    above k l v (inl e) = omega (arith, ap (λ (w : Numbered). w.number) e)
    above k l v (inr i) = let m = (tail_rises before (u ∷ us) r).0 v i in omega arith

    same : u.packet.source ≡ s → one_if (adds_marker before u) ≡ one_if (is_marked (has_number (before ++ u ∷ us)) (first_from 0 (before ++ u ∷ us)) (last_of None (filter (is_packet_of s) before)) u)
    same e =
        marked_same (has_number before) (has_number (before ++ u ∷ us)) (first_number_of before u) (before_it before u) u (λ k l. sym (numbers_before before (u ∷ us) k (above k l)))
        ∙ (ap (λ n. one_if (is_marked (has_number (before ++ u ∷ us)) n (before_it before u) u)) (first_same before u us)
        ∙ ap (λ n. one_if (is_marked (has_number (before ++ u ∷ us)) (first_from 0 (before ++ u ∷ us)) (last_of None (filter (is_packet_of n) before)) u)) e)

    go : (t : Bool) → (u.packet.source == s) ≡ t
        → markers_from (before ++ u ∷ []) us s ≡ markers_over (has_number (before ++ u ∷ us)) (first_from 0 (before ++ u ∷ us)) (last_of (last_of None (filter (is_packet_of s) before)) (cond t (u ∷ []) [])) (filter (is_packet_of s) us)
        → one_if (t && adds_marker before u) + markers_from (before ++ u ∷ []) us s
        ≡ markers_over (has_number (before ++ u ∷ us)) (first_from 0 (before ++ u ∷ us)) (last_of None (filter (is_packet_of s) before)) (cond t (u ∷ filter (is_packet_of s) us) (filter (is_packet_of s) us))
    go true e n = omega (arith, n, same (eqb-true u.packet.source s e))
    go false e n = omega (arith, n)

-- ---- used packets, with the moments at which they are ready
module _ (wait : ℕ) (past : List Numbered) where
  marked_stamped : (f : ℕ → Bool) (first : ℕ) (prev : Option Numbered) (u : Numbered) → is_marked f first (timestamp_prev wait past prev) (stamped wait past u) ≡ is_marked f first prev u
  marked_stamped f first None u = refl
  marked_stamped f first (Some a) u = refl

  over_stamped : (f : ℕ → Bool) (first : ℕ) (prev : Option Numbered) (us : List Numbered) → markers_over f first (timestamp_prev wait past prev) (timestamps wait past us) ≡ markers_over f first prev us
  over_stamped f first prev [] = refl
  over_stamped f first prev (u ∷ us) = let one = ap one_if (marked_stamped f first prev u) in omega (arith, one, over_stamped f first (Some u) us)

  by_stamped : (first s : ℕ) (us : List Numbered) → Headed first us → RisingNumbers us → markers_by (timestamps wait past us) s ≡ markers_over (has_number us) first None (filter (is_packet_of s) us)
  by_stamped first s [] h r = absurd h
  by_stamped first s (u ∷ us) h r =
      from_over s [] (timestamps wait past (u ∷ us)) (rising_stamped wait past (u ∷ us) r)
      ∙ (ap (markers_over (has_number (timestamps wait past (u ∷ us))) u.number None) (filter_stamped wait past s (u ∷ us))
      ∙ (ap (λ f. markers_over f u.number None (timestamps wait past (filter (is_packet_of s) (u ∷ us)))) (λ ι k. has_stamped wait past (u ∷ us) k ι)
      ∙ (over_stamped (has_number (u ∷ us)) u.number None (filter (is_packet_of s) (u ∷ us)) ∙ ap (λ n. markers_over (has_number (u ∷ us)) n None (filter (is_packet_of s) (u ∷ us))) h)))

pub markers_are : (wait : ℕ) (a : List Arrival) (s : ℕ) → markers_by (used_ready wait a) s ≡ marker_count wait a s
markers_are wait [] s = refl
markers_are wait (a ∷ past) s =
    by_stamped wait (numbered (a ∷ past)) (first_number 0 (numbered (a ∷ past))) s (used wait (numbered (a ∷ past)))
    (used_headed wait (number_it (numbered past) a) (numbered past)) (used_rises wait (numbered (a ∷ past)))
