-- The lengths of the redundant blocks of a packet where it lies, from the last to the first.
use Rattle.std.proofs.Common.{◌≡◌, ℕ, zero, suc, ◌+◌, ◌*◌, ◌<◌, ◌≤◌, List, [], ◌∷◌, ◌++◌, flat_map, length, length-drop, take, drop, refl, ap, sym, ◌∙◌, arith, append_assoc, codes, decimal}
use Rattle.std.proofs.lemmas.List.{append-nil, length-take, drop-drop}
use Rattle.rtt_base.specs.declared.blocks.TextBlock.{TextBlock}
use Rattle.wire_spec.specs.declared.headers.RedHeader.{RedHeader}
use Rattle.wire_spec.specs.Packets.{Packet, primary, blocks_of}
use Rattle.wire_spec.specs.Red.{header_of, older_size}
use Rattle.rtp_text.specs.declared.views.TextView.{TextView}
use Rattle.rtp_text.specs.Reading.{headers_of}
use Rattle.rtp_text.specs.Views.{older_at, older_in, blocks_in, IsView}
use Rattle.command_spec.specs.Listing.{block_length, packet_line}
use Rattle.recording_views.specs.declared.records.Head.{Head}
use Rattle.recording_views.specs.Lines.{head_line}
use Rattle.rtp_text.proofs.Plain.{older_count}

-- the lengths from one place on: that of the block there, and those of the blocks behind it
lengths_from : (i n : ℕ) (heads octets : List ℕ) (last : List TextBlock) → i < n → older_size (headers_of n heads) ≤ length octets
    → flat_map block_length (drop i (older_at (headers_of n heads) octets ++ last))
    ≡ (codes " " ++ decimal (header_of (drop (4 * i) heads)).size) ++ flat_map block_length (drop (i + 1) (older_at (headers_of n heads) octets ++ last))
lengths_from i zero heads octets last l fits = absurd (omega arith)
lengths_from zero (suc n) heads octets last l fits =
    let h = header_of heads in
    let size : length (take h.size octets) ≡ h.size = length-take h.size octets ∙ omega arith in
    rw size refl
lengths_from (suc i) (suc n) heads octets last l fits =
    let h = header_of heads in
    let next : suc i + 1 ≡ suc (i + 1) = omega arith in
    let at : 4 + 4 * i ≡ 4 * suc i = omega arith in
    let rest : older_size (headers_of n (drop 4 heads)) ≤ length (drop h.size octets) = omega (arith, length-drop h.size octets) in
    rw (next, ← at, ← drop-drop (4 * i) 4 heads) (lengths_from i n (drop 4 heads) (drop h.size octets) last (omega arith) rest)

drop_front : (xs ys : List TextBlock) (n : ℕ) → length xs ≡ n → drop n (xs ++ ys) ≡ ys
drop_front [] ys n e = rw (← e) refl
drop_front (x ∷ xs) ys n e = rw (← e) (drop_front xs ys (length xs) refl)

-- the primary text
pub last_length : (v : TextView) → flat_map block_length (drop v.count (blocks_in v)) ≡ codes " " ++ decimal (length v.primary.now)
last_length v = rw (drop_front (older_in v) (primary v.primary.now ∷ []) v.count (older_count v.count v.headers.now v.older.now)) (append-nil (codes " " ++ decimal (length v.primary.now)))

-- one more redundant text
pub one_length : (v : TextView) (left before : ℕ) (h : RedHeader) (line more : List ℕ) → IsView v → left < v.count → left + 1 ≡ before → h ≡ header_of (drop (4 * left) v.headers.now)
    → line ≡ flat_map block_length (drop before (blocks_in v)) ++ more → codes " " ++ (decimal h.size ++ line) ≡ flat_map block_length (drop left (blocks_in v)) ++ more
one_length v left before h line more is l e at so_far =
    let from = lengths_from left v.count v.headers.now v.older.now (primary v.primary.now ∷ []) l (omega (arith, is.older)) in
    ap (λ (o : List ℕ). codes " " ++ (decimal h.size ++ o)) so_far
    ∙ (sym (append_assoc (codes " ") (decimal h.size) (flat_map block_length (drop before (blocks_in v)) ++ more))
    ∙ (ap (λ (g : RedHeader). (codes " " ++ decimal g.size) ++ (flat_map block_length (drop before (blocks_in v)) ++ more)) at
    ∙ (sym (append_assoc (codes " " ++ decimal (header_of (drop (4 * left) v.headers.now)).size) (flat_map block_length (drop before (blocks_in v))) more)
    ∙ ap (λ (o : List ℕ). o ++ more) (ap (λ (m : ℕ). (codes " " ++ decimal (header_of (drop (4 * left) v.headers.now)).size) ++ flat_map block_length (drop m (blocks_in v))) (sym e) ∙ sym from))))

-- the line of a packet, in front of the lengths of its blocks
pub packet_is : (at : ℕ) (p : Packet) (lengths line : List ℕ) → lengths ≡ flat_map block_length (blocks_of p) ++ codes "\n"
    → line ≡ head_line (record { at = at; marker_bit = p.marker_bit; seq = p.seq; timestamp = p.timestamp; ssrc = p.ssrc; source = p.source }) ++ lengths → line ≡ packet_line at p
unfolding packet_line
packet_is at p lengths line e h =
    let head : Head = record { at = at; marker_bit = p.marker_bit; seq = p.seq; timestamp = p.timestamp; ssrc = p.ssrc; source = p.source } in
    h ∙ (ap (λ (o : List ℕ). head_line head ++ o) e ∙ simp append_assoc (cc))
