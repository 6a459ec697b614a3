-- Blocks where they lie.
use Rattle.std.proofs.Common.{◌≡◌, ℕ, zero, suc, ◌+◌, ◌≤◌, true, Option, Some, None, Ok, List, [], ◌∷◌, ◌++◌, ◌≢◌, length, length-drop, take, drop, refl, sym, subst, ap, ◌∙◌, arith}
use Rattle.std.specs.Prelude.{IfSome, unwrap_or}
use Rattle.std.specs.Str.{IsAscii}
use Rattle.std.proofs.lemmas.Str.{IsAscii-drop, IsAscii-take, IsUtf8-from_ascii, is_utf8-from_IsUtf8}
use Rattle.std.proofs.lemmas.List.{drop-take, drop-drop, length-take}
use Rattle.std.proofs.lemmas.Bool.{le-ltb, eq-eqb, ne_eqb}
use Rattle.rtt_base.specs.declared.blocks.TextBlock.{TextBlock}
use Rattle.rtt_base.specs.declared.text_packets.PayloadTypes.{PayloadTypes}
use Rattle.rtt_base.specs.declared.limits.TheConstants.{MOST_PACKET_OCTETS}
use Rattle.wire_spec.specs.declared.headers.RedHeader.{RedHeader}
use Rattle.wire_spec.specs.Packets.{primary}
use Rattle.wire_spec.specs.Rtp.{Reading, rtp}
use Rattle.wire_spec.specs.Red.{Headers, all_utf8, blocks_at, headers_at, older_size, red_within, texts_within}
use Rattle.wire_spec.specs.Text.{accepted, short_within, text_packet, text_within}
use Rattle.rtp_text.specs.declared.views.TextView.{TextView}
use Rattle.rtp_text.specs.Views.{older_at, packet_in, IsCut, IsPacketOf}
use Rattle.rtp_text.proofs.Steps.{texts_read}
pub use Rattle.wire_spec.proofs.SentBack.{redundant_front as redundant_is, primary_last as primary_is}

take_front : (n m : ℕ) (xs : List ℕ) → take n (take (n + m) xs) ≡ take n xs
take_front zero m xs = refl
take_front (suc n) m [] = let k : suc n + m ≡ suc (n + m) = omega arith in rw k refl
take_front (suc n) m (x ∷ xs) = let k : suc n + m ≡ suc (n + m) = omega arith in rw k (ap (λ (ys : List ℕ). x ∷ ys) (take_front n m xs))

cut_blocks : (hs : List RedHeader) (octets : List ℕ) → blocks_at hs octets ≡ older_at hs (take (older_size hs) octets) ++ primary (drop (older_size hs) octets) ∷ []
cut_blocks [] octets = refl
cut_blocks (h ∷ hs) octets =
    let s = older_size hs in
    rw (take_front h.size s octets, drop-take h.size s octets, ← drop-drop s h.size octets)
    (ap (λ (bs : List TextBlock). record { offset = h.offset; text = take h.size octets } ∷ bs) (cut_blocks hs (drop h.size octets)))

all_ascii : (hs : List RedHeader) (octets : List ℕ) → IsAscii octets → all_utf8 (blocks_at hs octets) ≡ true
all_ascii [] octets a = rw (is_utf8-from_IsUtf8 octets (IsUtf8-from_ascii octets a)) refl
all_ascii (h ∷ hs) octets a =
    rw (is_utf8-from_IsUtf8 (take h.size octets) (IsUtf8-from_ascii (take h.size octets) (IsAscii-take octets h.size a))) (all_ascii hs (drop h.size octets) (IsAscii-drop octets h.size a))

-- texts that are cut are these blocks
pub cut_read : (most : ℕ) (hs : List RedHeader) (texts older text : List ℕ) → IsCut most (older_size hs) texts older text → texts_within most hs texts ≡ Ok (older_at hs older ++ primary text ∷ [])
cut_read most hs texts older text c =
    let few = ap (λ (l : List ℕ). length l) c.primary in
    let rest = c.few in
    texts_read most hs texts c.enough (omega (arith, few, rest, length-drop (older_size hs) texts, c.enough))
    ∙ rw (all_ascii hs texts c.ascii) (ap (λ (bs : List TextBlock). Ok bs) (cut_blocks hs texts ∙ rw (c.older, c.primary) refl))

pub cut_size : (most size : ℕ) (texts older text : List ℕ) → IsCut most size texts older text → length older ≡ size
cut_size most size texts older text c = ap (λ (l : List ℕ). length l) c.older ∙ (length-take size texts ∙ (let e = c.enough in omega arith))

pub cut_older_ascii : (most size : ℕ) (texts older text : List ℕ) → IsCut most size texts older text → IsAscii older
cut_older_ascii most size texts older text c = subst IsAscii (sym c.older) (IsAscii-take texts size c.ascii)

pub cut_primary_ascii : (most size : ℕ) (texts older text : List ℕ) → IsCut most size texts older text → IsAscii text
cut_primary_ascii most size texts older text c = subst IsAscii (sym c.primary) (IsAscii-drop texts size c.ascii)

-- the packet of this header, these redundant blocks and this primary text
pub packet_read : (r : Reading) (older : List TextBlock) (text : List ℕ)
    → text_packet r (older ++ primary text ∷ []) ≡ record { marker_bit = r.marker_bit; seq = r.seq; timestamp = r.timestamp; ssrc = r.ssrc; source = unwrap_or r.csrc r.ssrc; older = older; primary = text }
packet_read r older text = rw (redundant_is older (primary text), primary_is older (primary text)) refl

-- an answer that is there has what follows from what it has
pub if_some_then : {X : Type 0} {P Q : X → Type 0} (o : Option X) → ((x : X) → P x → Q x) → IfSome o P → IfSome o Q
if_some_then (Some x) f p = f x p
if_some_then None f p = tt

pub if_some_both : {X : Type 0} {P Q R : X → Type 0} (o : Option X) → ((x : X) → P x → Q x → R x) → IfSome o P → IfSome o Q → IfSome o R
if_some_both (Some x) f p q = f x p q
if_some_both None f p q = tt

pub plain_read : (most : ℕ) (r : Reading) (payload_types : PayloadTypes) (blocks : List TextBlock) → r.pt ≡ payload_types.t140 → texts_within most [] r.payload ≡ Ok blocks → red_within most r.payload r.pt payload_types ≡ Ok blocks
unfolding red_within
plain_read most r payload_types blocks e t = rw (eq-eqb r.pt payload_types.t140 e) t

pub red_read : (most : ℕ) (r : Reading) (payload_types : PayloadTypes) (hs : Headers) (blocks : List TextBlock) → r.pt ≢ payload_types.t140 → r.pt ≡ payload_types.red → headers_at 8 payload_types.t140 r.payload ≡ Ok hs → texts_within most hs.headers hs.texts ≡ Ok blocks → red_within most r.payload r.pt payload_types ≡ Ok blocks
unfolding red_within
red_read most r payload_types hs blocks n e h t = rw (ne_eqb r.pt payload_types.t140 n, eq-eqb r.pt payload_types.red e, h) t

pub view_read : (most : ℕ) (octets : List ℕ) (asked : Option ℕ) (payload_types : PayloadTypes) (read r : Reading) (v : TextView) → length octets ≤ MOST_PACKET_OCTETS → rtp octets ≡ Ok read → accepted asked read ≡ Ok r → IsPacketOf most r payload_types v
    → text_within most octets asked payload_types ≡ Ok (packet_in v)
unfolding text_within short_within
view_read most octets asked payload_types read r v few e a p = rw (le-ltb _ _ few, e, a, p.blocks, p.packet) refl
