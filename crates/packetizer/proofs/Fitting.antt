-- What repeats the blocks of a window has few octets.
use Rattle.std.proofs.Common.{◌≡◌, ℕ, ◌<◌, ◌≤◌, List, [], ◌∷◌, length, take, arith}
use Rattle.std.specs.Prelude.{max, drop}
use Rattle.std.specs.List.{AllByRecursion}
use Rattle.std.proofs.lemmas.List.Elements.{All-append, All-take, All-drop, recursion_from_All}
use Rattle.rtt_base.specs.declared.text_packets.PayloadTypes.{PayloadTypes}
use Rattle.wire_spec.specs.SentPackets.{packet_written}
use Rattle.rtp_text.specs.declared.block_writers.TextHead.{TextHead}
use Rattle.rtp_text.specs.Writing.{packet_with}
use Rattle.packetizer.specs.declared.slots.KeptBlock.{KeptBlock}
use Rattle.packetizer.specs.Kept.{AreShort, in_turn, blocks_kept}
use Rattle.packetizer.proofs.Repeating.{blocks_size}
use Rattle.rtt_base.specs.declared.limits.TheConstants.{MOST_PACKET_OCTETS, MOST_TEXT_OCTETS}
use Rattle.wire_spec.proofs.Sizes.{AreShortTexts, packet_size}

abbrev HasShortText : KeptBlock → Type 0
HasShortText b = length b.text ≤ MOST_TEXT_OCTETS

blocks_short : (timestamp : ℕ) (kept : List KeptBlock) → AllByRecursion HasShortText kept → AreShortTexts (blocks_kept timestamp kept)
blocks_short timestamp [] a = tt
blocks_short timestamp (b ∷ bs) a = (a.0, blocks_short timestamp bs a.1)

in_turn_short : (n : ℕ) (xs : List KeptBlock) → AreShort xs → AreShort (in_turn n xs)
in_turn_short n xs a = All-append HasShortText (drop n xs) (take n xs) (All-drop HasShortText n xs a) (All-take HasShortText n xs a)

-- what repeats the blocks of a window has few octets, whatever was sent
pub kept_fits : (payload_types : PayloadTypes) (h : TextHead) (g n : ℕ) (places : List KeptBlock) (text : List ℕ) → length places ≡ 3 → g ≤ 3 → n < max 1 g → AreShort places → length text < 1024
    → length (packet_written payload_types (packet_with h (blocks_kept h.timestamp (in_turn n (take g places))) text)) ≤ MOST_PACKET_OCTETS
kept_fits payload_types h g n places text e l m a t =
    let kept = in_turn n (take g places) in
    let short = recursion_from_All HasShortText kept (in_turn_short n (take g places) (All-take HasShortText g places a)) in
    packet_size payload_types (packet_with h (blocks_kept h.timestamp kept) text) (blocks_short h.timestamp kept short) (omega (arith, l, blocks_size g n h.timestamp places e l m)) (omega (arith, t))
