-- A packet of text that is written is read back.
use Rattle.std.proofs.Common.{◌≡◌, ℕ, ◌≤◌, true, false, ltb, List, length, Option, option_to_list, Ok, refl, ap, ◌∙◌}
use Rattle.std.proofs.lemmas.Bool.{le-ltb}
use Rattle.rtt_base.specs.declared.blocks.TextBlock.{TextBlock}
use Rattle.rtt_base.specs.declared.text_packets.PayloadTypes.{PayloadTypes}
use Rattle.wire_spec.specs.Rtp.{Head, FitsHeader, reading_of, rtp_written}
use Rattle.wire_spec.specs.Red.{FitsRed, red, red_written}
use Rattle.wire_spec.specs.Text.{is_asked, short_within, text_of, text_of_short, text_packet, text_within}
use Rattle.wire_spec.proofs.Written.{rtp_read_back}
use Rattle.wire_spec.proofs.BlockLaws.{red_read_back}
use Rattle.rtt_base.specs.declared.limits.TheConstants.{MOST_PACKET_OCTETS}
use Rattle.wire_spec.proofs.SentBack.{one_source}

pub text_read_back : (h : Head) (blocks : List TextBlock) (asked : Option ℕ) (payload_types : PayloadTypes) → FitsHeader h → h.pt ≡ payload_types.red → FitsRed blocks payload_types → is_asked asked h.ssrc ≡ true → length (rtp_written h (red_written blocks payload_types)) ≤ MOST_PACKET_OCTETS
    → text_of (rtp_written h (red_written blocks payload_types)) asked payload_types ≡ Ok (text_packet (reading_of h (red_written blocks payload_types)) blocks)
unfolding text_within short_within
text_read_back h blocks asked payload_types fits type blocks_fit is_its short =
    let long : ltb MOST_PACKET_OCTETS (length (rtp_written h (red_written blocks payload_types))) ≡ false = le-ltb MOST_PACKET_OCTETS (length (rtp_written h (red_written blocks payload_types))) short in
    let sources : ltb 1 (length (option_to_list h.csrc)) ≡ false = le-ltb 1 (length (option_to_list h.csrc)) (one_source h.csrc) in
    let payload = ap (λ (pt : ℕ). red (red_written blocks payload_types) pt payload_types) type ∙ red_read_back blocks payload_types blocks_fit in
    rw (long, rtp_read_back h (red_written blocks payload_types) fits, is_its, sources, payload) refl
