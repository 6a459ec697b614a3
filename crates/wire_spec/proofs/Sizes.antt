-- How many octets a packet has, as it is written.
use Rattle.std.proofs.Common.{◌≡◌, ℕ, ◌+◌, ◌*◌, ◌≤◌, Option, Some, None, List, [], ◌∷◌, ◌++◌, length, length-append, refl, arith}
use Rattle.std.specs.Prelude.{option_to_list}
use Rattle.std.specs.List.{flat_map, AllByRecursion}
use Rattle.std.specs.Int.{w32, to_be_bytes}
use Rattle.rtt_base.specs.declared.blocks.TextBlock.{TextBlock}
use Rattle.rtt_base.specs.declared.text_packets.PayloadTypes.{PayloadTypes}
use Rattle.wire_spec.specs.Packets.{Packet}
use Rattle.wire_spec.specs.Rtp.{Head, rtp_written}
use Rattle.wire_spec.specs.Red.{IsRedundant, red_header, red_spelling}
use Rattle.wire_spec.specs.SentPackets.{payload_sent, head_of, packet_written}
use Rattle.rtt_base.specs.declared.limits.TheConstants.{MOST_PACKET_OCTETS, MOST_TEXT_OCTETS}

-- the texts of blocks
abbrev text_octets : List TextBlock → List ℕ
text_octets bs = flat_map (λ b. b.text) bs

pub headers_size : (t140 : ℕ) (bs : List TextBlock) → length (flat_map (red_header t140) bs) ≡ 4 * length bs
headers_size t140 [] = refl
headers_size t140 (b ∷ bs) = let rest = headers_size t140 bs in omega (arith, rest)

-- how many octets the red form has
pub spelling_size : (t140 : ℕ) (older : List TextBlock) (text : List ℕ) → length (red_spelling t140 older text) ≡ 4 * length older + 1 + length (text_octets older) + length text
spelling_size t140 older text =
    let headers = headers_size t140 older in
    omega (arith, headers, length-append (flat_map (red_header t140) older) (t140 ∷ (text_octets older ++ text)), length-append (text_octets older) text)

-- each text fits into a block
abbrev pub AreShortTexts : List TextBlock → Type 0
AreShortTexts bs = AllByRecursion (λ b. length b.text ≤ MOST_TEXT_OCTETS) bs

texts_size : (bs : List TextBlock) → AreShortTexts bs → length (text_octets bs) ≤ MOST_TEXT_OCTETS * length bs
texts_size [] a = omega arith
texts_size (b ∷ bs) a = let r = texts_size bs a.1 in omega (arith, a.0, r, length-append b.text (text_octets bs))

head_size : (h : Head) (payload : List ℕ) → length (rtp_written h payload) ≤ 16 + length payload
head_size h payload = let r = go h.csrc in omega (arith, r)
  where
    go : (o : Option ℕ) → 12 + length (flat_map (to_be_bytes w32) (option_to_list o) ++ payload) ≤ 16 + length payload
    go None = omega arith
    go (Some s) = omega arith

payload_size : (payload_types : PayloadTypes) (older : List TextBlock) (text : List ℕ) → AreShortTexts older → length older ≤ 3 → length text ≤ MOST_TEXT_OCTETS → length (payload_sent payload_types older text) ≤ 4105
payload_size payload_types [] text a l t = omega arith
payload_size payload_types (b ∷ bs) text a l t = omega (arith, spelling_size payload_types.t140 (b ∷ bs) text, texts_size (b ∷ bs) a)

pub packet_size : (payload_types : PayloadTypes) (p : Packet) → AreShortTexts p.older → length p.older ≤ 3 → length p.primary ≤ MOST_TEXT_OCTETS → length (packet_written payload_types p) ≤ MOST_PACKET_OCTETS
packet_size payload_types p a l t = omega (arith, head_size (head_of payload_types p) (payload_sent payload_types p.older p.primary), payload_size payload_types p.older p.primary a l t)

pub redundant_short : (bs : List TextBlock) → AllByRecursion IsRedundant bs → AreShortTexts bs
redundant_short [] a = tt
redundant_short (b ∷ bs) a = (omega (arith, a.0.1.0), redundant_short bs a.1)
