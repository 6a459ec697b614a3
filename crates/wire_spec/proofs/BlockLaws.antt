-- A payload that is the sum of its parts is read so.
use Rattle.std.proofs.Common.{◌≡◌, ℕ, zero, suc, ◌+◌, ◌*◌, ◌/◌, ◌%◌, ◌^◌, ◌<◌, ◌≤◌, Bool, true, false, eqb, ltb, List, [], ◌∷◌, ◌++◌, length, take, drop, map, Option, None, Some, inl, inr, Result, Ok, refl, sym, ap, ◌∙◌, arith, append_assoc, length-append}
use Rattle.std.specs.List.{flat_map, AllByRecursion}
use Rattle.std.specs.Int.{bytes_high_first}
use Rattle.std.proofs.lemmas.Bool.{le-ltb, lt-ltb, ne_eqb, eq-eqb}
use Rattle.std.proofs.lemmas.Bool.Decides.{eqb_tells}
use Rattle.std.proofs.lemmas.List.{take_at, drop_at, length_push}
use Rattle.std.proofs.lemmas.Str.{is_utf8-from_IsUtf8}
use Rattle.rtt_base.specs.declared.blocks.TextBlock.{TextBlock}
use Rattle.rtt_base.specs.declared.text_packets.PayloadTypes.{PayloadTypes}
use Rattle.wire_spec.specs.declared.headers.RedHeader.{RedHeader}
use Rattle.wire_spec.specs.declared.faults.RedFault.{RedFault}
use Rattle.rtt_base.specs.Steps.{◌>>=◌}
use Rattle.wire_spec.specs.Packets.{primary, redundant, primary_text}
use Rattle.wire_spec.specs.Red.{FitsRed, Headers, IsRedundant, IsText, PlainText, Red, RedBlocks, all_utf8, and_others, blocks_at, header_at, header_bits, header_of, headers_at, older_size, red, red_header, red_within, red_written, texts_at, texts_within, with_header}
use Rattle.rtt_base.specs.declared.limits.TheConstants.{MOST_TEXT_OCTETS}

-- what is read of the header of a block
abbrev pub header_is : TextBlock → RedHeader
header_is b = record { offset = b.offset; size = length b.text }

same_number : (n : ℕ) → eqb n n ≡ true
same_number n = eq-eqb n n refl

-- ---- headers

bits_are : (offset size : ℕ) → offset < 2 ^ 14 → size < 2 ^ 10 → (rest : List ℕ) (f : ℕ) → header_bits (f ∷ (bytes_high_first 3 (1024 * offset + size) ++ rest)) ≡ 1024 * offset + size
bits_are offset size h k rest f = omega arith

header_read : (b : TextBlock) (f : ℕ) (rest : List ℕ) → IsRedundant b → header_of (f ∷ (bytes_high_first 3 (1024 * b.offset + length b.text) ++ rest)) ≡ header_is b
header_read b f rest h =
    let bits = bits_are b.offset (length b.text) h.0 h.1.0 rest f in
    let offset : (1024 * b.offset + length b.text) / 1024 ≡ b.offset = omega (arith, h.1.0) in
    let size : (1024 * b.offset + length b.text) % 1024 ≡ length b.text = omega (arith, h.1.0) in
    rw (bits, offset, size) refl

one_header : (t140 : ℕ) (b : TextBlock) (rest : List ℕ) → t140 < 128 → IsRedundant b → header_at false t140 (red_header t140 b ++ rest) ≡ Ok (Some (header_is b))
one_header t140 b rest h k =
    let redundant : ltb (128 + t140) 128 ≡ false = le-ltb (128 + t140) 128 (omega arith) in
    let there : ltb (length (red_header t140 b ++ rest)) 4 ≡ false = le-ltb (length (red_header t140 b ++ rest)) 4 (omega arith) in
    let some : eqb (length (red_header t140 b ++ rest)) 0 ≡ false = ne_eqb (length (red_header t140 b ++ rest)) 0 (λ e. omega arith) in
    rw (some, redundant, there, same_number (128 + t140)) (ap (λ (x : RedHeader). Ok (Some x)) (header_read b (128 + t140) rest k))

last_header : (full : Bool) (t140 : ℕ) (rest : List ℕ) → t140 < 128 → header_at full t140 (t140 ∷ rest) ≡ Ok None
last_header full t140 rest h =
    let some : eqb (length (t140 ∷ rest)) 0 ≡ false = ne_eqb (length (t140 ∷ rest)) 0 (λ e. omega arith) in
    rw (some, lt-ltb t140 128 h, same_number t140) refl

headers_read : (room t140 : ℕ) (older : List TextBlock) (rest : List ℕ) → t140 < 128 → length older ≤ room → AllByRecursion IsRedundant older → headers_at room t140 (flat_map (red_header t140) older ++ (t140 ∷ rest)) ≡ Ok (record { headers = map header_is older; texts = rest })
unfolding headers_at
headers_read zero t140 [] rest h few each = rw (last_header true t140 rest h) refl
headers_read (suc room) t140 [] rest h few each = rw (last_header false t140 rest h) refl
headers_read zero t140 (b ∷ older) rest h few each = absurd (omega arith)
headers_read (suc room) t140 (b ∷ older) rest h few each =
    let behind : List ℕ = flat_map (red_header t140) older ++ (t140 ∷ rest) in
    let fewer : length older ≤ room = omega arith in
    ap (λ (header : Result (Option RedHeader) RedFault). header >>= and_others (red_header t140 b ++ behind) (headers_at room t140 behind)) (one_header t140 b behind h each.0)
    ∙ ap (λ (others : Result Headers RedFault). others >>= λ hs. Ok (with_header (header_is b) hs)) (headers_read room t140 older rest h fewer each.1)

-- ---- texts

older_read : (older : List TextBlock) → older_size (map header_is older) ≡ length (flat_map (λ b. b.text) older)
older_read [] = refl
older_read (b ∷ older) = ap (λ (n : ℕ). length b.text + n) (older_read older) ∙ sym (length-append b.text (flat_map (λ c. c.text) older))

blocks_read : (older : List TextBlock) (text : List ℕ) → blocks_at (map header_is older) (flat_map (λ b. b.text) older ++ text) ≡ older ++ primary text ∷ []
blocks_read [] text = refl
blocks_read (b ∷ older) text =
    let behind : List ℕ = flat_map (λ c. c.text) older ++ text in
    let all : flat_map (λ c. c.text) (b ∷ older) ++ text ≡ b.text ++ behind = append_assoc b.text (flat_map (λ c. c.text) older) text in
    let front : take (length b.text) (b.text ++ behind) ≡ b.text = take_at b.text behind (length b.text) refl in
    let rest : drop (length b.text) (b.text ++ behind) ≡ behind = drop_at b.text behind (length b.text) refl in
    ap (λ (octets : List ℕ). blocks_at (map header_is (b ∷ older)) octets) all
    ∙ ap (λ (t : List ℕ). record { offset = b.offset; text = t } ∷ blocks_at (map header_is older) (drop (length b.text) (b.text ++ behind))) front
    ∙ ap (λ (octets : List ℕ). b ∷ blocks_at (map header_is older) octets) rest
    ∙ ap (λ (bs : List TextBlock). b ∷ bs) (blocks_read older text)

texts_utf8 : (older : List TextBlock) (text : List ℕ) → AllByRecursion IsRedundant older → IsText text → all_utf8 (older ++ primary text ∷ []) ≡ true
texts_utf8 [] text each h = rw (is_utf8-from_IsUtf8 text h.1) refl
texts_utf8 (b ∷ older) text each h = rw (is_utf8-from_IsUtf8 b.text each.0.1.1) (texts_utf8 older text each.1 h)

pub texts_read : (older : List TextBlock) (text : List ℕ) → AllByRecursion IsRedundant older → IsText text → texts_at (map header_is older) (flat_map (λ b. b.text) older ++ text) ≡ Ok (older ++ primary text ∷ [])
unfolding texts_within
texts_read older text each h =
    let octets : List ℕ = flat_map (λ b. b.text) older ++ text in
    let size = length-append (flat_map (λ b. b.text) older) text in
    let there : ltb (length octets) (older_size (map header_is older)) ≡ false = le-ltb _ _ (omega (arith, size, older_read older)) in
    let fits : ltb (older_size (map header_is older) + MOST_TEXT_OCTETS) (length octets) ≡ false = le-ltb _ _ (omega (arith, size, older_read older, h.0)) in
    rw (there, fits, blocks_read older text, texts_utf8 older text each h) refl

-- ---- payloads

abbrev after_headers : Headers → Result (List TextBlock) RedFault
after_headers hs = texts_at hs.headers hs.texts

red_read : (octets : List ℕ) (t140 : ℕ) (blocks : List TextBlock) → RedBlocks octets t140 blocks → (headers_at 8 t140 octets >>= λ hs. texts_at hs.headers hs.texts) ≡ Ok blocks
red_read octets t140 blocks h =
    ap (λ (x : List ℕ). headers_at 8 t140 x >>= after_headers) h.parts
    ∙ ap (λ (x : Result Headers RedFault). x >>= after_headers) (headers_read 8 t140 h.older (flat_map (λ b. b.text) h.older ++ h.text) h.t140_fits h.few h.each)
    ∙ texts_read h.older h.text h.each h.is_text ∙ ap (λ (bs : List TextBlock). Ok bs) (sym h.all)

plain_read : (octets : List ℕ) (blocks : List TextBlock) → PlainText octets blocks → texts_at [] octets ≡ Ok blocks
plain_read octets blocks h = texts_read [] octets tt h.is_text ∙ ap (λ (bs : List TextBlock). Ok bs) (sym h.all)

-- a payload is read as what it is, and so as one thing only
pub red_only : (octets : List ℕ) (pt : ℕ) (payload_types : PayloadTypes) (blocks : List TextBlock) → Red octets pt payload_types blocks → red octets pt payload_types ≡ Ok blocks
unfolding red_within
red_only octets pt payload_types blocks h =
    elim (eqb_tells pt payload_types.t140) [
      | inl yes_ ↦ rw yes_.0 (plain_read octets blocks (h.plain yes_.1))
      | inr no_ ↦ rw (no_.0, eq-eqb pt payload_types.red (h.red no_.1).0) (red_read octets payload_types.t140 blocks (h.red no_.1).1)
    ]

-- ---- what is written

pub red_again : (blocks : List TextBlock) (payload_types : PayloadTypes) → FitsRed blocks payload_types → Red (red_written blocks payload_types) payload_types.red payload_types blocks
red_again blocks payload_types fits = record {
  plain = λ (e : payload_types.red ≡ payload_types.t140). absurd (fits.differ (sym e));
  red = λ _. (
    refl,
    record {
      older = redundant blocks;
      text = primary_text blocks;
      all = fits.all;
      parts = refl;
      few = omega (arith, fits.few, ap length fits.all, length_push (redundant blocks) (primary (primary_text blocks)));
      each = fits.each;
      is_text = fits.is_text;
      t140_fits = fits.t140;
    },
  );
}

pub red_read_back : (blocks : List TextBlock) (payload_types : PayloadTypes) → FitsRed blocks payload_types → red (red_written blocks payload_types) payload_types.red payload_types ≡ Ok blocks
red_read_back blocks payload_types fits = red_only (red_written blocks payload_types) payload_types.red payload_types blocks (red_again blocks payload_types fits)

abbrev done : List TextBlock → Result (List TextBlock) RedFault
done blocks = Ok blocks

same_blocks : (blocks others : List TextBlock) → done blocks ≡ done others → blocks ≡ others
same_blocks blocks others e = cc

pub red_one_reading : (blocks : List TextBlock) (payload_types : PayloadTypes) (others : List TextBlock) → FitsRed blocks payload_types → Red (red_written blocks payload_types) payload_types.red payload_types others → others ≡ blocks
red_one_reading blocks payload_types others fits reads = same_blocks others blocks (sym (red_only (red_written blocks payload_types) payload_types.red payload_types others reads) ∙ red_read_back blocks payload_types fits)
