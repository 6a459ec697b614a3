-- What is read of a payload is the sum of its parts.
use Rattle.std.proofs.Common.{◌≡◌, ℕ, zero, suc, ◌+◌, ◌*◌, ◌/◌, ◌%◌, ◌^◌, ◌<◌, ◌≤◌, Bool, true, false, cond, eqb, ltb, List, [], ◌∷◌, ◌++◌, length, take, drop, Option, None, Some, inl, inr, Result, Ok, Err, refl, sym, ap, subst, ◌∙◌, arith, append_assoc, length-take, length-drop, get_or-drop}
use Rattle.std.specs.Prelude.{IsUtf8}
use Rattle.std.specs.List.{flat_map, AllByRecursion}
use Rattle.std.specs.Str.{is_utf8}
use Rattle.std.specs.Int.{bytes_high_first}
use Rattle.std.proofs.lemmas.Bool.{ltb-false, ltb-true, eqb-true, false≢true, and_parts}
use Rattle.std.proofs.lemmas.Bool.Decides.{eqb_tells}
use Rattle.std.proofs.lemmas.List.{take-append-drop}
use Rattle.std.proofs.lemmas.Str.{IsUtf8-from_is_utf8}
use Rattle.rtt_base.specs.declared.blocks.TextBlock.{TextBlock}
use Rattle.rtt_base.specs.declared.text_packets.PayloadTypes.{PayloadTypes}
use Rattle.wire_spec.specs.declared.headers.RedHeader.{RedHeader}
use Rattle.wire_spec.specs.declared.faults.RedFault.{RedFault}
use Rattle.wire_spec.specs.declared.faults.RedFault.TheVariants.{WrongType, Cut, Many, Long, NotText}
use Rattle.rtt_base.specs.Steps.{◌>>=◌}
use Rattle.rtt_base.proofs.Steps.{bind_ok}
use Rattle.wire_spec.proofs.Tests.{chosen, guard, guard_else, ok_is, failed}
use Rattle.wire_spec.specs.Packets.{primary}
use Rattle.wire_spec.specs.Rtp.{IsOctets}
use Rattle.wire_spec.specs.Red.{Headers, IsRedundant, PlainText, Red, RedBlocks, all_utf8, and_others, blocks_at, checked, header_at, header_of, headers_at, older_size, red, red_header, red_within, texts_at, texts_within, with_header}
use Rattle.rtt_base.specs.declared.limits.TheConstants.{MOST_TEXT_OCTETS}

pub IsOctets-drop : (n : ℕ) (octets : List ℕ) → IsOctets octets → IsOctets (drop n octets)
IsOctets-drop n octets h i = rw get_or-drop (h (n + i))

-- ---- one header

-- the octets of a header that was read
abbrev header_octets : ℕ → RedHeader → List ℕ
header_octets t140 h = (128 + t140) ∷ bytes_high_first 3 (1024 * h.offset + h.size)

pub record IsRead (h : RedHeader) : Type 0 where
  pub offset : h.offset < 2 ^ 14
  pub size : h.size < 2 ^ 10

three : (x y z : ℕ) → x < 256 → y < 256 → z < 256 → bytes_high_first 3 (1024 * ((65536 * x + (256 * y + z)) / 1024) + (65536 * x + (256 * y + z)) % 1024) ≡ x ∷ y ∷ z ∷ []
three x y z h k l =
    let whole : 1024 * ((65536 * x + (256 * y + z)) / 1024) + (65536 * x + (256 * y + z)) % 1024 ≡ 65536 * x + (256 * y + z) = omega arith in
    let a : (65536 * x + (256 * y + z)) / 65536 % 256 ≡ x = omega arith in
    let b : (65536 * x + (256 * y + z)) / 256 % 256 ≡ y = omega arith in
    let c : (65536 * x + (256 * y + z)) % 256 ≡ z = omega arith in
    ap (bytes_high_first 3) whole ∙ rw (a, b, c) refl

-- what one header says of the octets
abbrev Says : Bool → ℕ → List ℕ → Option RedHeader → Type 0
Says full t140 octets None = (t140 < 128) × (octets ≡ t140 ∷ drop 1 octets)
Says full t140 octets (Some h) = (t140 < 128) × (full ≡ false) × IsRead h × (octets ≡ header_octets t140 h ++ drop 4 octets)

redundant_says : (full : Bool) (t140 f : ℕ) (rest : List ℕ) → IsOctets (f ∷ rest) → 4 ≤ length (f ∷ rest) → full ≡ false → f ≡ 128 + t140 → Says full t140 (f ∷ rest) (Some (header_of (f ∷ rest)))
redundant_says full t140 f [] h long e k = absurd (omega arith)
redundant_says full t140 f (x ∷ []) h long e k = absurd (omega arith)
redundant_says full t140 f (x ∷ y ∷ []) h long e k = absurd (omega arith)
redundant_says full t140 f (x ∷ y ∷ z ∷ rest) h long e k = (
  omega (arith, h 0),
  e,
  record { offset = omega (arith, h 1, h 2, h 3); size = omega arith },
  ap (λ (n : ℕ). n ∷ x ∷ y ∷ z ∷ rest) k ∙ ap (λ (w : List ℕ). (128 + t140) ∷ (w ++ rest)) (sym (three x y z (h 1) (h 2) (h 3))),
)

header_says : (full : Bool) (t140 : ℕ) (octets : List ℕ) (o : Option RedHeader) → IsOctets octets → header_at full t140 octets ≡ Ok o → Says full t140 octets o
header_says full t140 [] o h e = absurd (failed Cut o e)
header_says full t140 (f ∷ rest) o h e =
    let last : Result (Option RedHeader) RedFault = cond (eqb f t140) (Ok None) (Err WrongType) in
    let right : Result (Option RedHeader) RedFault = cond (eqb f (128 + t140)) (Ok (Some (header_of (f ∷ rest)))) (Err WrongType) in
    let a = guard (eqb (length (f ∷ rest)) 0) Cut (cond (ltb f 128) last (cond (ltb (length (f ∷ rest)) 4) (Err Cut) (cond full (Err Many) right))) o e in
    elim (chosen (ltb f 128) last (cond (ltb (length (f ∷ rest)) 4) (Err Cut) (cond full (Err Many) right)) (Ok o) a.1) [
      | inl b ↦
          (let c = guard_else (eqb f t140) WrongType (Ok None) o b.1 in
          let same : f ≡ t140 = eqb-true f t140 c.0 in
          let below : f < 128 = ltb-true f 128 b.0 in
          subst (Says full t140 (f ∷ rest)) (ok_is None o c.1) (omega arith, ap (λ (n : ℕ). n ∷ rest) same))
      | inr b ↦
          (let c = guard (ltb (length (f ∷ rest)) 4) Cut (cond full (Err Many) right) o b.1 in
          let d = guard full Many right o c.1 in
          let g = guard_else (eqb f (128 + t140)) WrongType (Ok (Some (header_of (f ∷ rest)))) o d.1 in
          subst (Says full t140 (f ∷ rest)) (ok_is (Some (header_of (f ∷ rest))) o g.1) (redundant_says full t140 f rest h (ltb-false (length (f ∷ rest)) 4 c.0) d.0 (eqb-true f (128 + t140) g.0)))
    ]

-- ---- all headers

pub record Spelled (room t140 : ℕ) (octets : List ℕ) (hs : Headers) : Type 0 where
  pub t140_fits : t140 < 128
  pub few : length hs.headers ≤ room
  pub each : AllByRecursion IsRead hs.headers
  pub parts : octets ≡ flat_map (header_octets t140) hs.headers ++ (t140 ∷ hs.texts)

no_more : (t140 : ℕ) (octets : List ℕ) (o : Option RedHeader) (hs : Headers) → Says true t140 octets o → and_others octets (Err Many) o ≡ Ok hs → Spelled 0 t140 octets hs
no_more t140 octets None hs says e =
    subst (Spelled 0 t140 octets) (ok_is (record { headers = []; texts = drop 1 octets }) hs e) (record { t140_fits = says.0; few = omega arith; each = tt; parts = says.1 })
no_more t140 octets (Some h) hs says e = absurd (false≢true (sym says.1))

one_more : (room t140 : ℕ) (octets : List ℕ) (o : Option RedHeader) (hs : Headers) (others : Result Headers RedFault) → ((more : Headers) → others ≡ Ok more → Spelled room t140 (drop 4 octets) more) → Says false t140 octets o → and_others octets others o ≡ Ok hs → Spelled (suc room) t140 octets hs
one_more room t140 octets None hs others rest says e =
    subst (Spelled (suc room) t140 octets) (ok_is (record { headers = []; texts = drop 1 octets }) hs e) (record { t140_fits = says.0; few = omega arith; each = tt; parts = says.1 })
one_more room t140 octets (Some h) hs others rest says e =
    let a = bind_ok others (λ more. Ok (with_header h more)) hs e in
    let behind = rest a.0 a.1 in
    subst (Spelled (suc room) t140 octets) (ok_is (with_header h a.0) hs a.2) (record {
      t140_fits = says.0;
      few = omega (arith, behind.few);
      each = (says.2, behind.each);
      parts = says.3 ∙ ap (λ (x : List ℕ). header_octets t140 h ++ x) behind.parts;
    })

headers_parts : (room t140 : ℕ) (octets : List ℕ) (hs : Headers) → IsOctets octets → headers_at room t140 octets ≡ Ok hs → Spelled room t140 octets hs
unfolding headers_at
headers_parts zero t140 octets hs h e =
    let a = bind_ok (header_at true t140 octets) (and_others octets (Err Many)) hs e in
    no_more t140 octets a.0 hs (header_says true t140 octets a.0 h a.1) a.2
headers_parts (suc room) t140 octets hs h e =
    let a = bind_ok (header_at false t140 octets) (and_others octets (headers_at room t140 (drop 4 octets))) hs e in
    one_more room t140 octets a.0 hs (headers_at room t140 (drop 4 octets)) (λ more k. headers_parts room t140 (drop 4 octets) more (IsOctets-drop 4 octets h) k) (header_says false t140 octets a.0 h a.1) a.2

-- ---- texts

-- the redundant blocks of headers, and the primary text behind them
abbrev older_of : List RedHeader → List ℕ → List TextBlock
older_of [] octets = []
older_of (h ∷ hs) octets = record { offset = h.offset; text = take h.size octets } ∷ older_of hs (drop h.size octets)

abbrev text_behind : List RedHeader → List ℕ → List ℕ
text_behind [] octets = octets
text_behind (h ∷ hs) octets = text_behind hs (drop h.size octets)

blocks_are : (hs : List RedHeader) (octets : List ℕ) → blocks_at hs octets ≡ older_of hs octets ++ primary (text_behind hs octets) ∷ []
blocks_are [] octets = refl
blocks_are (h ∷ hs) octets = ap (λ (bs : List TextBlock). record { offset = h.offset; text = take h.size octets } ∷ bs) (blocks_are hs (drop h.size octets))

texts_whole : (hs : List RedHeader) (octets : List ℕ) → octets ≡ flat_map (λ b. b.text) (older_of hs octets) ++ text_behind hs octets
texts_whole [] octets = refl
texts_whole (h ∷ hs) octets =
    sym (take-append-drop h.size octets)
    ∙ ap (λ (x : List ℕ). take h.size octets ++ x) (texts_whole hs (drop h.size octets))
    ∙ sym (append_assoc (take h.size octets) (flat_map (λ b. b.text) (older_of hs (drop h.size octets))) (text_behind hs (drop h.size octets)))

headers_same : (t140 : ℕ) (hs : List RedHeader) (octets : List ℕ) → older_size hs ≤ length octets → flat_map (header_octets t140) hs ≡ flat_map (red_header t140) (older_of hs octets)
headers_same t140 [] octets h = refl
headers_same t140 (x ∷ hs) octets h =
    let size : length (take x.size octets) ≡ x.size = omega (arith, length-take x.size octets) in
    let rest : older_size hs ≤ length (drop x.size octets) = omega (arith, length-drop x.size octets) in
    ap (λ (n : ℕ). ((128 + t140) ∷ bytes_high_first 3 (1024 * x.offset + n)) ++ flat_map (header_octets t140) hs) (sym size)
    ∙ ap (λ (ys : List ℕ). ((128 + t140) ∷ bytes_high_first 3 (1024 * x.offset + length (take x.size octets))) ++ ys) (headers_same t140 hs (drop x.size octets) rest)

text_size : (hs : List RedHeader) (octets : List ℕ) → older_size hs ≤ length octets → length (text_behind hs octets) + older_size hs ≡ length octets
text_size [] octets h = omega arith
text_size (x ∷ hs) octets h =
    let rest = text_size hs (drop x.size octets) (omega (arith, length-drop x.size octets)) in
    omega (arith, rest, length-drop x.size octets)

older_each : (hs : List RedHeader) (octets : List ℕ) → AllByRecursion IsRead hs → all_utf8 (blocks_at hs octets) ≡ true → AllByRecursion IsRedundant (older_of hs octets) × IsUtf8 (text_behind hs octets)
older_each [] octets h e = (tt, IsUtf8-from_is_utf8 octets (and_parts (is_utf8 octets) true e).0)
older_each (x ∷ hs) octets h e =
    let t = and_parts (is_utf8 (take x.size octets)) (all_utf8 (blocks_at hs (drop x.size octets))) e in
    let rest = older_each hs (drop x.size octets) h.1 t.1 in
    let size : length (take x.size octets) < 2 ^ 10 = omega (arith, length-take x.size octets, h.0.size) in
    (((h.0.offset, (size, IsUtf8-from_is_utf8 (take x.size octets) t.0)), rest.0), rest.1)

older_count : (hs : List RedHeader) (octets : List ℕ) → length (older_of hs octets) ≡ length hs
older_count [] octets = refl
older_count (x ∷ hs) octets = ap suc (older_count hs (drop x.size octets))

pub record Texts (hs : List RedHeader) (octets : List ℕ) (blocks : List TextBlock) : Type 0 where
  pub there : older_size hs ≤ length octets
  pub fits : length octets ≤ older_size hs + MOST_TEXT_OCTETS
  pub utf8 : all_utf8 (blocks_at hs octets) ≡ true
  pub same : blocks_at hs octets ≡ blocks

texts_parts : (hs : List RedHeader) (octets : List ℕ) (blocks : List TextBlock) → texts_at hs octets ≡ Ok blocks → Texts hs octets blocks
unfolding texts_within
texts_parts hs octets blocks e =
    let a = guard (ltb (length octets) (older_size hs)) Cut (cond (ltb (older_size hs + MOST_TEXT_OCTETS) (length octets)) (Err Long) (checked (blocks_at hs octets))) blocks e in
    let b = guard (ltb (older_size hs + MOST_TEXT_OCTETS) (length octets)) Long (checked (blocks_at hs octets)) blocks a.1 in
    let c = guard_else (all_utf8 (blocks_at hs octets)) NotText (Ok (blocks_at hs octets)) blocks b.1 in
    record { there = ltb-false _ _ a.0; fits = ltb-false _ _ b.0; utf8 = c.0; same = ok_is (blocks_at hs octets) blocks c.1 }

-- ---- payloads

plain_parts : (octets : List ℕ) (blocks : List TextBlock) → texts_at [] octets ≡ Ok blocks → PlainText octets blocks
plain_parts octets blocks e =
    let t = texts_parts [] octets blocks e in
    record { all = sym t.same; is_text = (omega (arith, t.fits), (older_each [] octets tt t.utf8).1) }

red_parts : (octets : List ℕ) (t140 : ℕ) (hs : Headers) (blocks : List TextBlock) → IsOctets octets → headers_at 8 t140 octets ≡ Ok hs → texts_at hs.headers hs.texts ≡ Ok blocks → RedBlocks octets t140 blocks
red_parts octets t140 hs blocks h e k =
    let s = headers_parts 8 t140 octets hs h e in
    let t = texts_parts hs.headers hs.texts blocks k in
    let each = older_each hs.headers hs.texts s.each t.utf8 in
    let size = text_size hs.headers hs.texts t.there in
    record {
      older = older_of hs.headers hs.texts;
      text = text_behind hs.headers hs.texts;
      all = sym t.same ∙ blocks_are hs.headers hs.texts;
      parts = s.parts
          ∙ ap (λ (x : List ℕ). x ++ (t140 ∷ hs.texts)) (headers_same t140 hs.headers hs.texts t.there)
          ∙ ap (λ (x : List ℕ). flat_map (red_header t140) (older_of hs.headers hs.texts) ++ (t140 ∷ x)) (texts_whole hs.headers hs.texts);
      few = omega (arith, s.few, older_count hs.headers hs.texts);
      each = each.0;
      is_text = (omega (arith, size, t.fits), each.1);
      t140_fits = s.t140_fits;
    }

-- a payload that is read is what it was read as
pub red_found : (octets : List ℕ) (pt : ℕ) (payload_types : PayloadTypes) (blocks : List TextBlock) → IsOctets octets → red octets pt payload_types ≡ Ok blocks → Red octets pt payload_types blocks
unfolding red_within
red_found octets pt payload_types blocks h e =
    let rest : Result (List TextBlock) RedFault = cond (eqb pt payload_types.red) (headers_at 8 payload_types.t140 octets >>= λ hs. texts_at hs.headers hs.texts) (Err WrongType) in
    elim (eqb_tells pt payload_types.t140) [
      | inl yes_ ↦ record {
        plain = λ _. plain_parts octets blocks (sym (ap (λ (b : Bool). cond b (texts_at [] octets) rest) yes_.0) ∙ e);
        red = λ no_. absurd (no_ yes_.1);
      }
      | inr no_ ↦
          (let a : rest ≡ Ok blocks = sym (ap (λ (b : Bool). cond b (texts_at [] octets) rest) no_.0) ∙ e in
          let b = guard_else (eqb pt payload_types.red) WrongType (headers_at 8 payload_types.t140 octets >>= λ hs. texts_at hs.headers hs.texts) blocks a in
          let c = bind_ok (headers_at 8 payload_types.t140 octets) (λ hs. texts_at hs.headers hs.texts) blocks b.1 in
          record {
            plain = λ yes_. absurd (no_.1 yes_);
            red = λ _. (eqb-true pt payload_types.red b.0, red_parts octets payload_types.t140 c.0 blocks h c.1 c.2);
          })
    ]
