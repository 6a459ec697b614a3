-- The red form of blocks, as it is written: the headers of all but the last, and the texts of all.
use Rattle.std.proofs.Common.{◌≡◌, ℕ, zero, suc, ◌+◌, ◌-◌, ◌*◌, ◌<◌, Bool, true, false, cond, Some, List, [], ◌∷◌, ◌++◌, length, get_or, map, refl, sym, ap, ◌∙◌, length-append, arith}
use Rattle.std.specs.Prelude.{All, slice_get, ◌==◌}
use Rattle.std.specs.List.{flat_map}
use Rattle.std.proofs.lemmas.List.{append-nil}
use Rattle.std.proofs.lemmas.List.Elements.{All-head, All-tail}
use Rattle.std.proofs.lemmas.Bool.Decides.{nat_tests}
use Rattle.rtt_base.specs.declared.blocks.TextBlock.{TextBlock}
use Rattle.rtt_base.specs.declared.text_packets.PayloadTypes.{PayloadTypes}
use Rattle.wire_spec.specs.Packets.{redundant, primary_text}
use Rattle.wire_spec.specs.Red.{red_header, red_spelling}
use Rattle.wire_spec.specs.SentPackets.{type_sent}
use Rattle.rtp_text.specs.Writing.{HasOffset, clamped, text_octets}

-- ---- all blocks but the last
pub redundant_length : (bs : List TextBlock) → length (map clamped (redundant bs)) ≡ length bs - 1
redundant_length [] = refl
redundant_length (b ∷ []) = refl
redundant_length (b ∷ c ∷ bs) = let r = redundant_length (c ∷ bs) in omega (arith, r)

pub redundant_at : (bs : List TextBlock) (i : ℕ) (d : TextBlock) → i < length (map clamped (redundant bs)) → slice_get (map clamped (redundant bs)) i ≡ Some (clamped (get_or bs i d))
redundant_at [] i d l = absurd (omega arith)
redundant_at (b ∷ []) i d l = absurd (omega arith)
redundant_at (b ∷ c ∷ bs) zero d l = refl
redundant_at (b ∷ c ∷ bs) (suc i) d l = redundant_at (c ∷ bs) i d (omega arith)

clamped_one : (b : TextBlock) → HasOffset b → clamped b ≡ b
clamped_one b h = let l = h.offset in let e : Prim.Native.Nat.min b.offset 16383 ≡ b.offset = omega arith in ap (λ (o : ℕ). let c : TextBlock = record { offset = o; text = b.text } in c) e

pub clamped_all : (bs : List TextBlock) → All HasOffset bs → map clamped (redundant bs) ≡ redundant bs
clamped_all [] a = refl
clamped_all (b ∷ []) a = refl
clamped_all (b ∷ c ∷ bs) a = rw (clamped_one b (All-head HasOffset b (c ∷ bs) a), clamped_all (c ∷ bs) (All-tail HasOffset b (c ∷ bs) a)) refl

pub primary_is : (bs : List TextBlock) (d : TextBlock) → 0 < length bs → (get_or bs (length bs - 1) d).text ≡ primary_text bs
primary_is [] d l = absurd (omega arith)
primary_is (b ∷ []) d l = refl
primary_is (b ∷ c ∷ bs) d l = let k : length (b ∷ c ∷ bs) - 1 ≡ suc (length (c ∷ bs) - 1) = omega arith in ap (λ n. (get_or (b ∷ c ∷ bs) n d).text) k ∙ primary_is (c ∷ bs) d (omega arith)

-- ---- the payload type
pub type_is : (payload_types : PayloadTypes) (bs : List TextBlock) (n : ℕ) → n ≡ length bs → cond (n == 0) payload_types.t140 payload_types.red ≡ type_sent payload_types bs
type_is payload_types [] n e = rw e refl
type_is payload_types (b ∷ bs) n e = let no : (n == 0) ≡ false = grind (arith, nat_tests) in rw no refl
