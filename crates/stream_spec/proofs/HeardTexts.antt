-- What is heard of packets whose texts are UTF-8 has text, in UTF-8.
use Rattle.std.proofs.Common.{◌≡◌, ℕ, Bool, true, false, cond, Option, Some, None, List, [], ◌∷◌, ◌++◌, refl, inl, inr}
use Rattle.std.specs.Prelude.{filter, IsUtf8, ◌==◌, if◌then◌else◌}
use Rattle.std.specs.List.{concat}
use Rattle.std.specs.Str.{is_utf8, chars}
use Rattle.std.specs.Char.{encode_utf8}
use Rattle.std.proofs.lemmas.Str.{IsUtf8-append, IsUtf8-nil, IsUtf8-from_is_utf8}
use Rattle.rtt_base.specs.declared.blocks.TextBlock.{TextBlock}
use Rattle.wire_spec.specs.Packets.{Arrival, AreTextBlocks, IsTextPacket, AreTextArrivals, back, has_text}
use Rattle.stream_spec.specs.Lists.{In}
use Rattle.stream_spec.specs.Numbering.{Numbered, numbered, used, has_number, first_number}
use Rattle.stream_spec.specs.Hearing.{AreHeardTexts, piece, heard_over, heard, is_packet_of, older_texts, new_texts, text_list, marker, is_marked, is_new, adds_marker, adds_texts, before_it}
use Rattle.stream_spec.specs.ChunksBy.{texts_added}
use Rattle.stream_spec.proofs.Matched.{used_in}
use Rattle.stream_spec.proofs.Lists.{in_filter}

pub all_append : (xs ys : List (List ℕ)) → AreHeardTexts xs → AreHeardTexts ys → AreHeardTexts (xs ++ ys)
all_append [] ys p q = q
all_append (x ∷ xs) ys p q = (p.0, p.1, all_append xs ys p.2 q)

pub utf8_concat : (ts : List (List ℕ)) → AreHeardTexts ts → IsUtf8 (concat ts)
utf8_concat [] p = IsUtf8-nil
utf8_concat (t ∷ ts) p = IsUtf8-append t (concat ts) p.1 (utf8_concat ts p.2)

pub marker_utf8 : IsUtf8 marker
unfolding is_utf8 chars encode_utf8
marker_utf8 = IsUtf8-from_is_utf8 marker refl

list_utf8 : (text : List ℕ) → IsUtf8 text → AreHeardTexts (text_list text)
list_utf8 text u = go (has_text text) refl
  where
    go : (t : Bool) → has_text text ≡ t → AreHeardTexts (cond t (text ∷ []) [])
    go true e = (e, u, tt)
    go false e = tt

older_utf8 : (prev : Option Numbered) (timestamp : ℕ) (bs : List TextBlock) → AreTextBlocks bs → AreHeardTexts (older_texts prev timestamp bs)
older_utf8 prev timestamp [] p = tt
older_utf8 prev timestamp (b ∷ bs) p = all_append _ _ (go (is_new prev (back timestamp b.offset))) (older_utf8 prev timestamp bs p.1)
  where
    go : (t : Bool) → AreHeardTexts (cond t (text_list b.text) [])
    go true = list_utf8 b.text p.0
    go false = tt

pub texts_utf8 : (prev : Option Numbered) (b : Numbered) → IsTextPacket b.packet → AreHeardTexts (new_texts prev b)
texts_utf8 prev b p = all_append _ _ (older_utf8 prev b.packet.timestamp b.packet.older p.older) (list_utf8 b.packet.primary p.primary)

piece_utf8 : (present : ℕ → Bool) (first : ℕ) (prev : Option Numbered) (b : Numbered) → IsTextPacket b.packet → AreHeardTexts (piece present first prev b)
piece_utf8 present first prev b p = all_append _ _ (go (is_marked present first prev b)) (texts_utf8 prev b p)
  where
    go : (t : Bool) → AreHeardTexts (cond t (marker ∷ []) [])
    go true = (refl, marker_utf8, tt)
    go false = tt

over_utf8 : (present : ℕ → Bool) (first : ℕ) (prev : Option Numbered) (us : List Numbered) → ((u : Numbered) → In u us → IsTextPacket u.packet) → AreHeardTexts (heard_over present first prev us)
over_utf8 present first prev [] p = tt
over_utf8 present first prev (b ∷ bs) p = all_append _ _ (piece_utf8 present first prev b (p b (inl refl))) (over_utf8 present first (Some b) bs (λ u i. p u (inr i)))

-- what one packet adds
pub added_utf8 : (us : List Numbered) (b : Numbered) (s : ℕ) → IsTextPacket b.packet → AreHeardTexts (texts_added us b s)
added_utf8 us b s p = go (b.packet.source == s)
  where
    marked : (t : Bool) → AreHeardTexts (cond t (marker ∷ []) [])
    marked true = (refl, marker_utf8, tt)
    marked false = tt

    go : (t : Bool) → AreHeardTexts (cond t ((if adds_marker us b then marker ∷ [] else []) ++ adds_texts us b) [])
    go true = all_append _ _ (marked (adds_marker us b)) (texts_utf8 (before_it us b) b p)
    go false = tt

pub numbered_texts : (a : List Arrival) → AreTextArrivals a → (u : Numbered) → In u (numbered a) → IsTextPacket u.packet
numbered_texts [] p u i = absurd i
numbered_texts (a ∷ past) p u (inl e) = rw e p.0
numbered_texts (a ∷ past) p u (inr i) = numbered_texts past p.1 u i

pub heard_texts : (wait : ℕ) (a : List Arrival) (s : ℕ) → AreTextArrivals a → AreHeardTexts (heard wait a s)
heard_texts wait a s p =
    over_utf8 (has_number (used wait (numbered a))) (first_number 0 (numbered a)) None (filter (is_packet_of s) (used wait (numbered a)))
    (λ u i. numbered_texts a p u (used_in wait (numbered a) u (in_filter (is_packet_of s) u (used wait (numbered a)) i).0))

pub heard_utf8 : (wait : ℕ) (a : List Arrival) (s : ℕ) → AreTextArrivals a → IsUtf8 (concat (heard wait a s))
heard_utf8 wait a s p = utf8_concat (heard wait a s) (heard_texts wait a s p)
