-- What a mixer hears of a split: no packet of it is a keep-alive.
use Rattle.std.proofs.Common.{◌≡◌, ℕ, Bool, true, false, cond, List, [], ◌∷◌, ◌++◌, refl, ap, sym, subst, ◌∙◌}
use Rattle.std.specs.Prelude.{◌==◌, ◌&&◌, not, filter, map, IsUtf8}
use Rattle.std.specs.List.{AllByRecursion}
use Rattle.std.specs.Str.{is_utf8, chars}
use Rattle.std.specs.Char.{encode_utf8}
use Rattle.std.proofs.lemmas.Bool.{true≢false, eqb-true}
use Rattle.std.proofs.lemmas.Str.{IsUtf8-append, IsUtf8-past_char, is_utf8-from_IsUtf8}
use Rattle.wire_spec.specs.Packets.{Arrival}
use Rattle.wire_spec.specs.Dump.{arrivals_within, dump}
use Rattle.stream_spec.specs.Carries.{Groups}
use Rattle.stream_spec.specs.Hearing.{heard}
use Rattle.stream_spec.specs.Ready.{Chunk, chunks}
use Rattle.stream_spec.specs.Still.{is_blank, is_lively_chunk, still}
use Rattle.stream_spec.proofs.ChunkTexts.{chunk_texts}
use Rattle.stream_spec.proofs.StillChunks.{chunks_still}
use Rattle.command_spec.specs.Splitting.{Group, alone, came_of, chunks_of, groups, groups_from, joined, joins, split}
use Rattle.command_spec.specs.Laws.{AreSendable, RecordingsAreMixed, recording_of}
use Rattle.command_spec.proofs.Carrying.{groups_carry}
use Rattle.command_spec.proofs.Recordings.{heard_sendable}
use Rattle.command_spec.proofs.Splits.{split_texts}

-- ---- a text behind which more stands
all_true : (a b c d : Bool) → ((a && b && c) && d) ≡ true → (a ≡ true) × (b ≡ true) × (c ≡ true) × (d ≡ true)
all_true true true true true e = (refl, refl, refl, refl)
all_true true true true false e = absurd (true≢false (sym e))
all_true true true false d e = absurd (true≢false (sym e))
all_true true false c d e = absurd (true≢false (sym e))
all_true false b c d e = absurd (true≢false (sym e))

-- U+FEFF is cut by no character
not_one : IsUtf8 (0xEF ∷ []) → ⊥
unfolding is_utf8 chars encode_utf8
not_one u = true≢false (sym (is_utf8-from_IsUtf8 (0xEF ∷ []) u))

not_two : IsUtf8 (0xEF ∷ 0xBB ∷ []) → ⊥
unfolding is_utf8 chars encode_utf8
not_two u = true≢false (sym (is_utf8-from_IsUtf8 (0xEF ∷ 0xBB ∷ []) u))

-- a front of U+FEFFs is one of them too, where it is UTF-8
front_blank : (a b : List ℕ) → IsUtf8 a → is_blank (a ++ b) ≡ true → is_blank a ≡ true
unfolding encode_utf8
front_blank [] b u e = refl
front_blank (x ∷ []) [] u e = e
front_blank (x ∷ []) (y ∷ []) u e = absurd (true≢false (sym e))
front_blank (x ∷ []) (y ∷ z ∷ b) u e =
    let t = all_true (x == 0xEF) (y == 0xBB) (z == 0xBF) (is_blank b) e in
    absurd (not_one (subst (λ n. IsUtf8 (n ∷ [])) (eqb-true x 0xEF t.0) u))
front_blank (x ∷ y ∷ []) [] u e = e
front_blank (x ∷ y ∷ []) (z ∷ b) u e =
    let t = all_true (x == 0xEF) (y == 0xBB) (z == 0xBF) (is_blank b) e in
    let one = subst (λ n. IsUtf8 (n ∷ y ∷ [])) (eqb-true x 0xEF t.0) u in
    absurd (not_two (subst (λ n. IsUtf8 (0xEF ∷ n ∷ [])) (eqb-true y 0xBB t.1) one))
front_blank (x ∷ y ∷ z ∷ a) b u e =
    let t = all_true (x == 0xEF) (y == 0xBB) (z == 0xBF) (is_blank (a ++ b)) e in
    let front : x ∷ y ∷ z ∷ a ≡ 0xEF ∷ 0xBB ∷ 0xBF ∷ a =
    ap (λ n. n ∷ y ∷ z ∷ a) (eqb-true x 0xEF t.0) ∙ (ap (λ n. 0xEF ∷ n ∷ z ∷ a) (eqb-true y 0xBB t.1) ∙ ap (λ n. 0xEF ∷ 0xBB ∷ n ∷ a) (eqb-true z 0xBF t.2)) in
    let more = front_blank a b (IsUtf8-past_char (x ∷ y ∷ z ∷ a) a 0xFEFF u front) t.3 in
    rw (t.0, t.1, t.2, more) refl

-- ---- groups
-- these texts are no keep-alives
abbrev AreLively : List (List ℕ) → Type 0
AreLively ts = AllByRecursion (λ t. is_blank t ≡ false) ts

abbrev texts_in : List Group → List (List ℕ)
texts_in gs = map (λ g. g.text) gs

still_lively : (a b : List ℕ) → IsUtf8 a → is_blank a ≡ false → is_blank (a ++ b) ≡ false
still_lively a b u e = go (is_blank (a ++ b)) refl
  where
    go : (x : Bool) → is_blank (a ++ b) ≡ x → x ≡ false
    go true i = absurd (true≢false (sym (front_blank a b u i) ∙ e))
    go false i = refl

from_lively : (g : Group) (cs : List Chunk) → IsUtf8 g.text → is_blank g.text ≡ false → AreSendable cs → AreLively (map (λ (c : Chunk). c.text) cs) → AreLively (texts_in (groups_from g cs))
from_lively g [] u e q a = (e, tt)
from_lively g (c ∷ cs) u e q a =
    go (joins g c) (from_lively (joined g c) cs (IsUtf8-append g.text c.text u q.0.utf8) (still_lively g.text c.text u e) q.1 a.1) (from_lively (alone c) cs q.0.utf8 a.0 q.1 a.1)
  where
    go : (b : Bool) → AreLively (texts_in (groups_from (joined g c) cs)) → AreLively (texts_in (groups_from (alone c) cs))
        → AreLively (texts_in (cond b (groups_from (joined g c) cs) (g ∷ groups_from (alone c) cs)))
    go true j h = j
    go false j h = (e, h)

groups_lively : (cs : List Chunk) → AreSendable cs → AreLively (map (λ (c : Chunk). c.text) cs) → AreLively (texts_in (groups cs))
groups_lively [] q a = tt
groups_lively (c ∷ cs) q a = from_lively (alone c) cs q.0.utf8 a.0 q.1 a.1

-- ---- chunks
filtered : (cs : List Chunk) → AreLively (map (λ (c : Chunk). c.text) (filter is_lively_chunk cs))
filtered [] = tt
filtered (c ∷ cs) = go (is_blank c.text) refl (filtered cs)
  where
    go : (b : Bool) → is_blank c.text ≡ b → AreLively (map (λ (c : Chunk). c.text) (filter is_lively_chunk cs))
        → AreLively (map (λ (c : Chunk). c.text) (cond (not b) (c ∷ filter is_lively_chunk cs) (filter is_lively_chunk cs)))
    go true e more = more
    go false e more = (e, more)

all_left : (cs : List Chunk) → AreLively (map (λ (c : Chunk). c.text) cs) → filter is_lively_chunk cs ≡ cs
all_left [] a = refl
all_left (c ∷ cs) a =
    ap (λ b. cond (not b) (c ∷ filter is_lively_chunk cs) (filter is_lively_chunk cs)) a.0 ∙ ap (λ (xs : List Chunk). c ∷ xs) (all_left cs a.1)

-- where no text is a keep-alive, a mixer hears the same
same_heard : (wait s : ℕ) (past : List Arrival) (ts : List (List ℕ)) → heard wait past s ≡ ts → AreLively ts → heard wait (still past) s ≡ heard wait past s
same_heard wait s past ts e l =
    let lively = subst AreLively (sym (chunk_texts wait 0 past s ∙ e)) l in
    sym (chunk_texts wait 0 (still past) s)
    ∙ (ap (λ (cs : List Chunk). map (λ (c : Chunk). c.text) cs) (chunks_still wait 0 past s ∙ all_left (chunks wait 0 past s) lively)
    ∙ chunk_texts wait 0 past s)

pub recordings_mixed : RecordingsAreMixed
unfolding split
recordings_mixed t octets s is most l limit wait few =
    let past = came_of t octets in
    let cs = chunks_of t.wait past s in
    let sendable = heard_sendable t octets s in
    let lively = subst (λ (xs : List Chunk). AreLively (map (λ (c : Chunk). c.text) xs)) (sym (chunks_still t.wait 0 past s)) (filtered (chunks t.wait 0 past s)) in
    let texts = split_texts most l t.payload_types s cs is sendable limit wait few in
    let same = same_heard wait s (arrivals_within most s t.payload_types [] (dump limit (recording_of t.payload_types s cs)).items) (texts_in (groups cs)) texts (groups_lively cs sendable lively) in
    subst (λ ts. Groups ts (map (λ (c : Chunk). c.text) cs) []) (sym (same ∙ texts)) (groups_carry cs sendable)
