-- What is heard of a packet, and of which source.
use Rattle.std.proofs.Common.{◌≡◌, ℕ, ◌<◌, Bool, true, false, cond, Some, None, List, [], ◌∷◌, ◌++◌, refl, ap, sym, ◌∙◌, subst, arith, length, inl, inr, append-nil, append_assoc, map, filter}
use Rattle.std.specs.Prelude.{◌==◌, nat_lt, position, get_or, set, slice_index}
use Rattle.std.specs.List.{position_or_len}
use Rattle.std.proofs.lemmas.Bool.{cases_eq, cases_lt, eq-eqb, eqb-true, ltb-false, ne_eqb, true≢false}
use Rattle.std.proofs.lemmas.List.{get_or-set_same, get_or-set_other, length-set, map-append}
use Rattle.std.proofs.lemmas.List.Elements.{at_read, filter-append}
use Rattle.std.proofs.lemmas.List.Sums.{fails_before_first}
use Rattle.std.proofs.lemmas.List.Quantifiers.{position-Some}
use Rattle.rtt_base.specs.declared.text_packets.PayloadTypes.{PayloadTypes}
use Rattle.rtt_base.specs.declared.text_packets.TextPacket.{TextPacket}
use Rattle.stream_spec.specs.Lists.{In}
use Rattle.stream_spec.specs.Numbering.{Numbered}
use Rattle.stream_spec.specs.Ready.{chunk}
use Rattle.stream_spec.specs.ChunksBy.{chunks_added, chunks_by, texts_added}
use Rattle.stream_spec.specs.Still.{is_lively_chunk, is_blank}
use Rattle.stream_spec.proofs.ByNumber.{by_more}
use Rattle.stream_spec.proofs.Rising.{rising_below}
use Rattle.reorder_buffer.specs.declared.answers.Due.{Due}
use Rattle.receiver.specs.declared.pieces.TextCursor.{TextCursor}
use Rattle.receiver.specs.declared.receivers.Receiver.{Receiver}
use Rattle.receiver.specs.Each.{LeavesAdded}
use Rattle.receiver.specs.Pieces.{left_of}
use Rattle.receiver.specs.Stands.{Stands}
use Rattle.cascade.specs.declared.splitters.SourceRecording.{SourceRecording}
use Rattle.cascade.specs.Splitters.{AddsChunk, Splits}
use Rattle.cascade.specs.Dividing.{AddsTexts, Divides, TakesDue, due_packet, lively_by}

-- ---- text by text
pub adds_blank : (sp : SourceRecording) (ready : ℕ) (text : List ℕ) → is_blank text ≡ true → AddsTexts sp sp ready (text ∷ [])
adds_blank sp ready text b payload_types s cs h = rw (b, append-nil cs) h

pub adds_one : (old new : SourceRecording) (ready : ℕ) (text : List ℕ) → is_blank text ≡ false → AddsChunk old new (chunk 0 ready text) → AddsTexts old new ready (text ∷ [])
adds_one old new ready text b a payload_types s cs h = rw b (a payload_types s cs h)

pub adds_none : (sp : SourceRecording) (ready : ℕ) → AddsTexts sp sp ready []
adds_none sp ready payload_types s cs h = rw (append-nil cs) h

-- some texts were added, and these are left
pub record AddedSome (old : SourceRecording) (ready : ℕ) (all : List (List ℕ)) (now : SourceRecording) (left : List (List ℕ)) : Type 0 where
  pub done : List (List ℕ)
  pub adds : AddsTexts old now ready done
  pub is : all ≡ done ++ left
  pub payload_types : now.payload_types ≡ old.payload_types

pub some_none : (sp : SourceRecording) (ready : ℕ) (all : List (List ℕ)) → AddedSome sp ready all sp all
some_none sp ready all = record { done = []; adds = adds_none sp ready; is = refl; payload_types = refl }

pub some_more : (old now new : SourceRecording) (ready : ℕ) (all left rest : List (List ℕ)) (text : List ℕ) → AddedSome old ready all now left → left ≡ text ∷ rest → AddsTexts now new ready (text ∷ []) → new.payload_types ≡ now.payload_types
    → AddedSome old ready all new rest
some_more old now new ready all left rest text a e one t = record {
  done = a.done ++ text ∷ [];
  adds = λ payload_types s cs h.
      subst (Splits new payload_types s)
      (append_assoc cs (filter is_lively_chunk (map (chunk 0 ready) a.done)) (filter is_lively_chunk (map (chunk 0 ready) (text ∷ [])))
      ∙ ap (λ xs. cs ++ xs) (sym (ap (filter is_lively_chunk) (map-append (chunk 0 ready) a.done (text ∷ []))
      ∙ filter-append is_lively_chunk (map (chunk 0 ready) a.done) (map (chunk 0 ready) (text ∷ [])))))
      (one payload_types s (cs ++ filter is_lively_chunk (map (chunk 0 ready) a.done)) (a.adds payload_types s cs h));
  is = a.is ∙ (ap (λ ts. a.done ++ ts) e ∙ sym (append_assoc a.done (text ∷ []) rest));
  payload_types = t ∙ a.payload_types;
}

pub some_all : (old now : SourceRecording) (ready : ℕ) (all left : List (List ℕ)) → AddedSome old ready all now left → left ≡ [] → AddsTexts old now ready all
some_all old now ready all left a e = subst (AddsTexts old now ready) (sym (a.is ∙ (ap (λ ts. a.done ++ ts) e ∙ append-nil a.done))) a.adds

-- ---- packet by packet
lively_more : (us : List Numbered) (b : Numbered) (s : ℕ) → ((u : Numbered) → In u us → u.number < b.number)
    → lively_by (us ++ b ∷ []) s ≡ lively_by us s ++ filter is_lively_chunk (map (chunk 0 b.time) (texts_added us b s))
lively_more us b s above = ap (filter is_lively_chunk) (by_more 0 us b s above) ∙ filter-append is_lively_chunk (chunks_by 0 us s) (chunks_added 0 us b s)

-- of another source nothing is heard
of_other : (sp : SourceRecording) (payload_types : PayloadTypes) (us : List Numbered) (b : Numbered) (s : ℕ) → ((u : Numbered) → In u us → u.number < b.number) → (b.packet.source ≡ s → ⊥)
    → Splits sp payload_types s (lively_by us s) → Splits sp payload_types s (lively_by (us ++ b ∷ []) s)
of_other sp payload_types us b s above ne h = subst (Splits sp payload_types s) (sym (lively_more us b s above ∙ (rw (ne_eqb b.packet.source s ne) (append-nil (lively_by us s))))) h

-- of its own what it adds
of_own : (old new : SourceRecording) (payload_types : PayloadTypes) (us : List Numbered) (b : Numbered) (texts : List (List ℕ)) → ((u : Numbered) → In u us → u.number < b.number)
    → texts ≡ texts_added us b b.packet.source → AddsTexts old new b.time texts → Splits old payload_types b.packet.source (lively_by us b.packet.source) → Splits new payload_types b.packet.source (lively_by (us ++ b ∷ []) b.packet.source)
of_own old new payload_types us b texts above e a h =
    subst (Splits new payload_types b.packet.source)
    (ap (λ ts. lively_by us b.packet.source ++ filter is_lively_chunk (map (chunk 0 b.time) ts)) e ∙ sym (lively_more us b b.packet.source above))
    (a payload_types b.packet.source (lively_by us b.packet.source) h)

-- the numbers of the packets before are lower
lower : (new : Receiver) (sources : List ℕ) (us : List Numbered) (b : Numbered) → Stands new sources (us ++ b ∷ []) → (u : Numbered) → In u us → u.number < b.number
lower new sources us b s = rising_below us b [] s.rising

-- no recording is of the packet's source
pub divides_none : (old new : Receiver) (splitters : List SourceRecording) (due : Due) (p : TextPacket) → TakesDue old new due p → position (λ (s : SourceRecording). s.source == p.source) splitters ≡ None → Divides old splitters splitters due p
divides_none old new splitters due p take none payload_types sources us s are = record {
  each = are.each;
  splits = λ k d below.
      let is = are.splits k d below in
      of_other (get_or splitters k d) payload_types us (due_packet due p) (slice_index sources k) (lower new sources us (due_packet due p) (take sources us s))
      (λ e. true≢false (sym (eq-eqb (get_or splitters k d).source p.source (is.source ∙ sym e)) ∙ none_passes splitters k d (omega (arith, below, are.each)) none)) is;
}
  where
    none_passes : (xs : List SourceRecording) (k : ℕ) (d : SourceRecording) → k < length xs → position (λ (s : SourceRecording). s.source == p.source) xs ≡ None → ((get_or xs k d).source == p.source) ≡ false
    none_passes xs k d below e = go (nat_lt (position_or_len (λ (s : SourceRecording). s.source == p.source) xs) (length xs)) refl e
      where
        go : (b : Bool) → nat_lt (position_or_len (λ (s : SourceRecording). s.source == p.source) xs) (length xs) ≡ b
            → cond b (Some (position_or_len (λ (s : SourceRecording). s.source == p.source) xs)) None ≡ None → ((get_or xs k d).source == p.source) ≡ false
        go true t q = cc q
        go false t q =
            let far = ltb-false (position_or_len (λ (s : SourceRecording). s.source == p.source) xs) (length xs) t in
            fails_before_first (λ (s : SourceRecording). s.source == p.source) xs k d (omega (arith, below, far))

-- one is
pub divides_one : (old new : Receiver) (splitters : List SourceRecording) (due : Due) (p : TextPacket) (piece : TextCursor) (place : ℕ) (was now : SourceRecording) → TakesDue old new due p → LeavesAdded old due.number p piece
    → position (λ (s : SourceRecording). s.source == p.source) splitters ≡ Some place → was ≡ get_or splitters place was → AddsTexts was now due.ready (left_of piece p)
    → Divides old splitters (set splitters place now) due p
divides_one old new splitters due p piece place was now take leaves e at adds payload_types sources us s are = record {
  each = length-set splitters place now ∙ are.each;
  splits = λ k d below. elim (cases_eq k place) [ inl q ↦ here k d below q | inr ne ↦ there k d below ne ];
}
  where
    found : (place < length splitters) × ((was.source == p.source) ≡ true)
    found = let r = position-Some (λ (s : SourceRecording). s.source == p.source) splitters place was e in
        (r.0, subst (λ (x : SourceRecording). (x.source == p.source) ≡ true) (sym at) r.1)

    below_place : place < length sources
    below_place = omega (arith, found.0, are.each)

    above : (u : Numbered) → In u us → u.number < due.number
    above = lower new sources us (due_packet due p) (take sources us s)

    its_own : was.source ≡ p.source
    its_own = eqb-true was.source p.source found.1

    is_was : (d : SourceRecording) → get_or splitters place d ≡ was
    is_was d = at_read splitters (λ (x : SourceRecording). x ≡ was) place was found.0 at refl d

    source_there : slice_index sources place ≡ p.source
    source_there = sym (are.splits place was below_place).source ∙ (ap (λ (x : SourceRecording). x.source) (sym at) ∙ its_own)

    here : (k : ℕ) (d : SourceRecording) → k < length sources → k ≡ place → Splits (get_or (set splitters place now) k d) payload_types (slice_index sources k) (lively_by (us ++ due_packet due p ∷ []) (slice_index sources k))
    here k d below q =
        let it : get_or (set splitters place now) k d ≡ now = ap (λ (n : ℕ). get_or (set splitters place now) n d) q ∙ get_or-set_same splitters place now d found.0 in
        let src : slice_index sources k ≡ p.source = ap (λ n. slice_index sources n) q ∙ source_there in
        let before : Splits was payload_types p.source (lively_by us p.source) = subst (λ n. Splits was payload_types n (lively_by us n)) source_there (subst (λ (x : SourceRecording). Splits x payload_types (slice_index sources place) (lively_by us (slice_index sources place))) (sym at) (are.splits place was below_place)) in
        let after = of_own was now payload_types us (due_packet due p) (left_of piece p) above (leaves sources us due.ready place s below_place source_there) adds before in
        subst (λ (x : SourceRecording). Splits x payload_types (slice_index sources k) (lively_by (us ++ due_packet due p ∷ []) (slice_index sources k))) (sym it)
        (subst (λ n. Splits now payload_types n (lively_by (us ++ due_packet due p ∷ []) n)) (sym src) after)

    apart : (k : ℕ) → k < length sources → (k ≡ place → ⊥) → slice_index sources k ≡ p.source → ⊥
    apart k below ne q = elim (cases_lt k place) [
      | inl lt ↦ s.differ k place 0 lt below_place (q ∙ sym source_there)
      | inr ge ↦ s.differ place k 0 (omega (arith, ge, ne)) below (source_there ∙ sym q)
    ]

    there : (k : ℕ) (d : SourceRecording) → k < length sources → (k ≡ place → ⊥) → Splits (get_or (set splitters place now) k d) payload_types (slice_index sources k) (lively_by (us ++ due_packet due p ∷ []) (slice_index sources k))
    there k d below ne =
        subst (λ (x : SourceRecording). Splits x payload_types (slice_index sources k) (lively_by (us ++ due_packet due p ∷ []) (slice_index sources k))) (sym (get_or-set_other splitters place k now d ne))
        (of_other (get_or splitters k d) payload_types us (due_packet due p) (slice_index sources k) above (λ q. apart k below ne (sym q)) (are.splits k d below))
