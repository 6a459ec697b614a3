-- What is heard without keep-alives are the texts that are heard and are none.
use Rattle.std.proofs.Common.{◌≡◌, ℕ, zero, suc, ◌+◌, ◌-◌, Bool, true, false, cond, not, Option, Some, None, List, [], ◌∷◌, ◌++◌, length, refl, ap, sym, ◌∙◌}
use Rattle.std.specs.Prelude.{◌==◌, ◌&&◌, nat_lt, max, map, filter}
use Rattle.std.proofs.lemmas.List.{length-map}
use Rattle.std.proofs.lemmas.List.Elements.{filter-append}
use Rattle.rtt_base.specs.declared.blocks.TextBlock.{TextBlock}
use Rattle.wire_spec.specs.Packets.{Arrival, back}
use Rattle.stream_spec.specs.Numbering.{Numbered, first_number, has_number, numbered, used}
use Rattle.stream_spec.specs.Hearing.{is_marked, is_new, is_packet_of, marker, missing_before, new_texts, older_texts, oldest_offset, piece, text_list}
use Rattle.stream_spec.specs.Ready.{chunk, chunks, chunks_over, latest_end, least, moments, ready_of, when}
use Rattle.stream_spec.specs.Still.{is_blank, is_lively, is_lively_chunk, still, still_block, still_numbered, still_text}
use Rattle.stream_spec.proofs.Still.{any_still, distinct_still, filter_map, first_still, in_time_still, numbered_still, oldest_still, used_map}

-- ---- moments
moments_still : (wait : ℕ) (us : List Numbered) (n : ℕ) → moments wait (map still_numbered us) n ≡ moments wait us n
moments_still wait [] n = refl
moments_still wait (u ∷ us) n =
    let t = in_time_still wait u us in
    let d = distinct_still (suc n) (u ∷ us) in
    let r = moments_still wait us n in
    λ i. when (t i && u.number == n) u.time ++ (when (nat_lt n u.number) (u.time + wait) ++ (when (nat_lt 64 (d i)) u.time ++ r i))

ends_still : (wait : ℕ) (us : List Numbered) (low n : ℕ) → latest_end wait (map still_numbered us) low n ≡ latest_end wait us low n
ends_still wait us low zero = refl
ends_still wait us low (suc n) =
    let r = ends_still wait us low n in
    let e = ap least (moments_still wait us (low + n)) in
    λ i. max (r i) (e i)

ready_still : (wait : ℕ) (us : List Numbered) (b : Numbered) → ready_of wait (map still_numbered us) (still_numbered b) ≡ ready_of wait us b
ready_still wait us b =
    let f = first_still 0 us in
    ap (λ k. max b.time (latest_end wait (map still_numbered us) k (suc b.number - k))) f
    ∙ ap (max b.time) (ends_still wait us (first_number 0 us) (suc b.number - first_number 0 us))

-- ---- texts
abbrev prev_still : Option Numbered → Option Numbered
prev_still None = None
prev_still (Some a) = Some (still_numbered a)

list_still : (text : List ℕ) → text_list (still_text text) ≡ filter is_lively (text_list text)
list_still [] = refl
list_still (x ∷ text) = go (is_blank (x ∷ text)) refl
  where
    go : (b : Bool) → is_blank (x ∷ text) ≡ b → text_list (cond b [] (x ∷ text)) ≡ cond (not (is_blank (x ∷ text))) ((x ∷ text) ∷ []) []
    go true e = sym (ap (λ b. cond (not b) ((x ∷ text) ∷ []) []) e)
    go false e = sym (ap (λ b. cond (not b) ((x ∷ text) ∷ []) []) e)

new_still : (prev : Option Numbered) (timestamp : ℕ) → is_new (prev_still prev) timestamp ≡ is_new prev timestamp
new_still None timestamp = refl
new_still (Some a) timestamp = refl

when_new : (b : Bool) (text : List ℕ) → cond b (text_list (still_text text)) [] ≡ filter is_lively (cond b (text_list text) [])
when_new true text = list_still text
when_new false text = refl

older_still : (prev : Option Numbered) (timestamp : ℕ) (bs : List TextBlock) → older_texts (prev_still prev) timestamp (map still_block bs) ≡ filter is_lively (older_texts prev timestamp bs)
older_still prev timestamp [] = refl
older_still prev timestamp (b ∷ bs) =
    let n = new_still prev (back timestamp b.offset) in
    let r = older_still prev timestamp bs in
    ap (λ x. cond x (text_list (still_text b.text)) [] ++ older_texts (prev_still prev) timestamp (map still_block bs)) n
    ∙ (ap (λ ts. ts ++ older_texts (prev_still prev) timestamp (map still_block bs)) (when_new (is_new prev (back timestamp b.offset)) b.text)
    ∙ (ap (λ ts. filter is_lively (cond (is_new prev (back timestamp b.offset)) (text_list b.text) []) ++ ts) r
    ∙ sym (filter-append is_lively (cond (is_new prev (back timestamp b.offset)) (text_list b.text) []) (older_texts prev timestamp bs))))

texts_still : (prev : Option Numbered) (b : Numbered) → new_texts (prev_still prev) (still_numbered b) ≡ filter is_lively (new_texts prev b)
texts_still prev b =
    let o = older_still prev b.packet.timestamp b.packet.older in
    let p = list_still b.packet.primary in
    (λ i. o i ++ p i) ∙ sym (filter-append is_lively (older_texts prev b.packet.timestamp b.packet.older) (text_list b.packet.primary))

marked_still : (present : ℕ → Bool) (first : ℕ) (prev : Option Numbered) (b : Numbered) → is_marked present first (prev_still prev) (still_numbered b) ≡ is_marked present first prev b
marked_still present first prev b =
    let l = length-map b.packet.older still_block in
    let o = oldest_still b.packet.older in
    (λ i. nat_lt (l i) (missing_before present first (prev_still prev) (still_numbered b)) && is_new (prev_still prev) (back b.packet.timestamp (o i))) ∙ same prev
  where
    same : (prev : Option Numbered) → (nat_lt (length b.packet.older) (missing_before present first (prev_still prev) (still_numbered b)) && is_new (prev_still prev) (back b.packet.timestamp (oldest_offset b.packet.older)))
        ≡ is_marked present first prev b
    same None = refl
    same (Some a) = refl

piece_still : (present : ℕ → Bool) (first : ℕ) (prev : Option Numbered) (b : Numbered) → piece present first (prev_still prev) (still_numbered b) ≡ filter is_lively (piece present first prev b)
piece_still present first prev b =
    let m = marked_still present first prev b in
    let t = texts_still prev b in
    (λ i. cond (m i) (marker ∷ []) [] ++ t i)
    ∙ (ap (λ ts. ts ++ filter is_lively (new_texts prev b)) (markers (is_marked present first prev b))
    ∙ sym (filter-append is_lively (cond (is_marked present first prev b) (marker ∷ []) []) (new_texts prev b)))
  where
    markers : (b : Bool) → cond b (marker ∷ []) [] ≡ filter is_lively (cond b (marker ∷ []) [])
    markers true = refl
    markers false = refl

-- ---- chunks
over_still : (ready late : Numbered → ℕ) → ((b : Numbered) → late (still_numbered b) ≡ ready b) → (place : ℕ) (present : ℕ → Bool) (first : ℕ) (prev : Option Numbered) (bs : List Numbered)
    → chunks_over late place present first (prev_still prev) (map still_numbered bs) ≡ filter is_lively_chunk (chunks_over ready place present first prev bs)
over_still ready late same place present first prev [] = refl
over_still ready late same place present first prev (b ∷ bs) =
    let p = piece_still present first prev b in
    let t = same b in
    let r = over_still ready late same place present first (Some b) bs in
    (λ i. map (chunk place (t i)) (p i) ++ r i)
    ∙ (ap (λ cs. cs ++ filter is_lively_chunk (chunks_over ready place present first (Some b) bs)) (sym (filter_map (chunk place (ready b)) is_lively_chunk (piece present first prev b)))
    ∙ sym (filter-append is_lively_chunk (map (chunk place (ready b)) (piece present first prev b)) (chunks_over ready place present first (Some b) bs)))

pub chunks_still : (wait place : ℕ) (a : List Arrival) (s : ℕ) → chunks wait place (still a) s ≡ filter is_lively_chunk (chunks wait place a s)
chunks_still wait place a s =
    let us = numbered a in
    let n = numbered_still a in
    ap (λ (xs : List Numbered). chunks_over (ready_of wait xs) place (has_number (used wait xs)) (first_number 0 xs) None (filter (is_packet_of s) (used wait xs))) n
    ∙ (ap (λ (ys : List Numbered). chunks_over (ready_of wait (map still_numbered (numbered a))) place (has_number ys) (first_number 0 (map still_numbered (numbered a))) None (filter (is_packet_of s) ys)) (used_map wait (numbered a))
    ∙ ((λ i. chunks_over (ready_of wait (map still_numbered (numbered a))) place (λ k. any_still (λ e. e.number == k) (used wait (numbered a)) i) (first_still 0 (numbered a) i) None (filter_map still_numbered (is_packet_of s) (used wait (numbered a)) i))
    ∙ over_still (ready_of wait (numbered a)) (ready_of wait (map still_numbered (numbered a))) (ready_still wait (numbered a)) place (has_number (used wait (numbered a))) (first_number 0 (numbered a)) None (filter (is_packet_of s) (used wait (numbered a)))))
