-- Chunks as those of another leg.
use Rattle.std.proofs.Common.{◌≡◌, ℕ, Bool, true, false, cond, Option, Some, None, List, [], ◌∷◌, ◌++◌, refl, ap, sym, ◌∙◌}
use Rattle.std.specs.Prelude.{filter, map}
use Rattle.std.proofs.lemmas.List.{map-append}
use Rattle.wire_spec.specs.Packets.{Arrival}
use Rattle.stream_spec.specs.Numbering.{Numbered, first_number, has_number, numbered, used}
use Rattle.stream_spec.specs.Hearing.{is_packet_of, piece}
use Rattle.stream_spec.specs.Ready.{Chunk, chunk, chunks, chunks_over, ready_of}
use Rattle.mixer_spec.specs.Pieces.{chunk_pieces, chunks_cut}
use Rattle.mix_loop.specs.Ports.{of_leg}

texts_of_leg : (j p r : ℕ) (xs : List (List ℕ)) → map (of_leg j) (map (chunk p r) xs) ≡ map (chunk j r) xs
texts_of_leg j p r [] = refl
texts_of_leg j p r (x ∷ xs) = ap (λ cs. chunk j r x ∷ cs) (texts_of_leg j p r xs)

over_of_leg : (j p : ℕ) (ready : Numbered → ℕ) (present : ℕ → Bool) (first : ℕ) (prev : Option Numbered) (bs : List Numbered)
    → map (of_leg j) (chunks_over ready p present first prev bs) ≡ chunks_over ready j present first prev bs
over_of_leg j p ready present first prev [] = refl
over_of_leg j p ready present first prev (b ∷ bs) =
    let more = over_of_leg j p ready present first (Some b) bs in
    let here = texts_of_leg j p (ready b) (piece present first prev b) in
    map-append (of_leg j) (map (chunk p (ready b)) (piece present first prev b)) (chunks_over ready p present first (Some b) bs) ∙ (λ ι. here ι ++ more ι)

-- what is heard of a source, as that of the leg j
pub chunks_of_leg : (j p wait : ℕ) (a : List Arrival) (s : ℕ) → map (of_leg j) (chunks wait p a s) ≡ chunks wait j a s
chunks_of_leg j p wait a s = over_of_leg j p (ready_of wait (numbered a)) (has_number (used wait (numbered a))) (first_number 0 (numbered a)) None (filter (is_packet_of s) (used wait (numbered a)))

-- those that pass a test, which does not ask whose they are
pub filter_of_leg : (q : Chunk → Bool) (j : ℕ) → ((c : Chunk) → q (of_leg j c) ≡ q c) → (cs : List Chunk) → filter q (map (of_leg j) cs) ≡ map (of_leg j) (filter q cs)
filter_of_leg q j same [] = refl
filter_of_leg q j same (c ∷ cs) = ap (λ b. cond b (of_leg j c ∷ filter q (map (of_leg j) cs)) (filter q (map (of_leg j) cs))) (same c) ∙ go (q c) (filter_of_leg q j same cs)
  where
    go : (b : Bool) → filter q (map (of_leg j) cs) ≡ map (of_leg j) (filter q cs) → cond b (of_leg j c ∷ filter q (map (of_leg j) cs)) (filter q (map (of_leg j) cs)) ≡ map (of_leg j) (cond b (c ∷ filter q cs) (filter q cs))
    go true e = ap (λ xs. of_leg j c ∷ xs) e
    go false e = e

-- in pieces, however they are cut
pieces_of_leg : (j : ℕ) (c : Chunk) (ts : List (List ℕ))
    → map (λ (t : List ℕ). let d : Chunk = record { source = j; ready = c.ready; text = t } in d) ts ≡ map (of_leg j) (map (λ (t : List ℕ). let d : Chunk = record { source = c.source; ready = c.ready; text = t } in d) ts)
pieces_of_leg j c [] = refl
pieces_of_leg j c (t ∷ ts) = ap (λ (cs : List Chunk). record { source = j; ready = c.ready; text = t } ∷ cs) (pieces_of_leg j c ts)

pub cut_of_leg : (cutting : List ℕ → List (List ℕ)) (j : ℕ) (cs : List Chunk) → chunks_cut cutting (map (of_leg j) cs) ≡ map (of_leg j) (chunks_cut cutting cs)
cut_of_leg cutting j [] = refl
cut_of_leg cutting j (c ∷ cs) =
    (λ ι. pieces_of_leg j c (cutting c.text) ι ++ cut_of_leg cutting j cs ι) ∙ sym (map-append (of_leg j) (chunk_pieces cutting c) (chunks_cut cutting cs))
