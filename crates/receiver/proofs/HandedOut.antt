-- What is handed out of what is heard.
use Rattle.std.proofs.Common.{◌≡◌, ℕ, ◌<◌, ◌≤◌, Bool, true, false, cond, List, [], ◌∷◌, ◌++◌, length, map, take, drop, refl, ap, sym, ◌∙◌, true≢false, arith}
use Rattle.std.specs.Prelude.{filter, flat_map, not, IsUtf8}
use Rattle.std.specs.List.{AllByRecursion}
use Rattle.std.proofs.lemmas.List.{map-append}
use Rattle.std.proofs.lemmas.List.Elements.{filter-append}
use Rattle.wire_spec.specs.Packets.{Arrival, AreTextArrivals, has_text}
use Rattle.stream_spec.specs.Hearing.{AreHeardTexts, text_list}
use Rattle.stream_spec.specs.Ready.{Chunk, chunk, chunks}
use Rattle.stream_spec.specs.Still.{is_blank, is_lively, is_lively_chunk}
use Rattle.mixer_spec.specs.Pieces.{chunks_cut, cut_at, pieces}
use Rattle.mixer_spec.specs.Laws.{AreShortArrivals}
use Rattle.mixer_spec.proofs.Chunks.{cut_append, stay_law}
use Rattle.mixer_spec.proofs.Heard.{chunks_law}
use Rattle.mixer_spec.proofs.HeardShort.{short_law}
use Rattle.mixer_spec.proofs.OfFiles.{within}
use Rattle.mixer_spec.proofs.Cutting.{stays_law, step_law, text_law, whole_law}
use Rattle.receiver.specs.declared.cuts.TextCut.{TextCut}
use Rattle.receiver.specs.declared.cuts.TextCut.TheVariants.{Never, Long, Short}
use Rattle.receiver.specs.Cuts.{chunks_given, chunks_in_pieces, is_cut, is_dropped, most_of, text_pieces, texts_given, texts_in_pieces}

-- ---- chunk by chunk
in_pieces_append : (n : ℕ) (xs ys : List Chunk) → chunks_in_pieces n (xs ++ ys) ≡ chunks_in_pieces n xs ++ chunks_in_pieces n ys
in_pieces_append n xs ys = ap (chunks_cut (pieces n)) (filter-append is_lively_chunk xs ys) ∙ cut_append (pieces n) (filter is_lively_chunk xs) (filter is_lively_chunk ys)

pub given_append : (cut : TextCut) (xs ys : List Chunk) → chunks_given cut (xs ++ ys) ≡ chunks_given cut xs ++ chunks_given cut ys
given_append Never xs ys = cut_append (pieces 1023) xs ys
given_append Long xs ys = in_pieces_append 1023 xs ys
given_append Short xs ys = in_pieces_append 128 xs ys

pub given_nil : (cut : TextCut) → chunks_given cut [] ≡ []
given_nil Never = refl
given_nil Long = refl
given_nil Short = refl

pub texts_nil : (cut : TextCut) → texts_given cut [] ≡ []
texts_nil Never = refl
texts_nil Long = refl
texts_nil Short = refl

pub pieces_nil : (cut : TextCut) → text_pieces cut [] ≡ []
pieces_nil Never = refl
pieces_nil Long = refl
pieces_nil Short = refl

-- for a mixer
pub given_cut : (cut : TextCut) (cs : List Chunk) → is_cut cut ≡ true → chunks_given cut cs ≡ chunks_cut (pieces (most_of cut)) (filter is_lively_chunk cs)
given_cut Never cs e = absurd (true≢false (sym e))
given_cut Long cs e = refl
given_cut Short cs e = refl

-- the pieces of texts that are ready at this moment
of_one : (r : ℕ) (ts : List (List ℕ)) → map (λ (t : List ℕ). let c : Chunk = record { source = 0; ready = r; text = t } in c) ts ≡ map (chunk 0 r) ts
of_one r [] = refl
of_one r (t ∷ ts) = ap (λ cs. chunk 0 r t ∷ cs) (of_one r ts)

in_pieces_of : (n r : ℕ) (ts : List (List ℕ)) → chunks_in_pieces n (map (chunk 0 r) ts) ≡ map (chunk 0 r) (texts_in_pieces n ts)
in_pieces_of n r [] = refl
in_pieces_of n r (t ∷ ts) = go (is_blank t) (in_pieces_of n r ts)
  where
    go : (b : Bool) → chunks_in_pieces n (map (chunk 0 r) ts) ≡ map (chunk 0 r) (texts_in_pieces n ts)
        → chunks_cut (pieces n) (cond (not b) (chunk 0 r t ∷ filter is_lively_chunk (map (chunk 0 r) ts)) (filter is_lively_chunk (map (chunk 0 r) ts)))
        ≡ map (chunk 0 r) (flat_map (pieces n) (cond (not b) (t ∷ filter is_lively ts) (filter is_lively ts)))
    go true h = h
    go false h = (λ i. of_one r (pieces n t) i ++ h i) ∙ sym (map-append (chunk 0 r) (pieces n t) (texts_in_pieces n ts))

whole_of : (n r : ℕ) (ts : List (List ℕ)) → chunks_cut (pieces n) (map (chunk 0 r) ts) ≡ map (chunk 0 r) (flat_map (pieces n) ts)
whole_of n r [] = refl
whole_of n r (t ∷ ts) = (λ i. of_one r (pieces n t) i ++ whole_of n r ts i) ∙ sym (map-append (chunk 0 r) (pieces n t) (flat_map (pieces n) ts))

pub pieces_given : (cut : TextCut) (r : ℕ) (ts : List (List ℕ)) → chunks_given cut (map (chunk 0 r) ts) ≡ map (chunk 0 r) (texts_given cut ts)
pieces_given Never r ts = whole_of 1023 r ts
pieces_given Long r ts = in_pieces_of 1023 r ts
pieces_given Short r ts = in_pieces_of 128 r ts

-- ---- they are texts
both : (xs : List (List ℕ)) (ys : List (List ℕ)) → AllByRecursion (λ (t : List ℕ). has_text t ≡ true) xs → AllByRecursion IsUtf8 xs → AreHeardTexts ys → AreHeardTexts (xs ++ ys)
both [] ys h u a = a
both (x ∷ xs) ys h u a = (h.0, u.0, both xs ys h.1 u.1 a)

pieces_are : (n : ℕ) (ts : List (List ℕ)) → 4 ≤ n → AreHeardTexts ts → AreHeardTexts (texts_in_pieces n ts)
pieces_are n [] f a = tt
pieces_are n (t ∷ ts) f a = go (is_blank t) (pieces_are n ts f a.2)
  where
    go : (b : Bool) → AreHeardTexts (texts_in_pieces n ts) → AreHeardTexts (flat_map (pieces n) (cond (not b) (t ∷ filter is_lively ts) (filter is_lively ts)))
    go true h = h
    go false h = both (pieces n t) (texts_in_pieces n ts) ((whole_law n f).some t) (text_law n t f a.1) h

whole_are : (n : ℕ) (ts : List (List ℕ)) → 4 ≤ n → AreHeardTexts ts → AreHeardTexts (flat_map (pieces n) ts)
whole_are n [] f a = tt
whole_are n (t ∷ ts) f a = both (pieces n t) (flat_map (pieces n) ts) ((whole_law n f).some t) (text_law n t f a.1) (whole_are n ts f a.2)

pub given_texts : (cut : TextCut) (ts : List (List ℕ)) → AreHeardTexts ts → AreHeardTexts (texts_given cut ts)
given_texts Never ts a = whole_are 1023 ts (omega arith) a
given_texts Long ts a = pieces_are 1023 ts (omega arith) a
given_texts Short ts a = pieces_are 128 ts (omega arith) a

-- ---- one text
list_one : (t : List ℕ) → 0 < length t → text_list t ≡ t ∷ []
list_one [] l = absurd (omega arith)
list_one (x ∷ t) l = refl

in_pieces_more : (n : ℕ) (t : List ℕ) (ts : List (List ℕ)) → is_blank t ≡ false → texts_in_pieces n (t ∷ ts) ≡ pieces n t ++ texts_in_pieces n ts
in_pieces_more n t ts e = ap (λ b. flat_map (pieces n) (cond (not b) (t ∷ filter is_lively ts) (filter is_lively ts))) e

in_pieces_less : (n : ℕ) (t : List ℕ) (ts : List (List ℕ)) → is_blank t ≡ true → texts_in_pieces n (t ∷ ts) ≡ texts_in_pieces n ts
in_pieces_less n t ts e = ap (λ b. flat_map (pieces n) (cond (not b) (t ∷ filter is_lively ts) (filter is_lively ts))) e

pub given_more : (cut : TextCut) (t : List ℕ) (ts : List (List ℕ)) → 0 < length t → is_dropped cut t ≡ false → texts_given cut (t ∷ ts) ≡ text_pieces cut t ++ texts_given cut ts
given_more Never t ts l e = refl
given_more Long t ts l e = in_pieces_more 1023 t ts e
given_more Short t ts l e = in_pieces_more 128 t ts e

pub given_less : (cut : TextCut) (t : List ℕ) (ts : List (List ℕ)) → is_dropped cut t ≡ true → texts_given cut (t ∷ ts) ≡ texts_given cut ts
given_less Never t ts e = absurd (true≢false (sym e))
given_less Long t ts e = in_pieces_less 1023 t ts e
given_less Short t ts e = in_pieces_less 128 t ts e

-- a short one is its own piece
pub piece_whole : (cut : TextCut) (t : List ℕ) → 0 < length t → length t ≤ most_of cut → text_pieces cut t ≡ t ∷ []
piece_whole Never t l m = stays_law 1023 t m ∙ list_one t l
piece_whole Long t l m = stays_law 1023 t m ∙ list_one t l
piece_whole Short t l m = stays_law 128 t m ∙ list_one t l

-- a long one begins with one
pub piece_cut : (cut : TextCut) (t : List ℕ) → most_of cut < length t → text_pieces cut t ≡ take (cut_at (most_of cut) t) t ∷ text_pieces cut (drop (cut_at (most_of cut) t) t)
piece_cut Never t m = step_law 1023 t (omega arith) m
piece_cut Long t m = step_law 1023 t (omega arith) m
piece_cut Short t m = step_law 128 t (omega arith) m

-- and what is handed out of one that is dropped, or that is not
pub one_dropped : (cut : TextCut) (t : List ℕ) → is_dropped cut t ≡ true → texts_given cut (t ∷ []) ≡ []
one_dropped cut t e = given_less cut t [] e ∙ texts_nil cut

pub one_given : (cut : TextCut) (t : List ℕ) → 0 < length t → is_dropped cut t ≡ false → length t ≤ most_of cut → texts_given cut (t ∷ []) ≡ t ∷ []
one_given cut t l e m =
    given_more cut t [] l e
    ∙ ((λ i. piece_whole cut t l m i ++ texts_nil cut i))

-- ---- what is handed out as it is heard
pub never_cut : (wait place source : ℕ) (past : List Arrival) → AreTextArrivals past → AreShortArrivals past → chunks_given Never (chunks wait place past source) ≡ chunks wait place past source
never_cut wait place source past texts short =
    let cs : List Chunk = chunks wait place past source in
    stay_law 1023 cs (chunks_law wait place past source texts) (within cs (short_law wait place source past short))
