-- Chunks in pieces.
use Rattle.std.proofs.Common.{◌≡◌, ℕ, ◌≤◌, true, inl, inr, List, [], ◌∷◌, ◌++◌, length, append_assoc, refl, ap, sym, ◌∙◌, arith}
use Rattle.std.specs.Prelude.{map, IsUtf8}
use Rattle.std.specs.List.{AllByRecursion, flat_map}
use Rattle.wire_spec.specs.Packets.{has_text}
use Rattle.stream_spec.specs.Lists.{In}
use Rattle.stream_spec.specs.Hearing.{text_list}
use Rattle.stream_spec.specs.Ready.{Chunk, ReadyRises}
use Rattle.stream_spec.proofs.Lists.{in_append}
use Rattle.mixer_spec.specs.Laws.{AreTexts}
use Rattle.mixer_spec.specs.Chunks.{texts_of}
use Rattle.mixer_spec.proofs.Carries.{texts_append}
use Rattle.mixer_spec.specs.Pieces.{pieces, chunk_pieces, chunks_cut}
use Rattle.mixer_spec.proofs.Cutting as cut_texts
use Rattle.mixer_spec.proofs.PieceTold.{HasTexts}

abbrev pub as_chunks : Chunk → List (List ℕ) → List Chunk
as_chunks c ts = map (λ t. record { source = c.source; ready = c.ready; text = t }) ts

are_texts : (c : Chunk) (ts : List (List ℕ)) (rest : List Chunk) → HasTexts ts → AllByRecursion IsUtf8 ts → AreTexts rest → AreTexts (as_chunks c ts ++ rest)
are_texts c [] rest h u a = a
are_texts c (t ∷ ts) rest h u a = (h.0, u.0, are_texts c ts rest h.1 u.1 a)

pub cut_append : (cutting : List ℕ → List (List ℕ)) (xs ys : List Chunk) → chunks_cut cutting (xs ++ ys) ≡ chunks_cut cutting xs ++ chunks_cut cutting ys
cut_append cutting [] ys = refl
cut_append cutting (x ∷ xs) ys = ap (λ cs. chunk_pieces cutting x ++ cs) (cut_append cutting xs ys) ∙ sym (append_assoc (chunk_pieces cutting x) (chunks_cut cutting xs) (chunks_cut cutting ys))

-- ---- their texts
texts_as : (c : Chunk) (ts : List (List ℕ)) → texts_of (as_chunks c ts) ≡ ts
texts_as c [] = refl
texts_as c (t ∷ ts) = ap (λ xs. t ∷ xs) (texts_as c ts)

pub texts_cut : (cutting : List ℕ → List (List ℕ)) (cs : List Chunk) → texts_of (chunks_cut cutting cs) ≡ flat_map cutting (texts_of cs)
texts_cut cutting [] = refl
texts_cut cutting (c ∷ cs) =
    texts_append (chunk_pieces cutting c) (chunks_cut cutting cs)
    ∙ (ap (λ ts. ts ++ texts_of (chunks_cut cutting cs)) (texts_as c (cutting c.text)) ∙ ap (λ ts. cutting c.text ++ ts) (texts_cut cutting cs))

-- ---- each of them
pub texts_law : (n : ℕ) → 4 ≤ n → (cs : List Chunk) → AreTexts cs → AreTexts (chunks_cut (pieces n) cs)
texts_law n f [] a = tt
texts_law n f (c ∷ cs) a = are_texts c (pieces n c.text) (chunks_cut (pieces n) cs) ((cut_texts.whole_law n f).some c.text) (cut_texts.text_law n c.text f a.1) (texts_law n f cs a.2)

are_short : (n : ℕ) (c : Chunk) (ts : List (List ℕ)) (rest : List Chunk) → AllByRecursion (λ (t : List ℕ). length t ≤ n) ts → AllByRecursion (λ (c : Chunk). length c.text ≤ n) rest → AllByRecursion (λ (c : Chunk). length c.text ≤ n) (as_chunks c ts ++ rest)
are_short n c [] rest h a = a
are_short n c (t ∷ ts) rest h a = (h.0, are_short n c ts rest h.1 a)

pub short_law : (n : ℕ) → 4 ≤ n → (cs : List Chunk) → AllByRecursion (λ (c : Chunk). length c.text ≤ n) (chunks_cut (pieces n) cs)
short_law n f [] = tt
short_law n f (c ∷ cs) = are_short n c (pieces n c.text) (chunks_cut (pieces n) cs) (cut_texts.short_law n c.text f) (short_law n f cs)

-- a piece of chunks stands at the moment of one of them
moment_in : (cutting : List ℕ → List (List ℕ)) (cs : List Chunk) (t : ℕ) → ((d : Chunk) → In d cs → t ≤ d.ready) → (d : Chunk) → In d (chunks_cut cutting cs) → t ≤ d.ready
moment_in cutting [] t f d i = absurd i
moment_in cutting (c ∷ cs) t f d i = elim (in_append d (chunk_pieces cutting c) (chunks_cut cutting cs) i) [
  | inl j ↦ of_one (cutting c.text) j
  | inr j ↦ moment_in cutting cs t (λ e k. f e (inr k)) d j
]
  where
    of_one : (ts : List (List ℕ)) → In d (as_chunks c ts) → t ≤ d.ready
    of_one [] i = absurd i
    of_one (x ∷ ts) (inl e) = let l = f c (inl refl) in omega (arith, l, ap (λ (z : Chunk). z.ready) e)
    of_one (x ∷ ts) (inr i) = of_one ts i

one_rises : (c : Chunk) (ts : List (List ℕ)) (rest : List Chunk) → ReadyRises rest → ((d : Chunk) → In d rest → c.ready ≤ d.ready) → ReadyRises (as_chunks c ts ++ rest)
one_rises c [] rest r f = r
one_rises c (t ∷ ts) rest r f = (λ d i. elim (in_append d (as_chunks c ts) rest i) [ inl j ↦ same ts d j | inr j ↦ f d j ], one_rises c ts rest r f)
  where
    same : (ts : List (List ℕ)) (d : Chunk) → In d (as_chunks c ts) → c.ready ≤ d.ready
    same [] d i = absurd i
    same (x ∷ ts) d (inl e) = omega (arith, ap (λ (z : Chunk). z.ready) e)
    same (x ∷ ts) d (inr i) = same ts d i

pub rises_law : (cutting : List ℕ → List (List ℕ)) (cs : List Chunk) → ReadyRises cs → ReadyRises (chunks_cut cutting cs)
rises_law cutting [] r = tt
rises_law cutting (c ∷ cs) r = one_rises c (cutting c.text) (chunks_cut cutting cs) (rises_law cutting cs r.1) (moment_in cutting cs c.ready r.0)

-- a text is its own list
one_text : (text : List ℕ) → has_text text ≡ true → text_list text ≡ text ∷ []
one_text [] e = cc e
one_text (x ∷ text) e = refl

pub texts_stay : (n : ℕ) (ts : List (List ℕ)) → HasTexts ts → AllByRecursion (λ (t : List ℕ). length t ≤ n) ts → flat_map (pieces n) ts ≡ ts
texts_stay n [] h l = refl
texts_stay n (t ∷ ts) h l = ap (λ xs. xs ++ flat_map (pieces n) ts) (cut_texts.stays_law n t l.0 ∙ one_text t h.0) ∙ ap (λ xs. t ∷ xs) (texts_stay n ts h.1 l.1)

pub stay_law : (n : ℕ) (cs : List Chunk) → AreTexts cs → AllByRecursion (λ (c : Chunk). length c.text ≤ n) cs → chunks_cut (pieces n) cs ≡ cs
stay_law n [] a l = refl
stay_law n (c ∷ cs) a l =
    ap (λ ts. as_chunks c ts ++ chunks_cut (pieces n) cs) (cut_texts.stays_law n c.text l.0 ∙ one_text c.text a.0)
    ∙ ap (λ ds. c ∷ ds) (stay_law n cs a.2 l.1)
