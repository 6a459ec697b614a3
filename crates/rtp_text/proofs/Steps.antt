-- One header, or one block, more.
use Rattle.std.proofs.Common.{◌≡◌, ℕ, zero, suc, ◌+◌, ◌-◌, ◌*◌, ◌&&◌, ◌<◌, ◌≤◌, ◌≢◌, Bool, true, false, cond, ltb, List, [], ◌∷◌, ◌++◌, length, drop, take, eqb, inl, inr, ◌⊎◌, Option, None, Some, Result, Ok, Err, refl, sym, ap, subst, ◌∙◌, append_assoc, arith}
use Rattle.std.proofs.lemmas.List.{length_push, append-nil, drop-drop}
use Rattle.std.proofs.lemmas.Bool.{lt-ltb, le-ltb, ne_eqb, false≢true}
use Rattle.std.proofs.lemmas.Str.{IsUtf8-from_is_utf8, is_utf8-from_IsUtf8}
use Rattle.std.specs.Prelude.{IsUtf8, IsTrue, ◌↔◌}
use Rattle.std.specs.Str.{is_utf8}
use Rattle.rtt_base.specs.declared.blocks.TextBlock.{TextBlock}
use Rattle.wire_spec.specs.declared.headers.RedHeader.{RedHeader}
use Rattle.wire_spec.specs.declared.faults.RedFault.{RedFault}
use Rattle.wire_spec.specs.declared.faults.RedFault.TheVariants.{Cut, Many, Long, NotText}
use Rattle.rtt_base.specs.Steps.{◌>>=◌}
use Rattle.wire_spec.specs.Steps.{Gives}
use Rattle.wire_spec.specs.Packets.{primary}
use Rattle.wire_spec.specs.Red.{Headers, all_utf8, and_others, blocks_at, checked, header_at, header_of, headers_at, older_size, texts_within, with_header}
use Rattle.rtp_text.specs.Reading.{headers_of, after_headers, after_blocks, after_block}

-- ---- blocks

-- a test for UTF-8 answers as the definition does
tested : (text : List ℕ) (yes asked : Bool) → is_utf8 text ≡ yes → (IsTrue asked ↔ IsUtf8 text) → is_utf8 text ≡ asked
tested text true true e h = e
tested text false false e h = e
tested text true false e h = let k : false ≡ true = h.1 (IsUtf8-from_is_utf8 text e) in cc
tested text false true e h = let k : false ≡ true = sym e ∙ is_utf8-from_IsUtf8 text (h.0 refl) in cc

pub block_refused : (front : List TextBlock) (offset : ℕ) (text : List ℕ) → (IsTrue false ↔ IsUtf8 text) → after_block front offset text ≡ Err NotText
block_refused front offset text h = rw (tested text (is_utf8 text) false refl h) refl

pub block_taken : (front : List TextBlock) (offset : ℕ) (text : List ℕ) (new : List TextBlock) → (IsTrue true ↔ IsUtf8 text) → new ≡ front ++ record { offset = offset; text = text } ∷ [] → after_block front offset text ≡ Ok new
block_taken front offset text new h e = rw (tested text (is_utf8 text) true refl h) (ap (λ (bs : List TextBlock). Ok bs) (sym e))

-- ---- texts

pub after_none : (read : Result (List TextBlock) RedFault) → after_blocks [] read ≡ read
after_none (Ok bs) = refl
after_none (Err e) = refl

pub too_short : (most : ℕ) (hs : List RedHeader) (octets : List ℕ) → length octets < older_size hs → texts_within most hs octets ≡ Err Cut
unfolding texts_within
too_short most hs octets h = rw (lt-ltb _ _ h) refl

pub too_long : (most : ℕ) (hs : List RedHeader) (octets : List ℕ) → older_size hs ≤ length octets → older_size hs + most < length octets → texts_within most hs octets ≡ Err Long
unfolding texts_within
too_long most hs octets h k = rw (le-ltb _ _ h, lt-ltb _ _ k) refl

pub texts_read : (most : ℕ) (hs : List RedHeader) (octets : List ℕ) → older_size hs ≤ length octets → length octets ≤ older_size hs + most → texts_within most hs octets ≡ checked (blocks_at hs octets)
unfolding texts_within
texts_read most hs octets h k = rw (le-ltb _ _ h, le-ltb _ _ k) refl

-- ---- headers

-- the headers so far, those of the rest, and the one between
regroup : (front : List RedHeader) (h : RedHeader) (read : Result Headers RedFault) → after_headers front (read >>= λ hs. Ok (with_header h hs)) ≡ after_headers (front ++ h ∷ []) read
regroup front h (Ok hs) = ap (λ (all : List RedHeader). Ok (record { headers = all; texts = hs.texts })) (simp append_assoc)
regroup front h (Err e) = refl

-- whether no more redundant headers may come
abbrev pub no_room : ℕ → Bool
no_room zero = true
no_room (suc n) = false

full_of : (n room : ℕ) → n ≤ 8 → 8 - n ≡ room → eqb n 8 ≡ no_room room
full_of n zero few e = let k : n ≡ 8 = omega arith in rw k refl
full_of n (suc room) few e = ne_eqb n 8 (λ k. omega arith)

-- the test of the code is that of the definition
pub same_header : (n : ℕ) (full : Bool) (t140 : ℕ) (octets : List ℕ) (header : Result (Option RedHeader) RedFault) → n ≤ 8 → full ≡ eqb n 8 → header ≡ header_at full t140 octets → header_at (no_room (8 - n)) t140 octets ≡ header
same_header n full t140 octets header few e h = rw (← full_of n (8 - n) few refl, ← e) (sym h)

next : (room t140 : ℕ) (octets : List ℕ) (h : RedHeader) (front : List RedHeader) → header_at false t140 octets ≡ Ok (Some h) → after_headers front (headers_at (suc room) t140 octets) ≡ after_headers (front ++ h ∷ []) (headers_at room t140 (drop 4 octets))
unfolding headers_at
next room t140 octets h front e = rw e (regroup front h (headers_at room t140 (drop 4 octets)))

pub few_more : (front : List RedHeader) (h : RedHeader) (full : Bool) → length front ≤ 8 → full ≡ eqb (length front) 8 → full ≡ false → length (front ++ h ∷ []) ≤ 8
few_more front h full few e open_ =
    let n : length front ≢ 8 = λ (k : length front ≡ 8). false≢true (sym open_ ∙ e ∙ rw k refl) in
    omega (arith, length_push front h)

-- one more redundant header
pub header_more : (front : List RedHeader) (h : RedHeader) (full : Bool) (t140 : ℕ) (octets : List ℕ) (total : Result Headers RedFault) → length front ≤ 8 → full ≡ eqb (length front) 8 → full ≡ false → Ok (Some h) ≡ header_at full t140 octets
    → after_headers front (headers_at (8 - length front) t140 octets) ≡ total → after_headers (front ++ h ∷ []) (headers_at (8 - length (front ++ h ∷ [])) t140 (drop 4 octets)) ≡ total
header_more front h full t140 octets total few e open_ header so_far =
    let few_new = few_more front h full few e open_ in
    let k : 8 - length front ≡ suc (8 - length (front ++ h ∷ [])) = omega (arith, length_push front h) in
    let at : header_at false t140 octets ≡ Ok (Some h) = ap (λ (b : Bool). header_at b t140 octets) (sym open_) ∙ sym header in
    let one : after_headers front (headers_at (8 - length front) t140 octets) ≡ after_headers (front ++ h ∷ []) (headers_at (8 - length (front ++ h ∷ [])) t140 (drop 4 octets)) =
    rw k (next (8 - length (front ++ h ∷ [])) t140 octets h front at) in
    sym one ∙ so_far

-- the last header, or one that is refused
headers_end : (room : ℕ) (t140 : ℕ) (octets : List ℕ) (header : Result (Option RedHeader) RedFault) → header_at (no_room room) t140 octets ≡ header → (header ≡ Ok None) ⊎ ((e : RedFault) × (header ≡ Err e)) → headers_at room t140 octets ≡ header >>= and_others octets (Err Many)
unfolding headers_at
headers_end zero t140 octets header e k = rw e refl
headers_end (suc room) t140 octets header e k =
    elim k [ inl last ↦ rw (e, last) refl | inr refused ↦ rw (e, refused.1) refl ]

pub header_last : (front : List RedHeader) (full : Bool) (t140 : ℕ) (octets : List ℕ) (total : Result Headers RedFault) → length front ≤ 8 → full ≡ eqb (length front) 8 → Ok None ≡ header_at full t140 octets
    → after_headers front (headers_at (8 - length front) t140 octets) ≡ total → total ≡ Ok (record { headers = front; texts = drop 1 octets })
header_last front full t140 octets total few e header so_far =
    let at = headers_end (8 - length front) t140 octets (Ok None) (same_header (length front) full t140 octets (Ok None) few e header) (inl refl) in
    sym so_far ∙ ap (after_headers front) at ∙ ap (λ (hs : List RedHeader). Ok (record { headers = hs; texts = drop 1 octets })) (append-nil front)

pub header_refused : (front : List RedHeader) (full : Bool) (t140 : ℕ) (octets : List ℕ) (total : Result Headers RedFault) (fault : RedFault) → length front ≤ 8 → full ≡ eqb (length front) 8 → Err fault ≡ header_at full t140 octets
    → after_headers front (headers_at (8 - length front) t140 octets) ≡ total → total ≡ Err fault
header_refused front full t140 octets total fault few e header so_far =
    let at = headers_end (8 - length front) t140 octets (Err fault) (same_header (length front) full t140 octets (Err fault) few e header) (inr (fault, refl)) in
    sym so_far ∙ ap (after_headers front) at

-- ---- headers as they stand

pub headers_cut : (n : ℕ) (octets : List ℕ) → 0 < n → headers_of n octets ≡ header_of octets ∷ headers_of (n - 1) (drop 4 octets)
headers_cut zero octets l = absurd (omega arith)
headers_cut (suc n) octets l = let e : suc n - 1 ≡ n = omega arith in rw e refl

pub headers_push : (n : ℕ) (octets : List ℕ) → headers_of (n + 1) octets ≡ headers_of n octets ++ header_of (drop (4 * n) octets) ∷ []
headers_push zero octets = refl
headers_push (suc n) octets =
    let k : suc n + 1 ≡ suc (n + 1) = omega arith in
    let d : 4 + 4 * n ≡ 4 * suc n = omega arith in
    rw k (ap (λ (hs : List RedHeader). header_of octets ∷ hs) (headers_push n (drop 4 octets)
    ∙ ap (λ (o : List ℕ). headers_of n (drop 4 octets) ++ header_of o ∷ []) (drop-drop (4 * n) 4 octets ∙ ap (λ (m : ℕ). drop m octets) d)))

pub headers_count : (n : ℕ) (octets : List ℕ) → length (headers_of n octets) ≡ n
headers_count zero octets = refl
headers_count (suc n) octets = ap suc (headers_count n (drop 4 octets))

pub size_push : (hs : List RedHeader) (h : RedHeader) → older_size (hs ++ h ∷ []) ≡ older_size hs + h.size
size_push [] h = omega arith
size_push (g ∷ hs) h = let r = size_push hs h in omega (arith, r)

-- ---- one block more

abbrev blocks_got : Result (List TextBlock) RedFault → List TextBlock
blocks_got (Ok bs) = bs
blocks_got (Err f) = []

one_block : (front : List TextBlock) (b : TextBlock) (bs new : List TextBlock) (u v : Bool) → cond u (Ok (front ++ b ∷ [])) (Err NotText) ≡ Ok new
    → after_blocks front (cond (u && v) (Ok (b ∷ bs)) (Err NotText)) ≡ after_blocks new (cond v (Ok bs) (Err NotText))
one_block front b bs new true true e = ap (λ (x : List TextBlock). Ok x) (sym (append_assoc front (b ∷ []) bs) ∙ ap (λ (x : List TextBlock). x ++ bs) (ap blocks_got e))
one_block front b bs new true false e = refl
one_block front b bs new false v e = cc e

no_block : (front : List TextBlock) (b : TextBlock) (bs : List TextBlock) (f : RedFault) (u v : Bool) → cond u (Ok (front ++ b ∷ [])) (Err NotText) ≡ Err f
    → after_blocks front (cond (u && v) (Ok (b ∷ bs)) (Err NotText)) ≡ Err f
no_block front b bs f true v e = cc e
no_block front b bs f false v e = cc e

pub next_block : (n : ℕ) (out new : List TextBlock) (heads rest : List ℕ) (h : RedHeader) (total : Result (List TextBlock) RedFault) → 0 < n → h ≡ header_of heads
    → after_block out h.offset (take h.size rest) ≡ Ok new → after_blocks out (checked (blocks_at (headers_of n heads) rest)) ≡ total
    → after_blocks new (checked (blocks_at (headers_of (n - 1) (drop 4 heads)) (drop h.size rest))) ≡ total
next_block n out new heads rest h total l q e so_far =
    let bs = blocks_at (headers_of (n - 1) (drop 4 heads)) (drop h.size rest) in
    sym (one_block out (record { offset = h.offset; text = take h.size rest }) bs new (is_utf8 (take h.size rest)) (all_utf8 bs) e)
    ∙ (ap (λ (x : RedHeader). after_blocks out (checked (blocks_at (x ∷ headers_of (n - 1) (drop 4 heads)) rest))) q
    ∙ (ap (λ (hs : List RedHeader). after_blocks out (checked (blocks_at hs rest))) (sym (headers_cut n heads l)) ∙ so_far))

pub block_fault : (n : ℕ) (out : List TextBlock) (heads rest : List ℕ) (h : RedHeader) (total : Result (List TextBlock) RedFault) (f : RedFault) → 0 < n → h ≡ header_of heads
    → after_block out h.offset (take h.size rest) ≡ Err f → after_blocks out (checked (blocks_at (headers_of n heads) rest)) ≡ total → total ≡ Err f
block_fault n out heads rest h total f l q e so_far =
    let bs = blocks_at (headers_of (n - 1) (drop 4 heads)) (drop h.size rest) in
    sym so_far
    ∙ (ap (λ (hs : List RedHeader). after_blocks out (checked (blocks_at hs rest))) (headers_cut n heads l)
    ∙ (ap (λ (x : RedHeader). after_blocks out (checked (blocks_at (x ∷ headers_of (n - 1) (drop 4 heads)) rest))) (sym q)
    ∙ no_block out (record { offset = h.offset; text = take h.size rest }) bs f (is_utf8 (take h.size rest)) (all_utf8 bs) e))

-- behind the last header only the primary text is left
pub primary_last : (n : ℕ) (out : List TextBlock) (heads rest : List ℕ) → n ≡ 0 → after_block out 0 rest ≡ after_blocks out (checked (blocks_at (headers_of n heads) rest))
primary_last n out heads rest e = rw e (go (is_utf8 rest))
  where
    go : (u : Bool) → cond u (Ok (out ++ primary rest ∷ [])) (Err NotText) ≡ after_blocks out (cond (u && true) (Ok (primary rest ∷ [])) (Err NotText))
    go true = refl
    go false = refl

-- what the next header takes of the texts
pub next_size : (n : ℕ) (heads : List ℕ) (h : RedHeader) → 0 < n → h ≡ header_of heads → older_size (headers_of n heads) ≡ h.size + older_size (headers_of (n - 1) (drop 4 heads))
next_size n heads h l q = ap older_size (headers_cut n heads l) ∙ ap (λ (x : RedHeader). x.size + older_size (headers_of (n - 1) (drop 4 heads))) (sym q)

-- ---- headers counted

pub scan_refused : (n : ℕ) (octets rest : List ℕ) (t140 : ℕ) (total : Result Headers RedFault) (fault : RedFault) → n ≤ 8 → Err fault ≡ header_at (eqb n 8) t140 rest
    → after_headers (headers_of n octets) (headers_at (8 - n) t140 rest) ≡ total → total ≡ Err fault
scan_refused n octets rest t140 total fault few e so_far =
    let k = headers_count n octets in
    header_refused (headers_of n octets) (eqb n 8) t140 rest total fault (rw k few) (rw k refl) e (rw k so_far)

pub scan_last : (n : ℕ) (octets rest : List ℕ) (t140 : ℕ) (total : Result Headers RedFault) → n ≤ 8 → Ok None ≡ header_at (eqb n 8) t140 rest
    → after_headers (headers_of n octets) (headers_at (8 - n) t140 rest) ≡ total → total ≡ Ok (record { headers = headers_of n octets; texts = drop 1 rest })
scan_last n octets rest t140 total few e so_far =
    let k = headers_count n octets in
    header_last (headers_of n octets) (eqb n 8) t140 rest total (rw k few) (rw k refl) e (rw k so_far)

-- the next header is the one that stands there
pub pushed : (n : ℕ) (octets rest : List ℕ) (h : RedHeader) → rest ≡ drop (4 * n) octets → h ≡ header_of rest → headers_of n octets ++ h ∷ [] ≡ headers_of (n + 1) octets
pushed n octets rest h at is = ap (λ (x : RedHeader). headers_of n octets ++ x ∷ []) (is ∙ ap header_of at) ∙ sym (headers_push n octets)

pub scan_more : (n : ℕ) (octets rest : List ℕ) (h : RedHeader) (t140 : ℕ) (total : Result Headers RedFault) → n ≤ 8 → rest ≡ drop (4 * n) octets → h ≡ header_of rest → eqb n 8 ≡ false → Ok (Some h) ≡ header_at (eqb n 8) t140 rest
    → after_headers (headers_of n octets) (headers_at (8 - n) t140 rest) ≡ total → after_headers (headers_of (n + 1) octets) (headers_at (8 - (n + 1)) t140 (drop 4 rest)) ≡ total
scan_more n octets rest h t140 total few at is open_ e so_far =
    let k = headers_count n octets in
    subst (λ (m : ℕ). after_headers (headers_of (n + 1) octets) (headers_at (8 - m) t140 (drop 4 rest)) ≡ total) (headers_count (n + 1) octets)
    (subst (λ (hs : List RedHeader). after_headers hs (headers_at (8 - length hs) t140 (drop 4 rest)) ≡ total) (pushed n octets rest h at is)
    (header_more (headers_of n octets) h (eqb n 8) t140 rest total (rw k few) (rw k refl) open_ e (rw k so_far)))

pub size_more : (n : ℕ) (octets rest : List ℕ) (h : RedHeader) → rest ≡ drop (4 * n) octets → h ≡ header_of rest → older_size (headers_of (n + 1) octets) ≡ older_size (headers_of n octets) + h.size
size_more n octets rest h at is = ap older_size (sym (pushed n octets rest h at is)) ∙ size_push (headers_of n octets) h

pub block_length : (front new : List TextBlock) (offset : ℕ) (text : List ℕ) → after_block front offset text ≡ Ok new → length new ≡ length front + 1
block_length front new offset text e = go (is_utf8 text) e
  where
    go : (u : Bool) → cond u (Ok (front ++ record { offset = offset; text = text } ∷ [])) (Err NotText) ≡ Ok new → length new ≡ length front + 1
    go true q = ap length (sym (ap blocks_got q)) ∙ length_push front (record { offset = offset; text = text })
    go false q = cc q
