-- The texts of the chunks are what is heard, and their moments never fall.
use Rattle.std.proofs.Common.{◌≡◌, ℕ, suc, ◌+◌, ◌-◌, ◌<◌, ◌≤◌, Bool, inl, inr, Option, Some, None, List, [], ◌∷◌, ◌++◌, refl, ap, ◌∙◌, arith}
use Rattle.std.specs.Prelude.{map, filter}
use Rattle.std.proofs.lemmas.List.{map-append}
use Rattle.wire_spec.specs.Packets.{Arrival}
use Rattle.stream_spec.specs.Lists.{In}
use Rattle.stream_spec.specs.Numbering.{Numbered, RisingNumbers, Falling, numbered, used, has_number, first_number}
use Rattle.stream_spec.specs.Hearing.{piece, heard_over, heard, is_packet_of}
use Rattle.stream_spec.specs.Ready.{Chunk, chunk, chunks_over, chunks, ready_of, latest_end, ReadyRises}
use Rattle.stream_spec.proofs.LatestEnds.{last_up}
use Rattle.stream_spec.proofs.Lists.{in_append, in_filter}
use Rattle.stream_spec.proofs.Rising.{used_rises, used_above, rising_filter}
use Rattle.stream_spec.proofs.Ready.{end_used}

texts_back : (place ready : ℕ) (ts : List (List ℕ)) → map (λ (c : Chunk). c.text) (map (chunk place ready) ts) ≡ ts
texts_back place ready [] = refl
texts_back place ready (t ∷ ts) = ap (λ us. t ∷ us) (texts_back place ready ts)

pub over_texts : (ready : Numbered → ℕ) (place : ℕ) (present : ℕ → Bool) (first : ℕ) (prev : Option Numbered) (us : List Numbered)
    → map (λ (c : Chunk). c.text) (chunks_over ready place present first prev us) ≡ heard_over present first prev us
over_texts ready place present first prev [] = refl
over_texts ready place present first prev (u ∷ us) =
    map-append (λ (c : Chunk). c.text) (map (chunk place (ready u)) (piece present first prev u)) (chunks_over ready place present first (Some u) us)
    ∙ (ap (λ ts. ts ++ map (λ (c : Chunk). c.text) (chunks_over ready place present first (Some u) us)) (texts_back place (ready u) (piece present first prev u))
    ∙ ap (λ ts. piece present first prev u ++ ts) (over_texts ready place present first (Some u) us))

pub chunk_texts : (wait place : ℕ) (a : List Arrival) (s : ℕ) → map (λ (c : Chunk). c.text) (chunks wait place a s) ≡ heard wait a s
chunk_texts wait place a s =
    over_texts (ready_of wait (numbered a)) place (has_number (used wait (numbered a))) (first_number 0 (numbered a)) None (filter (is_packet_of s) (used wait (numbered a)))

-- ---- ready times
-- a used packet has come by the last end up to its number
used_by : (wait : ℕ) (past : List Numbered) (u : Numbered) → Falling past → In u (used wait past) → first_number 0 past ≤ u.number → u.time ≤ latest_end wait past (first_number 0 past) (suc u.number - first_number 0 past)
used_by wait past u f i l =
    let r = end_used wait past u f i in
    let k : suc u.number - first_number 0 past ≡ suc (u.number - first_number 0 past) = omega arith in
    let at : first_number 0 past + (u.number - first_number 0 past) ≡ u.number = omega arith in
    rw (k, at, r.1) (omega arith)

-- a later packet of these is ready no earlier
ready_up : (wait : ℕ) (past : List Numbered) (u v : Numbered) → Falling past → In u (used wait past) → first_number 0 past ≤ u.number → u.number < v.number → ready_of wait past u ≤ ready_of wait past v
ready_up wait past u v f i l lt =
    let a = used_by wait past u f i l in
    let b = last_up wait past (first_number 0 past) (suc u.number - first_number 0 past) (suc v.number - first_number 0 past) (omega arith) in
    omega arith

chunk_in : (ready : Numbered → ℕ) (place : ℕ) (present : ℕ → Bool) (first : ℕ) (prev : Option Numbered) (us : List Numbered) (c : Chunk)
    → In c (chunks_over ready place present first prev us) → (u : Numbered) × In u us × (c.ready ≡ ready u)
chunk_in ready place present first prev [] c i = absurd i
chunk_in ready place present first prev (u ∷ us) c i = elim (in_append c (map (chunk place (ready u)) (piece present first prev u)) (chunks_over ready place present first (Some u) us) i) [
  | inl j ↦ (u, inl refl, one (piece present first prev u) j)
  | inr j ↦ let r = chunk_in ready place present first (Some u) us c j in (r.0, inr r.1, r.2)
]
  where
    one : (ts : List (List ℕ)) → In c (map (chunk place (ready u)) ts) → c.ready ≡ ready u
    one [] j = absurd j
    one (t ∷ ts) (inl e) = ap (λ (d : Chunk). d.ready) e
    one (t ∷ ts) (inr j) = one ts j

rises_append : (n place : ℕ) (ts : List (List ℕ)) (cs : List Chunk) → ((c : Chunk) → In c cs → n ≤ c.ready) → ReadyRises cs → ReadyRises (map (chunk place n) ts ++ cs)
rises_append n place [] cs f r = r
rises_append n place (t ∷ ts) cs f r = ((λ c i. elim (in_append c (map (chunk place n) ts) cs i) [ inl j ↦ same ts c j | inr j ↦ f c j ]), rises_append n place ts cs f r)
  where
    same : (us : List (List ℕ)) (c : Chunk) → In c (map (chunk place n) us) → n ≤ c.ready
    same [] c j = absurd j
    same (u ∷ us) c (inl e) = omega (arith, ap (λ (d : Chunk). d.ready) e)
    same (u ∷ us) c (inr j) = same us c j

over_rises : (ready : Numbered → ℕ) (place : ℕ) (present : ℕ → Bool) (first : ℕ) (prev : Option Numbered) (us : List Numbered) → RisingNumbers us
    → ((u v : Numbered) → In u us → In v us → u.number < v.number → ready u ≤ ready v) → ReadyRises (chunks_over ready place present first prev us)
over_rises ready place present first prev [] r f = tt
over_rises ready place present first prev (u ∷ us) r f =
    rises_append (ready u) place (piece present first prev u) (chunks_over ready place present first (Some u) us)
    (λ c i. let w = chunk_in ready place present first (Some u) us c i in let l = f u w.0 (inl refl) (inr w.1) (r.0 w.0 w.1) in omega (arith, w.2))
    (over_rises ready place present first (Some u) us r.1 (λ v w i j. f v w (inr i) (inr j)))

pub chunks_rise : (wait place : ℕ) (a : List Arrival) (s : ℕ) → Falling (numbered a) → ReadyRises (chunks wait place a s)
chunks_rise wait place a s f =
    over_rises (ready_of wait (numbered a)) place (has_number (used wait (numbered a))) (first_number 0 (numbered a)) None (filter (is_packet_of s) (used wait (numbered a)))
    (rising_filter (is_packet_of s) (used wait (numbered a)) (used_rises wait (numbered a)))
    (λ u v i j l. let m = (in_filter (is_packet_of s) u (used wait (numbered a)) i).0 in ready_up wait (numbered a) u v f m (used_above wait (numbered a) u 0 m) l)
