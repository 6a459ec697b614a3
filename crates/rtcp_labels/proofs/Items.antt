-- One item, or one chunk, more.
use Rattle.std.proofs.Common.{◌≡◌, ℕ, zero, suc, ◌+◌, ◌-◌, ◌<◌, ◌≤◌, Bool, true, false, List, [], ◌∷◌, ◌++◌, length, drop, length-drop, None, Some, Result, Ok, Err, refl, sym, ap, ◌∙◌, arith}
use Rattle.std.specs.Prelude.{nat_lt, ◌==◌, ◌&&◌, if◌then◌else◌, slice_index, IsUtf8}
use Rattle.std.specs.Str.{is_utf8}
use Rattle.std.proofs.lemmas.Bool.{lt-ltb, eq-eqb}
use Rattle.std.proofs.lemmas.Str.{is_utf8-from_IsUtf8, IsUtf8-from_is_utf8}
use Rattle.std.specs.Int.{w32, from_be_bytes}
use Rattle.rtt_base.specs.Steps.{◌>>=◌}
use Rattle.wire_spec.specs.declared.events.Event.{Event}
use Rattle.wire_spec.specs.declared.events.Event.TheVariants as event
use Rattle.wire_spec.specs.declared.rtcp_faults.RtcpRefusal.{RtcpRefusal}
use Rattle.wire_spec.specs.declared.rtcp_faults.RtcpRefusal.TheVariants as faults
use Rattle.wire_spec.specs.Rtcp.{Item, item_at, name_in, Told, and_items, items_within, items, fill, filled, chunk_at, chunks, byes}
use Rattle.rtcp_labels.specs.Notes.{Notes, noted, all_noted, Noted, after, after_all}
use Rattle.rtcp_labels.proofs.Noting.{noted_both, after_more}

-- the octets behind the item in front
abbrev pub behind : List ℕ → List ℕ
behind octets = drop (2 + slice_index octets 1) octets

shorter : (x : ℕ) (xs : List ℕ) → length (behind (x ∷ xs)) ≤ length xs
shorter x xs = omega (arith, length-drop (2 + slice_index (x ∷ xs) 1) (x ∷ xs))

-- more steps than there are octets change nothing
same : (n m ssrc : ℕ) (octets : List ℕ) → length octets ≤ n → length octets ≤ m → items_within n ssrc octets ≡ items_within m ssrc octets
unfolding items_within
same zero zero ssrc octets h k = refl
same zero (suc m) ssrc [] h k = refl
same (suc n) zero ssrc [] h k = refl
same (suc n) (suc m) ssrc [] h k = refl
same zero (suc m) ssrc (x ∷ xs) h k = absurd (omega arith)
same (suc n) zero ssrc (x ∷ xs) h k = absurd (omega arith)
same (suc n) (suc m) ssrc (x ∷ xs) h k =
    ap (λ (read : Result Told RtcpRefusal). item_at (x ∷ xs) >>= and_items ssrc (x ∷ xs) read)
    (same n m ssrc (behind (x ∷ xs)) (omega (arith, shorter x xs)) (omega (arith, shorter x xs)))

unroll : (ssrc : ℕ) (octets : List ℕ) → items ssrc octets ≡ (item_at octets >>= and_items ssrc octets (items ssrc (behind octets)))
unfolding items_within
unroll ssrc [] = refl
unroll ssrc (x ∷ xs) =
    ap (λ (read : Result Told RtcpRefusal). item_at (x ∷ xs) >>= and_items ssrc (x ∷ xs) read)
    (same (length xs) (length (behind (x ∷ xs))) ssrc (behind (x ∷ xs)) (shorter x xs) (omega arith))

pub item_refused : (n : Notes) (ssrc : ℕ) (octets : List ℕ) (fault : RtcpRefusal) → item_at octets ≡ Err fault → after n (items ssrc octets) ≡ Err fault
item_refused n ssrc octets fault e = ap (after n) (unroll ssrc octets) ∙ rw e refl

pub item_more : (n : Notes) (ssrc : ℕ) (octets : List ℕ) (i : Item) → item_at octets ≡ Ok (Some i)
    → after n (items ssrc octets) ≡ after (all_noted n (name_in ssrc i)) (items ssrc (drop (2 + slice_index octets 1) octets))
item_more n ssrc octets i e = ap (after n) (unroll ssrc octets) ∙ rw e (after_more n (name_in ssrc i) (items ssrc (behind octets)))

pub item_last : (n : Notes) (ssrc : ℕ) (octets : List ℕ) → item_at octets ≡ Ok None → after n (items ssrc octets) ≡ Ok (record { noted = n; rest = drop 1 octets })
item_last n ssrc octets e = ap (after n) (unroll ssrc octets) ∙ rw e refl

pub item_step : (n m : Notes) (ssrc len : ℕ) (octets : List ℕ) (i : Item) → item_at octets ≡ Ok (Some i) → len ≡ slice_index octets 1 → m ≡ all_noted n (name_in ssrc i)
    → after m (items ssrc (drop (2 + len) octets)) ≡ after n (items ssrc octets)
item_step n m ssrc len octets i e size is = rw (size, is) (sym (item_more n ssrc octets i e))

-- what is told of an item that is a name, and of one that is none
pub named : (ssrc kind : ℕ) (text : List ℕ) → kind ≡ 2 → (length text == 0) ≡ false → IsUtf8 text → name_in ssrc (record { kind = kind; text = text }) ≡ event.Name ssrc text ∷ []
named ssrc kind [] two some utf8 = absurd cc
named ssrc kind (x ∷ xs) two some utf8 = rw (eq-eqb kind 2 two, lt-ltb 0 (length (x ∷ xs)) (omega arith), is_utf8-from_IsUtf8 (x ∷ xs) utf8) refl

pub not_named : (ssrc kind : ℕ) (text : List ℕ) → (IsUtf8 text → ⊥) → name_in ssrc (record { kind = kind; text = text }) ≡ []
not_named ssrc kind text none = go (kind == 2) (nat_lt 0 (length text)) (is_utf8 text) refl
  where
    go : (a b c : Bool) → is_utf8 text ≡ c → (if a && (b && c) then event.Name ssrc text ∷ [] else []) ≡ []
    go a b true e = absurd (none (IsUtf8-from_is_utf8 text e))
    go true true false e = refl
    go true false false e = refl
    go false b false e = refl

-- ---- chunks

got : Noted → Result Noted RtcpRefusal → Noted
got d (Ok n) = n
got d (Err e) = d

abbrev alright : Noted → Result Noted RtcpRefusal
alright n = Ok n

-- what was read is the one thing that was read
parts : (a b : Noted) → alright a ≡ alright b → a ≡ b
unfolding got
parts a b e = ap (got a) e

pub items_refused : (n : Notes) (octets : List ℕ) (read : Result Told RtcpRefusal) (fault : RtcpRefusal) → after n read ≡ Err fault → after n (read >>= filled octets) ≡ Err fault
items_refused n octets (Ok told) fault e = absurd cc
items_refused n octets (Err d) fault e = e

pub not_filled : (n new : Notes) (octets rest : List ℕ) (read : Result Told RtcpRefusal) → after n read ≡ Ok (record { noted = new; rest = rest })
    → nat_lt (length rest) (fill (length octets - length rest)) ≡ true → after n (read >>= filled octets) ≡ Err faults.Items
not_filled n new octets rest (Err d) e short = absurd cc
not_filled n new octets rest (Ok told) e short =
    let is : told.rest ≡ rest = ap (λ (x : Noted). x.rest) (parts _ _ e) in
    rw (is, short) refl

pub is_filled : (n new : Notes) (octets rest : List ℕ) (read : Result Told RtcpRefusal) → after n read ≡ Ok (record { noted = new; rest = rest })
    → nat_lt (length rest) (fill (length octets - length rest)) ≡ false
    → after n (read >>= filled octets) ≡ Ok (record { noted = new; rest = drop (fill (length octets - length rest)) rest })
is_filled n new octets rest (Err d) e there = absurd cc
is_filled n new octets rest (Ok told) e there =
    let is : told.rest ≡ rest = ap (λ (x : Noted). x.rest) (parts _ _ e) in
    let new_is : all_noted n told.events ≡ new = ap (λ (x : Noted). x.noted) (parts _ _ e) in
    rw (is, there, new_is) refl

pub chunk_refused : (n : Notes) (left : ℕ) (octets : List ℕ) (fault : RtcpRefusal) → after n (chunk_at octets) ≡ Err fault → after_all n (chunks (suc left) octets) ≡ Err fault
unfolding chunks
chunk_refused n left octets fault e = go (chunk_at octets) e
  where
    go : (read : Result Told RtcpRefusal) → after n read ≡ Err fault → after_all n (read >>= λ told. chunks left told.rest >>= λ events. Ok (told.events ++ events)) ≡ Err fault
    go (Ok told) h = absurd cc
    go (Err d) h = let is : d ≡ fault = cc in rw is refl

pub chunk_more : (n new : Notes) (left : ℕ) (octets rest : List ℕ) → after n (chunk_at octets) ≡ Ok (record { noted = new; rest = rest })
    → after_all n (chunks (suc left) octets) ≡ after_all new (chunks left rest)
unfolding chunks
chunk_more n new left octets rest e = go (chunk_at octets) e
  where
    others : (told : Told) (read : Result (List Event) RtcpRefusal) → after_all n (read >>= λ events. Ok (told.events ++ events)) ≡ after_all (all_noted n told.events) read
    others told (Ok events) = ap (λ (all : Notes). Ok all) (noted_both n told.events events)
    others told (Err d) = refl

    go : (read : Result Told RtcpRefusal) → after n read ≡ Ok (record { noted = new; rest = rest })
        → after_all n (read >>= λ told. chunks left told.rest >>= λ events. Ok (told.events ++ events)) ≡ after_all new (chunks left rest)
    go (Err d) h = absurd cc
    go (Ok told) h =
        let is : told.rest ≡ rest = ap (λ (x : Noted). x.rest) (parts _ _ h) in
        let new_is : all_noted n told.events ≡ new = ap (λ (x : Noted). x.noted) (parts _ _ h) in
        others told (chunks left told.rest) ∙ rw (is, new_is) refl

-- ---- where some are left

pub chunk_refused_of : (n : Notes) (left : ℕ) (octets : List ℕ) (fault : RtcpRefusal) → 0 < left → after n (chunk_at octets) ≡ Err fault → after_all n (chunks left octets) ≡ Err fault
chunk_refused_of n zero octets fault some e = absurd (omega arith)
chunk_refused_of n (suc left) octets fault some e = chunk_refused n left octets fault e

pub chunk_more_of : (n new : Notes) (left : ℕ) (octets rest : List ℕ) → 0 < left → after n (chunk_at octets) ≡ Ok (record { noted = new; rest = rest })
    → after_all new (chunks (left - 1) rest) ≡ after_all n (chunks left octets)
chunk_more_of n new zero octets rest some e = absurd (omega arith)
chunk_more_of n new (suc left) octets rest some e =
    let one : suc left - 1 ≡ left = omega arith in
    rw one (sym (chunk_more n new left octets rest e))

pub chunks_done : (n : Notes) (left : ℕ) (octets : List ℕ) → left ≡ 0 → after_all n (chunks left octets) ≡ Ok n
unfolding chunks
chunks_done n left octets none = rw none refl

pub bye_more : (n m : Notes) (left ssrc : ℕ) (octets : List ℕ) → 0 < left → ssrc ≡ from_be_bytes w32 octets → m ≡ noted n (event.Bye ssrc)
    → all_noted m (byes (left - 1) (drop 4 octets)) ≡ all_noted n (byes left octets)
bye_more n m zero ssrc octets some is noted_is = absurd (omega arith)
bye_more n m (suc left) ssrc octets some is noted_is =
    let one : suc left - 1 ≡ left = omega arith in
    rw (one, noted_is, is) refl
