-- Events that are written one behind the other are read back.
use Rattle.std.proofs.Common.{◌≡◌, ℕ, zero, suc, ◌+◌, ◌-◌, ◌*◌, ◌/◌, ◌%◌, ◌^◌, ◌<◌, ◌≤◌, false, List, [], ◌∷◌, ◌++◌, length, drop, replicate, Ok, Some, None, refl, ap, subst, ◌∙◌, arith, append_assoc, length-append}
use Rattle.std.specs.Prelude.{nat_lt, ◌==◌, IsUtf8}
use Rattle.std.specs.List.{flat_map, AllByRecursion}
use Rattle.std.specs.Int.{w16, w32, to_be_bytes}
use Rattle.std.proofs.lemmas.Bool.{le-ltb, lt-ltb}
use Rattle.std.proofs.Math.Dec.{eqb-suc-zero}
use Rattle.std.proofs.lemmas.List.{take_at, drop_at, append-nil, length-replicate}
use Rattle.std.proofs.lemmas.Nat.{from_be_bytes-to_be_bytes_2, from_be_bytes-to_be_bytes_4}
use Rattle.std.proofs.lemmas.Str.{is_utf8-from_IsUtf8}
use Rattle.wire_spec.specs.declared.events.Event.{Event}
use Rattle.wire_spec.specs.declared.events.Event.TheVariants as event
use Rattle.wire_spec.specs.Rtcp.{body_at, item_at, name_in, items_within, fill, filled, chunk_at, chunks, events_of, at_most_64, packet_read, packets_within, rtcp, event_written, FitsEvent}

-- ---- a chunk of one name

-- how many octets 0 stand behind the first that ends a chunk with so many octets of name
abbrev more_zeros : ℕ → ℕ
more_zeros len = 3 - (6 + len) % 4

abbrev nulls : ℕ → List ℕ
nulls n = replicate n 0

length_nulls : (n : ℕ) → length (nulls n) ≡ n
length_nulls n = let null : ℕ = 0 in length-replicate n null

zeros : (len : ℕ) → nulls (4 - (6 + len) % 4) ≡ 0 ∷ nulls (more_zeros len)
zeros len = ap nulls (is len)
  where
    is : (len : ℕ) → 4 - (6 + len) % 4 ≡ suc (more_zeros len)
    is len = omega arith

name_item : (len : ℕ) (text rest : List ℕ) → length text ≡ len → item_at (2 ∷ len ∷ (text ++ rest)) ≡ Ok (Some (record { kind = 2; text = text }))
name_item len text rest e =
    let two : nat_lt (length (2 ∷ len ∷ (text ++ rest))) 2 ≡ false = le-ltb _ 2 (omega arith) in
    let long : nat_lt (length (2 ∷ len ∷ (text ++ rest))) (2 + len) ≡ false = le-ltb _ (2 + len) (omega (arith, length-append text rest, e)) in
    rw (eqb-suc-zero (suc (length (text ++ rest))), two, long, take_at text rest len e) refl

end_item : (rest : List ℕ) → item_at (0 ∷ rest) ≡ Ok None
end_item rest = rw (eqb-suc-zero (length rest)) refl

name_told : (ssrc : ℕ) (text : List ℕ) → 0 < length text → IsUtf8 text → name_in ssrc (record { kind = 2; text = text }) ≡ event.Name ssrc text ∷ []
name_told ssrc text some utf8 = rw (lt-ltb 0 (length text) some, is_utf8-from_IsUtf8 text utf8) refl

named : (fuel ssrc len : ℕ) (text rest : List ℕ) → length text ≡ len → 0 < length text → IsUtf8 text
    → items_within (suc (suc fuel)) ssrc (2 ∷ len ∷ (text ++ 0 ∷ rest)) ≡ Ok (record { events = event.Name ssrc text ∷ []; rest = rest })
unfolding items_within
named fuel ssrc len text rest e some utf8 =
    let item = name_item len text (0 ∷ rest) e in
    let back : drop (2 + len) (2 ∷ len ∷ (text ++ 0 ∷ rest)) ≡ 0 ∷ rest = drop_at (2 ∷ len ∷ text) (0 ∷ rest) (2 + len) (omega (arith, e)) in
    rw (item, back, end_item rest, name_told ssrc text some utf8) refl

filled_is : (octets zs : List ℕ) (events : List Event) (k : ℕ) → fill (length octets - length zs) ≡ k → length zs ≡ k
    → filled octets (record { events = events; rest = zs }) ≡ Ok (record { events = events; rest = [] })
filled_is octets zs events k is long =
    let there : nat_lt (length zs) k ≡ false = le-ltb (length zs) k (omega (arith, long)) in
    let gone : drop k zs ≡ [] = subst (λ (xs : List ℕ). drop k xs ≡ []) (append-nil zs) (drop_at zs [] k long) in
    rw (is, there, gone) refl

chunk_of : (ssrc len k : ℕ) (text : List ℕ) → ssrc < 2 ^ 32 → length text ≡ len → 0 < length text → IsUtf8 text → k ≡ more_zeros len
    → chunk_at (to_be_bytes w32 ssrc ++ (2 ∷ len ∷ (text ++ 0 ∷ nulls k))) ≡ Ok (record { events = event.Name ssrc text ∷ []; rest = [] })
unfolding chunk_at
chunk_of ssrc len k text h e some utf8 is =
    let xs : List ℕ = 2 ∷ len ∷ (text ++ 0 ∷ nulls k) in
    let long : nat_lt (length (to_be_bytes w32 ssrc ++ xs)) 4 ≡ false = le-ltb _ 4 (omega arith) in
    let items = named (length (text ++ 0 ∷ nulls k)) ssrc len text (nulls k) e some utf8 in
    let all : length xs ≡ 3 + len + k = omega (arith, length-append text (0 ∷ nulls k), length_nulls k, e) in
    let fills : fill (length xs - length (nulls k)) ≡ k = omega (arith, all, length_nulls k, is) in
    rw (long, from_be_bytes-to_be_bytes_4 ssrc h, items) (filled_is xs (nulls k) (event.Name ssrc text ∷ []) k fills (length_nulls k))

-- ---- a packet

body_written : (kind n : ℕ) (body more : List ℕ) → n < 2 ^ 16 → length body ≡ 4 * n
    → body_at (129 ∷ kind ∷ (to_be_bytes w16 n ++ (body ++ more))) ≡ Ok (record { count = 1; kind = kind; octets = body; rest = more })
unfolding body_at
body_written kind n body more h e =
    let behind : List ℕ = body ++ more in
    let four : nat_lt (length (129 ∷ kind ∷ (to_be_bytes w16 n ++ behind))) 4 ≡ false = le-ltb _ 4 (omega arith) in
    let long : nat_lt (length behind) (4 * n) ≡ false = le-ltb _ (4 * n) (omega (arith, length-append body more, e)) in
    rw (four, from_be_bytes-to_be_bytes_2 n h, long, take_at body more (4 * n) e, drop_at body more (4 * n) e) refl

one_more : (past : List Event) (e : Event) → length past < 64 → at_most_64 (past ++ e ∷ []) ≡ Ok (past ++ e ∷ [])
one_more past e h = rw (le-ltb 64 (length (past ++ e ∷ [])) (omega (arith, length-append past (e ∷ [])))) refl

read_one : (past : List Event) (kind n : ℕ) (body more : List ℕ) (e : Event) → n < 2 ^ 16 → length body ≡ 4 * n → length past < 64
    → ((rest : List ℕ) → events_of (record { count = 1; kind = kind; octets = body; rest = rest }) ≡ Ok (e ∷ []))
    → packet_read past (129 ∷ kind ∷ (to_be_bytes w16 n ++ (body ++ more))) ≡ Ok (record { events = past ++ e ∷ []; rest = more })
unfolding packet_read
read_one past kind n body more e h size room events =
    rw (body_written kind n body more h size, events more, one_more past e room) refl

told_chunk : (body : List ℕ) (e : Event) (rest : List ℕ) → chunk_at body ≡ Ok (record { events = e ∷ []; rest = [] }) → events_of (record { count = 1; kind = 202; octets = body; rest = rest }) ≡ Ok (e ∷ [])
unfolding chunks
told_chunk body e rest is = rw is refl

-- the event in front is read
event_read : (past : List Event) (e : Event) (more : List ℕ) → FitsEvent e → length past < 64 → packet_read past (event_written e ++ more) ≡ Ok (record { events = past ++ e ∷ []; rest = more })
event_read past (event.Bye ssrc) more h room =
    read_one past 203 1 (to_be_bytes w32 ssrc) more (event.Bye ssrc) (omega arith) refl room (λ rest. rw (from_be_bytes-to_be_bytes_4 ssrc h) refl)
event_read past (event.Name ssrc name) more h room =
    let len : ℕ = length name in
    let body : List ℕ = to_be_bytes w32 ssrc ++ (2 ∷ len ∷ (name ++ nulls (4 - (6 + len) % 4))) in
    let n : ℕ = (6 + len) / 4 + 1 in
    let size : length body ≡ 4 * n = omega (arith, length-append name (nulls (4 - (6 + len) % 4)), length_nulls (4 - (6 + len) % 4)) in
    let chunk : chunk_at body ≡ Ok (record { events = event.Name ssrc name ∷ []; rest = [] }) =
    ap (λ (zs : List ℕ). chunk_at (to_be_bytes w32 ssrc ++ (2 ∷ len ∷ (name ++ zs)))) (zeros len) ∙ chunk_of ssrc len (more_zeros len) name h.0 refl h.1.0 h.1.1.1 refl in
    let short = h.1.1.0 in
    read_one past 202 n body more (event.Name ssrc name) (omega (arith, short)) size room (λ rest. told_chunk body (event.Name ssrc name) rest chunk)

-- ---- all packets

written_some : (e : Event) (more : List ℕ) → (length (event_written e ++ more) == 0) ≡ false
written_some (event.Name ssrc name) more = eqb-suc-zero _
written_some (event.Bye ssrc) more = eqb-suc-zero _

all_read : (es : List Event) (fuel : ℕ) (past : List Event) (e : Event) → AllByRecursion FitsEvent (e ∷ es) → length past + length (e ∷ es) ≤ 64 → length es ≤ fuel
    → packets_within (suc fuel) past (flat_map event_written (e ∷ es)) ≡ Ok (past ++ e ∷ es)
unfolding packets_within
all_read [] fuel past e h room enough =
    rw (event_read past e [] h.0 (omega arith)) refl
all_read (f ∷ es) zero past e h room enough = absurd (omega arith)
all_read (f ∷ es) (suc fuel) past e h room enough =
    let more : List ℕ = flat_map event_written (f ∷ es) in
    let some : (length more == 0) ≡ false = written_some f (flat_map event_written es) in
    let rest = all_read es fuel (past ++ e ∷ []) f h.1 (omega (arith, length-append past (e ∷ []))) (omega arith) in
    rw (event_read past e more h.0 (omega arith), some, rest) (ap (λ (xs : List Event). Ok xs) (append_assoc past (e ∷ []) (f ∷ es)))

-- the octets of events are no fewer than these
written_long : (es : List Event) → length es ≤ length (flat_map event_written es)
written_long [] = omega arith
written_long (event.Name ssrc name ∷ es) = omega (arith, written_long es, length-append (event_written (event.Name ssrc name)) (flat_map event_written es))
written_long (event.Bye ssrc ∷ es) = omega (arith, written_long es, length-append (event_written (event.Bye ssrc)) (flat_map event_written es))

pub read_back : (es : List Event) → AllByRecursion FitsEvent es → 0 < length es → length es ≤ 64 → rtcp (flat_map event_written es) ≡ Ok es
unfolding rtcp
read_back [] h some few = absurd (omega arith)
read_back (e ∷ es) h some few = go (length (flat_map event_written (e ∷ es))) (written_long (e ∷ es))
  where
    go : (n : ℕ) → length (e ∷ es) ≤ n → packets_within n [] (flat_map event_written (e ∷ es)) ≡ Ok (e ∷ es)
    go zero k = absurd (omega arith)
    go (suc n) k = all_read es n [] e h (omega arith) (omega arith)
