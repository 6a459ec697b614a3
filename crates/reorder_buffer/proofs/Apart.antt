-- Each place of the pool is named once: so what is written at one place, and a place that is new, change no other packet.
use Rattle.std.proofs.Common.{◌≡◌, ◌≢◌, ℕ, zero, suc, ◌+◌, ◌^◌, ◌<◌, ◌≤◌, Bool, true, false, inl, inr, List, [], ◌∷◌, ◌++◌, length, refl, ap, sym, subst, ◌∙◌, arith, append_assoc, length-append}
use Rattle.std.specs.Prelude.{map, insert, nat_lt, ◌==◌}
use Rattle.std.proofs.lemmas.Bool.{eq-eqb, ne_eqb, lt-ltb, le-ltb, ltb-true, ltb-false, eqb-true, eqb-false}
use Rattle.std.proofs.lemmas.List.{map-append, length-set, length-map, get_or-set_other, get_or-set_same, get_or_append_left}
use Rattle.rtt_base.specs.declared.text_packets.TextPacket.{TextPacket}
use Rattle.reorder_buffer.specs.Pools.{Pool, no_packet, packet_at, current_packet, with_current, turned_to, IsRenewed, one_if, times}
use Rattle.reorder_buffer.specs.States.{with_packet, put_current, settled_first, GivesFirst}
use Rattle.reorder_buffer.specs.Views.{numbered_in, settled_in, held_place, settled_place, places_of, AreSmall}
use Rattle.reorder_buffer.specs.Insides.{state_of, named_places, AreApart, HoldIsSound}
use Rattle.reorder_buffer.specs.declared.holds.Hold.TheInside.{Inside}
use Rattle.reorder_buffer.specs.declared.holds.HeldPacket.{HeldPacket}
use Rattle.reorder_buffer.specs.declared.holds.SettledPacket.{SettledPacket}
use Rattle.reorder_buffer.proofs.Places.{map_put, append_put, length_put, small_put}

-- ---- how often a place is named
times_append : (p : ℕ) (xs ys : List ℕ) → times p (xs ++ ys) ≡ times p xs + times p ys
times_append p [] ys = omega arith
times_append p (x ∷ xs) ys = let r = times_append p xs ys in omega (arith, r)

times_put : (p : ℕ) (xs : List HeldPacket) (k : ℕ) (x : HeldPacket) → times p (map held_place (insert xs k x)) ≡ one_if (x.place == p) + times p (map held_place xs)
times_put p xs zero x = refl
times_put p [] (suc k) x = refl
times_put p (y ∷ xs) (suc k) x = let r = times_put p xs k x in omega (arith, r)

one_same : (p : ℕ) → one_if (p == p) ≡ 1
one_same p = ap one_if (eq-eqb p p refl)

one_most : (b : Bool) → one_if b ≤ 1
one_most true = omega arith
one_most false = omega arith

-- how often a place is named by each part
pub record Parts (h : Inside) (p : ℕ) : Type 0 where
  pub settled : ℕ
  pub held : ℕ
  pub spare : ℕ
  pub settled_is : times p (map settled_place h.settled) ≡ settled
  pub held_is : times p (map held_place h.held) ≡ held
  pub spare_is : times p h.pool.spare ≡ spare
  pub places : times p (places_of h.settled h.held) ≡ settled + held
  pub named : times p (named_places h) ≡ one_if (h.pool.current == p) + (settled + held + spare)

parts : (h : Inside) (p : ℕ) → Parts h p
parts h p =
    let a = times_append p (map settled_place h.settled) (map held_place h.held) in
    let b = times_append p (places_of h.settled h.held) h.pool.spare in
    record {
      settled = times p (map settled_place h.settled);
      held = times p (map held_place h.held);
      spare = times p h.pool.spare;
      settled_is = refl;
      held_is = refl;
      spare_is = refl;
      places = a;
      named = omega (arith, a, b);
    }

-- a place that is named has a packet
named_within : (h : Inside) (p : ℕ) → AreApart h → 0 < times p (named_places h) → p < length h.pool.packets
named_within h p apart named = go (nat_lt p (length h.pool.packets)) refl
  where
    go : (b : Bool) → nat_lt p (length h.pool.packets) ≡ b → p < length h.pool.packets
    go true e = ltb-true p (length h.pool.packets) e
    go false e = let none : times p (named_places h) ≡ 0 = apart p ∙ ap one_if e in absurd (omega arith)

pub current_within : (h : Inside) → AreApart h → h.pool.current < length h.pool.packets
current_within h apart =
    let it = parts h h.pool.current in
    let one = one_same h.pool.current in
    named_within h h.pool.current apart (omega (arith, it.named, one))

-- what is settled or held is not the current one
not_current : (h : Inside) (p : ℕ) → AreApart h → 0 < times p (places_of h.settled h.held) → p ≢ h.pool.current
not_current h p apart named same =
    let it = parts h p in
    let one : one_if (h.pool.current == p) ≡ 1 = ap one_if (eq-eqb h.pool.current p (sym same)) in
    let most : times p (named_places h) ≤ 1 = let e = apart p in let m = one_most (nat_lt p (length h.pool.packets)) in omega (arith, e, m) in
    absurd (omega (arith, it.named, it.places, one, most))

-- ---- the same packets at the places that are named
abbrev pub Agree : List TextPacket → List TextPacket → List ℕ → Type 0
Agree ps qs places = (p : ℕ) → 0 < times p places → packet_at qs p ≡ packet_at ps p

agree_less : (ps qs : List TextPacket) (xs ys : List ℕ) → ((p : ℕ) → times p xs ≤ times p ys) → Agree ps qs ys → Agree ps qs xs
agree_less ps qs xs ys less a p named = let l = less p in a p (omega (arith, l, named))

agree_first : (ps qs : List TextPacket) (x : ℕ) (xs : List ℕ) → Agree ps qs (x ∷ xs) → packet_at qs x ≡ packet_at ps x
agree_first ps qs x xs a = let one = one_same x in a x (omega (arith, one))

agree_rest : (ps qs : List TextPacket) (x : ℕ) (xs : List ℕ) → Agree ps qs (x ∷ xs) → Agree ps qs xs
agree_rest ps qs x xs = agree_less ps qs xs (x ∷ xs) (λ p. omega arith)

same_packets : (ps qs : List TextPacket) (xs : List ℕ) → Agree ps qs xs → map (packet_at qs) xs ≡ map (packet_at ps) xs
same_packets ps qs [] a = refl
same_packets ps qs (x ∷ xs) a = rw (agree_first ps qs x xs a) (ap (λ us. packet_at ps x ∷ us) (same_packets ps qs xs (agree_rest ps qs x xs a)))

same_settled : (ps qs : List TextPacket) (xs : List SettledPacket) → Agree ps qs (map settled_place xs) → map (settled_in qs) xs ≡ map (settled_in ps) xs
same_settled ps qs [] a = refl
same_settled ps qs (x ∷ xs) a = rw (agree_first ps qs x.place (map settled_place xs) a) (ap (λ us. settled_in ps x ∷ us) (same_settled ps qs xs (agree_rest ps qs x.place (map settled_place xs) a)))

same_held : (ps qs : List TextPacket) (xs : List HeldPacket) → Agree ps qs (map held_place xs) → map (numbered_in qs) xs ≡ map (numbered_in ps) xs
same_held ps qs [] a = refl
same_held ps qs (x ∷ xs) a = rw (agree_first ps qs x.place (map held_place xs) a) (ap (λ us. numbered_in ps x ∷ us) (same_held ps qs xs (agree_rest ps qs x.place (map held_place xs) a)))

agree_settled : (ps qs : List TextPacket) (settled : List SettledPacket) (held : List HeldPacket) → Agree ps qs (places_of settled held) → Agree ps qs (map settled_place settled)
agree_settled ps qs settled held = agree_less ps qs (map settled_place settled) (places_of settled held) (λ p. let e = times_append p (map settled_place settled) (map held_place held) in omega (arith, e))

agree_held : (ps qs : List TextPacket) (settled : List SettledPacket) (held : List HeldPacket) → Agree ps qs (places_of settled held) → Agree ps qs (map held_place held)
agree_held ps qs settled held = agree_less ps qs (map held_place held) (places_of settled held) (λ p. let e = times_append p (map settled_place settled) (map held_place held) in omega (arith, e))

-- ---- the current packet is written
pub written_agree : (h : Inside) (w : TextPacket) → AreApart h → Agree h.pool.packets (with_current h.pool w).packets (places_of h.settled h.held)
written_agree h w apart p named = get_or-set_other h.pool.packets h.pool.current p w no_packet (not_current h p apart named)

pub written_state : (h : Inside) (w : TextPacket) → AreApart h → state_of (record h { pool = with_current h.pool w }) ≡ with_packet (state_of h) w
written_state h w apart =
    let ps = h.pool.packets in
    let qs = (with_current h.pool w).packets in
    let a = written_agree h w apart in
    rw (
      same_settled ps qs h.settled (agree_settled ps qs h.settled h.held a),
      same_held ps qs h.held (agree_held ps qs h.settled h.held a),
      same_packets ps qs (places_of h.settled h.held) a,
      get_or-set_same ps h.pool.current w no_packet (current_within h apart),
    ) refl

-- what a change of the packets, the places and the numbers leaves as it is
abbrev changed_to : Inside → Pool → List HeldPacket → List SettledPacket → ℕ → ℕ → Inside
changed_to h q held settled front latest = record h { pool = q; held = held; settled = settled; front = front; latest = latest }

kept_sound : (h : Inside) (q : Pool) (held : List HeldPacket) (settled : List SettledPacket) (front latest : ℕ) → HoldIsSound h → AreApart (changed_to h q held settled front latest)
    → suc (length settled + length held + length q.spare) ≡ length q.packets → length settled + length held ≤ 65 → length q.packets ≤ 66 → AreSmall held → (h.arrivals ≡ 0 → length held ≡ 0) → HoldIsSound (changed_to h q held settled front latest)
kept_sound h q held settled front latest i apart all room few small begun =
    record { apart = apart; all = all; room = room; few = few; wait = i.wait; moment = i.moment; early = i.early; arrivals = i.arrivals; top = i.top; small = small; begun = begun }

pub written_sound : (h : Inside) (w : TextPacket) → HoldIsSound h → HoldIsSound (record h { pool = with_current h.pool w })
written_sound h w i =
    let same = length-set h.pool.packets h.pool.current w in
    kept_sound h (with_current h.pool w) h.held h.settled h.front h.latest i
    (λ p. i.apart p ∙ ap (λ n. one_if (nat_lt p n)) (sym same)) (i.all ∙ sym same) i.room (let f = i.few in omega (arith, same, f)) i.small i.begun

-- ---- the current packet is kept, and another place is current
renewed_agree : (h : Inside) (q : Pool) → AreApart h → IsRenewed h.pool q → Agree h.pool.packets q.packets (named_places h)
renewed_agree h q apart (inl r) p named = ap (λ ps. packet_at ps p) r.1
renewed_agree h q apart (inr r) p named = ap (λ ps. packet_at ps p) r.3 ∙ get_or_append_left h.pool.packets (no_packet ∷ []) no_packet p (named_within h p apart named)

-- how often a place is named by the parts of a pool and n of what is kept
abbrev named_with : Pool → ℕ → ℕ → ℕ
named_with q p n = one_if (q.current == p) + (n + times p q.spare)

one_more : (p n : ℕ) → one_if (nat_lt p (n + 1)) ≡ one_if (n == p) + one_if (nat_lt p n)
one_more p n = go (nat_lt p n) (n == p) refl refl
  where
    go : (below same : Bool) → nat_lt p n ≡ below → (n == p) ≡ same → one_if (nat_lt p (n + 1)) ≡ one_if (n == p) + one_if (nat_lt p n)
    go true same b e = let l = ltb-true p n b in rw (lt-ltb p (n + 1) (omega (arith, l)), b, ne_eqb n p (omega (arith, l))) refl
    go false true b e = let l = eqb-true n p e in rw (lt-ltb p (n + 1) (omega (arith, l)), b, e) refl
    go false false b e = let l = ltb-false p n b in let m = eqb-false n p e in rw (le-ltb p (n + 1) (omega (arith, l, m)), b, e) refl

-- the place that was current is kept besides
renewed_named : (h : Inside) (q : Pool) (p n : ℕ) → IsRenewed h.pool q → named_with h.pool p n ≡ one_if (nat_lt p (length h.pool.packets)) → named_with q p (one_if (h.pool.current == p) + n) ≡ one_if (nat_lt p (length q.packets))
renewed_named h q p n (inl r) e =
    let spare = ap (times p) r.0 ∙ times_append p q.spare (q.current ∷ []) in
    let same = ap (λ (ps : List TextPacket). one_if (nat_lt p (length ps))) r.1 in
    omega (arith, e, spare, same)
renewed_named h q p n (inr r) e =
    let none = ap (times p) r.0 in
    let gone = ap (times p) r.1 in
    let long = ap length r.3 ∙ length-append h.pool.packets (no_packet ∷ []) in
    let new = ap (λ m. one_if (nat_lt p m)) long ∙ one_more p (length h.pool.packets) in
    let at = ap (λ m. one_if (m == p)) r.2 in
    omega (arith, e, none, gone, new, at)

renewed_all : (h : Inside) (q : Pool) → IsRenewed h.pool q → length q.packets + length h.pool.spare ≡ suc (length q.spare + length h.pool.packets)
renewed_all h q (inl r) = let a = ap length r.0 ∙ length-append q.spare (q.current ∷ []) in let b = ap length r.1 in omega (arith, a, b)
renewed_all h q (inr r) = let a = ap length r.0 in let b = ap length r.1 in let d = ap length r.3 ∙ length-append h.pool.packets (no_packet ∷ []) in omega (arith, a, b, d)

renewed_few : (h : Inside) (q : Pool) → IsRenewed h.pool q → length h.pool.packets ≤ 66 → length h.pool.packets ≤ 65 + length h.pool.spare → length q.packets ≤ 66
renewed_few h q (inl r) few room = let b = ap length r.1 in omega (arith, b, few)
renewed_few h q (inr r) few room = let a = ap length r.0 in let d = ap length r.3 ∙ length-append h.pool.packets (no_packet ∷ []) in omega (arith, a, d, room)

kept_lengths : (h : Inside) (n : ℕ) → length (state_of h).settled + length (state_of h).held ≤ n → length h.settled + length h.held ≤ n
kept_lengths h n l =
    let a = length-map h.settled (settled_in h.pool.packets) in
    let b = length-map h.held (numbered_in h.pool.packets) in
    omega (arith, a, b, l)

-- it is held
abbrev pub held_with : Inside → Pool → ℕ → ℕ → Inside
held_with h q at n = record h { pool = q; held = insert h.held at (record { number = n; time = h.moment; place = h.pool.current }) }

pub put_apart : (h : Inside) (q : Pool) (at n : ℕ) → AreApart h → IsRenewed h.pool q → AreApart (held_with h q at n)
put_apart h q at n apart r p =
    let x : HeldPacket = record { number = n; time = h.moment; place = h.pool.current } in
    let it = parts h p in
    let a = times_put p h.held at x in
    let b = times_append p (map settled_place h.settled) (map held_place (insert h.held at x)) in
    let d = times_append p (places_of h.settled (insert h.held at x)) q.spare in
    let e = renewed_named h q p (it.settled + it.held) r (omega (arith, apart p, it.named, it.spare_is)) in
    omega (arith, a, b, d, e, it.settled_is, it.held_is)

pub put_state : (h : Inside) (q : Pool) (at n : ℕ) → AreApart h → IsRenewed h.pool q → state_of (held_with h q at n) ≡ with_packet (put_current (state_of h) at n) (current_packet q)
put_state h q at n apart r =
    let x : HeldPacket = record { number = n; time = h.moment; place = h.pool.current } in
    let ps = h.pool.packets in
    let qs = q.packets in
    let a = renewed_agree h q apart r in
    let kept = agree_less ps qs (places_of h.settled (insert h.held at x)) (named_places h) (λ p. less p) a in
    rw (
      same_settled ps qs h.settled (agree_settled ps qs h.settled (insert h.held at x) kept),
      same_held ps qs (insert h.held at x) (agree_held ps qs h.settled (insert h.held at x) kept),
      same_packets ps qs (places_of h.settled (insert h.held at x)) kept,
      map_put (numbered_in ps) h.held at x,
      places_put h.settled h.held at x,
      map_put (packet_at ps) (places_of h.settled h.held) (length h.settled + at) h.pool.current,
      length-map h.settled (settled_in ps),
    ) refl
  where
    less : (p : ℕ) → times p (places_of h.settled (insert h.held at (record { number = n; time = h.moment; place = h.pool.current }))) ≤ times p (named_places h)
    less p =
        let x : HeldPacket = record { number = n; time = h.moment; place = h.pool.current } in
        let it = parts h p in
        let b = times_append p (map settled_place h.settled) (map held_place (insert h.held at x)) in
        let d = times_put p h.held at x in
        omega (arith, it.named, it.settled_is, it.held_is, b, d)

    places_put : (settled : List SettledPacket) (held : List HeldPacket) (at : ℕ) (x : HeldPacket) → places_of settled (insert held at x) ≡ insert (places_of settled held) (length settled + at) x.place
    places_put settled held at x =
        ap (λ xs. map settled_place settled ++ xs) (map_put held_place held at x) ∙ (append_put (map settled_place settled) (map held_place held) at x.place
        ∙ ap (λ m. insert (places_of settled held) (m + at) x.place) (length-map settled settled_place))

pub put_sound : (h : Inside) (q : Pool) (at n : ℕ) → HoldIsSound h → IsRenewed h.pool q → length (state_of h).settled + length (state_of h).held ≤ 64 → 0 < h.arrivals → n < 2 ^ 60 → HoldIsSound (held_with h q at n)
put_sound h q at n i r free came small =
    let room = kept_lengths h 64 free in
    let x : HeldPacket = record { number = n; time = h.moment; place = h.pool.current } in
    let m = length_put h.held at x in
    let all = renewed_all h q r in
    kept_sound h q (insert h.held at x) h.settled h.front h.latest i
    (put_apart h q at n i.apart r) (let a = i.all in omega (arith, a, m, all)) (omega (arith, m, room)) (renewed_few h q r i.few (let a = i.all in omega (arith, a, room))) (small_put h.held at x i.small small) (λ z. absurd (omega (arith, came, z)))

-- ---- the first that is held is settled
places_settle : (settled : List SettledPacket) (y : SettledPacket) (held : List HeldPacket) → places_of (settled ++ y ∷ []) held ≡ map settled_place settled ++ (y.place ∷ map held_place held)
places_settle settled y held = ap (λ xs. xs ++ map held_place held) (map-append settled_place settled (y ∷ [])) ∙ append_assoc (map settled_place settled) (y.place ∷ []) (map held_place held)

abbrev pub settled_with : Inside → HeldPacket → List HeldPacket → ℕ → Inside
settled_with h x rest latest = record h { held = rest; front = x.number + 1; latest = latest; settled = h.settled ++ record { number = x.number; ready = latest; place = x.place } ∷ [] }

settle_places : (h : Inside) (x : HeldPacket) (rest : List HeldPacket) (latest : ℕ) → h.held ≡ x ∷ rest → places_of (settled_with h x rest latest).settled rest ≡ places_of h.settled h.held
settle_places h x rest latest e = places_settle h.settled (record { number = x.number; ready = latest; place = x.place }) rest ∙ ap (λ xs. places_of h.settled xs) (sym e)

pub settle_state : (h : Inside) (x : HeldPacket) (rest : List HeldPacket) (latest : ℕ) → h.held ≡ x ∷ rest → state_of (settled_with h x rest latest) ≡ settled_first (state_of h) latest
settle_state h x rest latest e =
    let y : SettledPacket = record { number = x.number; ready = latest; place = x.place } in
    rw (settle_places h x rest latest e, map-append (settled_in h.pool.packets) h.settled (y ∷ []), e) refl

pub settle_sound : (h : Inside) (x : HeldPacket) (rest : List HeldPacket) (latest : ℕ) → h.held ≡ x ∷ rest → HoldIsSound h → HoldIsSound (settled_with h x rest latest)
settle_sound h x rest latest e i =
    let y : SettledPacket = record { number = x.number; ready = latest; place = x.place } in
    let one : length h.held ≡ suc (length rest) = ap length e in
    let more = length-append h.settled (y ∷ []) in
    kept_sound h h.pool rest (h.settled ++ y ∷ []) (x.number + 1) latest i
    (λ p. ap (λ ps. times p (h.pool.current ∷ (ps ++ h.pool.spare))) (settle_places h x rest latest e) ∙ i.apart p) (let a = i.all in omega (arith, a, one, more)) (let r = i.room in omega (arith, r, one, more)) i.few ((subst AreSmall e i.small).1) (λ z. let b = i.begun z in absurd (omega (arith, b, one)))

-- ---- the current packet is settled at once
abbrev pub once_with : Inside → Pool → ℕ → ℕ → Inside
once_with h q n latest = record h { pool = q; front = n + 1; latest = latest; settled = h.settled ++ record { number = n; ready = latest; place = h.pool.current } ∷ [] }

once_times : (h : Inside) (n latest p : ℕ) → times p (places_of (h.settled ++ record { number = n; ready = latest; place = h.pool.current } ∷ []) h.held) ≡ one_if (h.pool.current == p) + times p (places_of h.settled h.held)
once_times h n latest p =
    let y : SettledPacket = record { number = n; ready = latest; place = h.pool.current } in
    let a = ap (times p) (places_settle h.settled y h.held) ∙ times_append p (map settled_place h.settled) (y.place ∷ map held_place h.held) in
    let b = times_append p (map settled_place h.settled) (map held_place h.held) in
    omega (arith, a, b)

pub once_apart : (h : Inside) (q : Pool) (n latest : ℕ) → AreApart h → IsRenewed h.pool q → AreApart (once_with h q n latest)
once_apart h q n latest apart r p =
    let it = parts h p in
    let a = once_times h n latest p in
    let d = times_append p (places_of (once_with h q n latest).settled h.held) q.spare in
    let e = renewed_named h q p (it.settled + it.held) r (omega (arith, apart p, it.named, it.spare_is)) in
    omega (arith, a, d, e, it.places)

pub once_state : (h : Inside) (q : Pool) (n latest : ℕ) → AreApart h → IsRenewed h.pool q → state_of (once_with h q n latest) ≡ with_packet (settled_first (put_current (state_of h) 0 n) latest) (current_packet q)
once_state h q n latest apart r =
    let y : SettledPacket = record { number = n; ready = latest; place = h.pool.current } in
    let ps = h.pool.packets in
    let qs = q.packets in
    let kept = agree_less ps qs (places_of (h.settled ++ y ∷ []) h.held) (named_places h) (λ p. less p) (renewed_agree h q apart r) in
    rw (
      same_settled ps qs (h.settled ++ y ∷ []) (agree_settled ps qs (h.settled ++ y ∷ []) h.held kept),
      same_held ps qs h.held (agree_held ps qs (h.settled ++ y ∷ []) h.held kept),
      same_packets ps qs (places_of (h.settled ++ y ∷ []) h.held) kept,
      map-append (settled_in ps) h.settled (y ∷ []),
      places_once,
      map_put (packet_at ps) (places_of h.settled h.held) (length h.settled + 0) h.pool.current,
      length-map h.settled (settled_in ps),
    ) refl
  where
    less : (p : ℕ) → times p (places_of (h.settled ++ record { number = n; ready = latest; place = h.pool.current } ∷ []) h.held) ≤ times p (named_places h)
    less p = let it = parts h p in let a = once_times h n latest p in omega (arith, it.named, it.places, a)

    places_once : places_of (h.settled ++ record { number = n; ready = latest; place = h.pool.current } ∷ []) h.held ≡ insert (places_of h.settled h.held) (length h.settled + 0) h.pool.current
    places_once = places_settle h.settled (record { number = n; ready = latest; place = h.pool.current }) h.held ∙ (append_put (map settled_place h.settled) (map held_place h.held) 0 h.pool.current
        ∙ ap (λ m. insert (places_of h.settled h.held) (m + 0) h.pool.current) (length-map h.settled settled_place))

pub once_sound : (h : Inside) (q : Pool) (n latest : ℕ) → HoldIsSound h → IsRenewed h.pool q → length (state_of h).settled ≤ 64 → (state_of h).held ≡ [] → HoldIsSound (once_with h q n latest)
once_sound h q n latest i r free none =
    let y : SettledPacket = record { number = n; ready = latest; place = h.pool.current } in
    let empty : length (state_of h).held ≡ 0 = ap length none in
    let room = kept_lengths h 64 (omega (arith, free, empty)) in
    let m = length-append h.settled (y ∷ []) in
    let all = renewed_all h q r in
    kept_sound h q h.held (h.settled ++ y ∷ []) (n + 1) latest i
    (once_apart h q n latest i.apart r) (let a = i.all in omega (arith, a, m, all)) (omega (arith, m, room)) (renewed_few h q r i.few (let a = i.all in omega (arith, a, room))) i.small i.begun

-- ---- the first that is settled is given
abbrev pub given_with : Inside → SettledPacket → List SettledPacket → Inside
given_with h x rest = record h { settled = rest; pool = turned_to h.pool x.place }

pub given_gives : (h : Inside) (x : SettledPacket) (rest : List SettledPacket) → h.settled ≡ x ∷ rest → GivesFirst (state_of h) (state_of (given_with h x rest)) (record { number = x.number; ready = x.ready })
given_gives h x rest e = (ap (map (settled_in h.pool.packets)) e, refl)

pub given_packet : (h : Inside) (x : SettledPacket) (rest : List SettledPacket) → h.settled ≡ x ∷ rest → (state_of h).packets ≡ packet_at h.pool.packets x.place ∷ (state_of (given_with h x rest)).packets
given_packet h x rest e = ap (λ xs. map (packet_at h.pool.packets) (places_of xs h.held)) e

pub given_sound : (h : Inside) (x : SettledPacket) (rest : List SettledPacket) → h.settled ≡ x ∷ rest → HoldIsSound h → HoldIsSound (given_with h x rest)
given_sound h x rest e i =
    let one : length h.settled ≡ suc (length rest) = ap length e in
    let more = length-append h.pool.spare (h.pool.current ∷ []) in
    kept_sound h (turned_to h.pool x.place) h.held rest h.front h.latest i
    apart (let a = i.all in omega (arith, a, one, more)) (let r = i.room in omega (arith, r, one)) i.few i.small i.begun
  where
    apart : AreApart (given_with h x rest)
    apart p =
        let a = times_append p (places_of rest h.held) (h.pool.spare ++ h.pool.current ∷ []) in
        let b = times_append p h.pool.spare (h.pool.current ∷ []) in
        let c = times_append p (places_of h.settled h.held) h.pool.spare in
        let d = ap (λ xs. times p (places_of xs h.held)) e in
        omega (arith, a, b, c, d, i.apart p)

pub given_room : (h : Inside) → HoldIsSound h → 0 < length h.settled → length h.pool.spare < 65
given_room h i some = let a = i.all in let f = i.few in omega (arith, a, f, some)
