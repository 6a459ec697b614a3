-- What is ready of a leg are the first of all its texts, and stays.
use Rattle.std.proofs.Common.{◌≡◌, ℕ, ◌≤◌, Bool, true, false, inl, inr, Option, Some, None, List, [], ◌∷◌, ◌++◌, refl, ap, subst, sym, ◌∙◌, append_assoc, arith}
use Rattle.std.specs.Prelude.{Result, Ok, Err, filter, map, max, min, nat_le, ◌||◌, if◌then◌else◌}
use Rattle.std.proofs.lemmas.Bool.{cases_lt, le-leb, lt-leb, or_parts}
use Rattle.std.proofs.lemmas.List.{append-nil, map-append}
use Rattle.std.proofs.lemmas.List.Elements.{filter-append}
use Rattle.wire_spec.specs.declared.faults.TextFault.{TextFault}
use Rattle.wire_spec.specs.Packets.{Arrival, Packet}
use Rattle.wire_spec.specs.Text.{text_within}
use Rattle.stream_spec.specs.Lists.{In}
use Rattle.stream_spec.specs.Numbering.{Falling, Numbered, numbered}
use Rattle.stream_spec.specs.Hearing.{marker}
use Rattle.stream_spec.specs.Ready.{Chunk, chunk, chunks}
use Rattle.stream_spec.specs.Fronts.{IsFront, is_ready_by}
use Rattle.stream_spec.specs.Still.{still, still_arrival}
use Rattle.stream_spec.proofs.Fronts.{settled_front}
use Rattle.stream_spec.proofs.Still.{falls_still}
use Rattle.stream_spec.specs.Links.{Came, Closed, Datagram, Large, Quiet, Taken, Takes, is_closed, is_closing}
use Rattle.live_spec.specs.Told.{Former, Hearing, Told, all_former, all_told, arrival_at, former_after, former_chunks, is_sender, last_chunks, ready_by, ready_told, ready_until, sender_chunks, taken_over, takes_over, told_by, told_came, told_moment, told_packet, with_packet}
use Rattle.mixer_spec.specs.Pieces.{chunks_cut, pieces}
use Rattle.mixer_spec.proofs.Chunks.{as_chunks, cut_append}
use Rattle.live_spec.specs.ToldLaws.{ReadyIsFront, ReadyStays}

-- ---- fronts
pub itself : (cs : List Chunk) → IsFront cs cs
itself cs = ([], sym (append-nil cs))

then_front : (a b c : List Chunk) → IsFront a b → IsFront b c → IsFront a c
then_front a b c f g = (f.0 ++ g.0, g.1 ∙ (ap (λ cs. cs ++ g.0) f.1 ∙ append_assoc a f.0 g.0))

pub behind : (xs a b : List Chunk) → IsFront a b → IsFront (xs ++ a) (xs ++ b)
behind xs a b f = (f.0, ap (λ cs. xs ++ cs) f.1 ∙ sym (append_assoc xs a f.0))

pub more : (a b c : List Chunk) → IsFront a b → IsFront a (b ++ c)
more a b c f = (f.0 ++ c, ap (λ cs. cs ++ c) f.1 ∙ append_assoc a f.0 c)

-- ---- what is ready by a moment
twice : (t u : ℕ) → t ≤ u → (cs : List Chunk) → filter (is_ready_by u) (filter (is_ready_by t) cs) ≡ filter (is_ready_by t) cs
twice t u l [] = refl
twice t u l (c ∷ cs) = elim (cases_lt t c.ready) [
  | inl late ↦ rw (lt-leb c.ready t late) (twice t u l cs)
  | inr now ↦ rw (le-leb c.ready t now) (rw (le-leb c.ready u (omega (arith, now, l))) (ap (λ ds. c ∷ ds) (twice t u l cs)))
]

-- what is ready by then is so where nothing is waited for beyond a later moment
pub as_it_was : (t m : ℕ) → t ≤ m → (cs : List Chunk) → map (ready_until m) (filter (is_ready_by t) cs) ≡ filter (is_ready_by t) cs
as_it_was t m l [] = refl
as_it_was t m l (c ∷ cs) = elim (cases_lt t c.ready) [
  | inl late ↦ rw (lt-leb c.ready t late) (as_it_was t m l cs)
  | inr now ↦ rw (le-leb c.ready t now) (
      let q : min c.ready m ≡ c.ready = omega (arith, now, l) in
      ap (λ (n : ℕ). record { source = c.source; ready = n; text = c.text } ∷ map (ready_until m) (filter (is_ready_by t) cs)) q ∙ ap (λ ds. c ∷ ds) (as_it_was t m l cs)
      )
]

-- and all of that is ready by that moment
all_soon : (t m : ℕ) → m ≤ t → (cs : List Chunk) → filter (is_ready_by t) (map (ready_until m) cs) ≡ map (ready_until m) cs
all_soon t m l [] = refl
all_soon t m l (c ∷ cs) = let q : min c.ready m ≤ t = omega (arith, l) in rw (le-leb (min c.ready m) t q) (ap (λ ds. ready_until m c ∷ ds) (all_soon t m l cs))

by_later : (t u : ℕ) → t ≤ u → (xs ys : List Chunk) → IsFront (filter (is_ready_by t) xs) ys → IsFront (filter (is_ready_by t) xs) (filter (is_ready_by u) ys)
by_later t u l xs ys f = (
  filter (is_ready_by u) f.0,
  ap (filter (is_ready_by u)) f.1 ∙ (filter-append (is_ready_by u) (filter (is_ready_by t) xs) f.0 ∙ ap (λ cs. cs ++ filter (is_ready_by u) f.0) (twice t u l xs)),
)

by_end : (t m : ℕ) → t ≤ m → (xs : List Chunk) → IsFront (filter (is_ready_by t) xs) xs → IsFront (filter (is_ready_by t) xs) (map (ready_until m) xs)
by_end t m l xs f = (
  map (ready_until m) f.0,
  ap (map (ready_until m)) f.1 ∙ (map-append (ready_until m) (filter (is_ready_by t) xs) f.0 ∙ ap (λ cs. cs ++ map (ready_until m) f.0) (as_it_was t m l xs)),
)

-- what is ready of pieces are the pieces of what is ready
cut_ready : (cutting : List ℕ → List (List ℕ)) (t : ℕ) (c : Chunk) (ts : List (List ℕ)) → nat_le c.ready t ≡ true → filter (is_ready_by t) (as_chunks c ts) ≡ as_chunks c ts
cut_ready cutting t c [] e = refl
cut_ready cutting t c (x ∷ ts) e = rw e (ap (λ ds. record { source = c.source; ready = c.ready; text = x } ∷ ds) (cut_ready cutting t c ts e))

cut_late : (cutting : List ℕ → List (List ℕ)) (t : ℕ) (c : Chunk) (ts : List (List ℕ)) → nat_le c.ready t ≡ false → filter (is_ready_by t) (as_chunks c ts) ≡ []
cut_late cutting t c [] e = refl
cut_late cutting t c (x ∷ ts) e = rw e (cut_late cutting t c ts e)

pub ready_cut : (cutting : List ℕ → List (List ℕ)) (t : ℕ) (cs : List Chunk) → filter (is_ready_by t) (chunks_cut cutting cs) ≡ chunks_cut cutting (filter (is_ready_by t) cs)
ready_cut cutting t [] = refl
ready_cut cutting t (c ∷ cs) = filter-append (is_ready_by t) (as_chunks c (cutting c.text)) (chunks_cut cutting cs) ∙ go (nat_le c.ready t) refl (ready_cut cutting t cs)
  where
    go : (b : Bool) → nat_le c.ready t ≡ b → filter (is_ready_by t) (chunks_cut cutting cs) ≡ chunks_cut cutting (filter (is_ready_by t) cs)
        → filter (is_ready_by t) (as_chunks c (cutting c.text)) ++ filter (is_ready_by t) (chunks_cut cutting cs) ≡ chunks_cut cutting (if b then c ∷ filter (is_ready_by t) cs else filter (is_ready_by t) cs)
    go true e h = λ i. cut_ready cutting t c (cutting c.text) e i ++ h i
    go false e h = λ i. cut_late cutting t c (cutting c.text) e i ++ h i

-- so a front stays one in pieces
cut_front : (cutting : List ℕ → List (List ℕ)) (t : ℕ) (xs ys : List Chunk) → IsFront (filter (is_ready_by t) xs) ys → IsFront (filter (is_ready_by t) (chunks_cut cutting xs)) (chunks_cut cutting ys)
cut_front cutting t xs ys f = subst (λ (cs : List Chunk). IsFront cs (chunks_cut cutting ys)) (sym (ready_cut cutting t xs))
    (chunks_cut cutting f.0, ap (chunks_cut cutting) f.1 ∙ cut_append cutting (filter (is_ready_by t) xs) f.0)

-- ---- of those who were heard before
former_soon : (h : Hearing) (t : ℕ) (f : Former) → f.until ≤ t → filter (is_ready_by t) (former_chunks h f) ≡ former_chunks h f
former_soon h t f l =
    let cs = map (ready_until f.until) (sender_chunks h f.ssrc f.past) in
    filter-append (is_ready_by t) cs (chunk h.leg f.until marker ∷ [])
    ∙ (ap (λ ds. ds ++ filter (is_ready_by t) (chunk h.leg f.until marker ∷ [])) (all_soon t f.until l (sender_chunks h f.ssrc f.past)) ∙ ap (λ ds. cs ++ ds) (rw (le-leb f.until t l) refl))

pub formers_soon : (h : Hearing) (t : ℕ) (before : List Former) → ((f : Former) → In f before → f.until ≤ t) → filter (is_ready_by t) (all_former h before) ≡ all_former h before
formers_soon h t [] g = refl
formers_soon h t (f ∷ before) g =
    filter-append (is_ready_by t) (all_former h before) (former_chunks h f)
    ∙ (ap (λ ds. ds ++ filter (is_ready_by t) (former_chunks h f)) (formers_soon h t before (λ x i. g x (inr i))) ∙ ap (λ ds. all_former h before ++ ds) (former_soon h t f (g f (inl refl))))

-- ---- of who is heard now
last_front : (h : Hearing) (sender : Option ℕ) (t : ℕ) (past : List Arrival) → Falling (numbered past) → IsFront (filter (is_ready_by t) (last_chunks h sender past)) (last_chunks h sender past)
last_front h None t past f = ([], refl)
last_front h (Some ssrc) t past f =
    let cs = chunks h.wait h.leg (still past) ssrc in
    cut_front (pieces h.piece) t cs cs (settled_front h.wait h.leg ssrc t [] (still past) (falls_still past f) (λ a i. absurd i))

last_more : (h : Hearing) (sender : Option ℕ) (t : ℕ) (a : Arrival) (past : List Arrival) → Falling (numbered past) → t ≤ a.time → IsFront (filter (is_ready_by t) (last_chunks h sender past)) (last_chunks h sender (a ∷ past))
last_more h None t a past f l = ([], refl)
last_more h (Some ssrc) t a past f l =
    cut_front (pieces h.piece) t (chunks h.wait h.leg (still past) ssrc) (chunks h.wait h.leg (still (a ∷ past)) ssrc)
    (settled_front h.wait h.leg ssrc t (still_arrival a ∷ []) (still past) (falls_still past f)
    (λ b i. elim i [ inl e ↦ subst (λ (x : Arrival). t ≤ x.time) (sym e) l | inr k ↦ absurd k ]))

-- ---- what was told, step by step
-- nothing came, and none ended, behind the greatest moment
pub record Good (d : Told) : Type 0 where
  pub most : (u : Numbered) → In u (numbered d.past) → u.time ≤ d.moment
  pub falling : Falling (numbered d.past)
  pub until : (f : Former) → In f d.before → f.until ≤ d.moment

record Goes (h : Hearing) (d e : Told) : Type 0 where
  good : Good e
  front : d.closed ≡ false → IsFront (ready_told h d) (ready_told h e)

open_is : (h : Hearing) (d : Told) → d.closed ≡ false → filter (is_ready_by d.moment) (all_told h d) ≡ ready_told h d
open_is h d o = ap (λ b. if b then all_told h d else filter (is_ready_by d.moment) (all_told h d)) (sym o)

closed_is : (h : Hearing) (d : Told) → d.closed ≡ true → all_told h d ≡ ready_told h d
closed_is h d o = ap (λ b. if b then all_told h d else filter (is_ready_by d.moment) (all_told h d)) (sym o)

pub ready_is : (h : Hearing) (d : Told) (t : ℕ) → ((f : Former) → In f d.before → f.until ≤ t) → filter (is_ready_by t) (all_told h d) ≡ all_former h d.before ++ filter (is_ready_by t) (last_chunks h d.sender d.past)
ready_is h d t g =
    filter-append (is_ready_by t) (all_former h d.before) (last_chunks h d.sender d.past)
    ∙ ap (λ cs. cs ++ filter (is_ready_by t) (last_chunks h d.sender d.past)) (formers_soon h t d.before g)

-- both are open
both : (h : Hearing) (d e : Told) → d.closed ≡ false → e.closed ≡ false → IsFront (filter (is_ready_by d.moment) (all_told h d)) (filter (is_ready_by e.moment) (all_told h e)) → IsFront (ready_told h d) (ready_told h e)
both h d e o p f = subst (λ (xs : List Chunk). IsFront xs (ready_told h e)) (open_is h d o) (subst (λ (ys : List Chunk). IsFront (filter (is_ready_by d.moment) (all_told h d)) ys) (open_is h e p) f)

-- what is ready stands before all
front_at : (h : Hearing) (d : Told) → Good d → IsFront (filter (is_ready_by d.moment) (all_told h d)) (all_told h d)
front_at h d g =
    subst (λ (xs : List Chunk). IsFront xs (all_told h d)) (sym (ready_is h d d.moment g.until))
    (behind (all_former h d.before) (filter (is_ready_by d.moment) (last_chunks h d.sender d.past)) (last_chunks h d.sender d.past) (last_front h d.sender d.moment d.past g.falling))

ready_front : (h : Hearing) (d : Told) → Good d → IsFront (ready_told h d) (all_told h d)
ready_front h d g = go d.closed refl
  where
    go : (b : Bool) → d.closed ≡ b → IsFront (ready_told h d) (all_told h d)
    go true e = subst (λ (xs : List Chunk). IsFront xs (all_told h d)) (closed_is h d e) (itself (all_told h d))
    go false e = subst (λ (xs : List Chunk). IsFront xs (all_told h d)) (open_is h d e) (front_at h d g)

-- the two fronts in one another, where the same were heard before
inner : (h : Hearing) (d e : Told) → Good d → Good e → d.moment ≤ e.moment → e.before ≡ d.before
    → IsFront (filter (is_ready_by d.moment) (last_chunks h d.sender d.past)) (last_chunks h e.sender e.past)
    → IsFront (filter (is_ready_by d.moment) (all_told h d)) (filter (is_ready_by e.moment) (all_told h e))
inner h d e g k l same f =
    subst (λ (xs : List Chunk). IsFront xs (filter (is_ready_by e.moment) (all_told h e))) (sym (ready_is h d d.moment g.until))
    (subst (λ (ys : List Chunk). IsFront (all_former h d.before ++ filter (is_ready_by d.moment) (last_chunks h d.sender d.past)) ys)
    (ap (λ (b : List Former). all_former h b ++ filter (is_ready_by e.moment) (last_chunks h e.sender e.past)) (sym same) ∙ sym (ready_is h e e.moment k.until))
    (behind (all_former h d.before) (filter (is_ready_by d.moment) (last_chunks h d.sender d.past)) (filter (is_ready_by e.moment) (last_chunks h e.sender e.past))
    (by_later d.moment e.moment l (last_chunks h d.sender d.past) (last_chunks h e.sender e.past) f)))

goes_same : (h : Hearing) (d : Told) → Good d → Goes h d d
goes_same h d g = record { good = g; front = λ o. itself (ready_told h d) }

goes_moment : (h : Hearing) (d : Told) (t : ℕ) → Good d → Goes h d (told_moment d t)
goes_moment h d t g =
    let l : d.moment ≤ max d.moment t = omega arith in
    let k : Good (told_moment d t) = record { most = λ u i. let m = g.most u i in omega (arith, m); falling = g.falling; until = λ f i. let m = g.until f i in omega (arith, m) } in
    record { good = k; front = λ o. both h d (told_moment d t) o o (inner h d (told_moment d t) g k l refl (last_front h d.sender d.moment d.past g.falling)) }

goes_closed : (h : Hearing) (d : Told) → Good d → Goes h d (record d { closed = true })
goes_closed h d g = record {
  good = record { most = g.most; falling = g.falling; until = g.until };
  front = λ o. subst (λ (xs : List Chunk). IsFront xs (all_told h d)) (open_is h d o) (front_at h d g);
}

goes_packet : (h : Hearing) (d : Told) (t : ℕ) (p : Packet) → Good d → Goes h d (with_packet d t p)
goes_packet h d t p g =
    let l : d.moment ≤ max d.moment t = omega arith in
    let e = with_packet d t p in
    let k : Good e = record {
      most = λ u i. elim i [ inl q ↦ (let n = ap (λ (x : Numbered). x.time) q in omega (arith, n)) | inr j ↦ let m = g.most u j in omega (arith, m) ];
      falling = (λ u i. let m = g.most u i in omega (arith, m), g.falling);
      until = λ f i. let m = g.until f i in omega (arith, m);
    } in
    record { good = k; front = λ o. both h d e o o (inner h d e g k l refl (last_more h d.sender d.moment (arrival_at d t p) d.past g.falling l)) }

-- who is heard now is heard no longer
ends_front : (h : Hearing) (sender : Option ℕ) (past : List Arrival) (before : List Former) (t m : ℕ) → t ≤ m → Falling (numbered past)
    → IsFront (all_former h before ++ filter (is_ready_by t) (last_chunks h sender past)) (all_former h (former_after sender past m before))
ends_front h None past before t m l f = subst (λ (xs : List Chunk). IsFront xs (all_former h before)) (sym (append-nil (all_former h before))) (itself (all_former h before))
ends_front h (Some ssrc) past before t m l f =
    behind (all_former h before) (filter (is_ready_by t) (sender_chunks h ssrc past)) (map (ready_until m) (sender_chunks h ssrc past) ++ chunk h.leg m marker ∷ [])
    (more (filter (is_ready_by t) (sender_chunks h ssrc past)) (map (ready_until m) (sender_chunks h ssrc past)) (chunk h.leg m marker ∷ [])
    (by_end t m l (sender_chunks h ssrc past) (last_front h (Some ssrc) t past f)))

ends_until : (sender : Option ℕ) (past : List Arrival) (before : List Former) (m : ℕ) → ((f : Former) → In f before → f.until ≤ m) → (f : Former) → In f (former_after sender past m before) → f.until ≤ m
ends_until None past before m g f i = g f i
ends_until (Some ssrc) past before m g f (inl e) = let n = ap (λ (x : Former). x.until) e in omega (arith, n)
ends_until (Some ssrc) past before m g f (inr i) = g f i

goes_over : (h : Hearing) (d : Told) (t : ℕ) (p : Packet) → Good d → Goes h d (taken_over d t p)
goes_over h d t p g =
    let m = max d.moment t in
    let l : d.moment ≤ m = omega arith in
    let e = taken_over d t p in
    let k : Good e = record {
      most = λ u i. elim i [ inl q ↦ (let n = ap (λ (x : Numbered). x.time) q in omega (arith, n)) | inr j ↦ absurd j ];
      falling = (λ u i. absurd i, tt);
      until = ends_until d.sender d.past d.before m (λ f i. let n = g.until f i in omega (arith, n, l));
    } in
    record {
      good = k;
      front = λ o. both h d e o o
          (subst (λ (xs : List Chunk). IsFront xs (filter (is_ready_by m) (all_told h e))) (sym (ready_is h d d.moment g.until))
          (subst (λ (ys : List Chunk). IsFront (all_former h d.before ++ filter (is_ready_by d.moment) (last_chunks h d.sender d.past)) ys) (sym (ready_is h e m k.until))
          (more (all_former h d.before ++ filter (is_ready_by d.moment) (last_chunks h d.sender d.past)) (all_former h e.before) (filter (is_ready_by m) (last_chunks h e.sender e.past))
          (ends_front h d.sender d.past d.before d.moment m l g.falling))));
    }

-- ---- takes
goes_text : (h : Hearing) (d : Told) (t : ℕ) (r : Result Packet TextFault) → Good d → Goes h d (told_packet h d t r)
goes_text h d t (Err fault) g = goes_same h d g
goes_text h d t (Ok p) g = go (is_sender d.sender p.ssrc) (takes_over h d t p.ssrc)
  where
    go : (a b : Bool) → Goes h d (if a then with_packet d t p else (if b then taken_over d t p else d))
    go true b = goes_packet h d t p g
    go false true = goes_over h d t p g
    go false false = goes_same h d g

goes_came : (h : Hearing) (d : Told) (t : ℕ) (came : Came) → Good d → Goes h d (told_came h d t came)
goes_came h d t (Datagram octets) g = goes_text h d t (text_within h.most octets None h.payload_types) g
goes_came h d t Large g = goes_moment h d t g
goes_came h d t Quiet g = goes_moment h d t g
goes_came h d t Closed g = goes_closed h d g

-- the link is closed where a take closed it
text_closed : (h : Hearing) (d : Told) (t : ℕ) (r : Result Packet TextFault) → (told_packet h d t r).closed ≡ d.closed
text_closed h d t (Err fault) = refl
text_closed h d t (Ok p) = go (is_sender d.sender p.ssrc) (takes_over h d t p.ssrc)
  where
    go : (a b : Bool) → (if a then with_packet d t p else (if b then taken_over d t p else d)).closed ≡ d.closed
    go true b = refl
    go false true = refl
    go false false = refl

pub came_closed : (h : Hearing) (d : Told) (t : ℕ) (came : Came) → (told_came h d t came).closed ≡ (is_closing came || d.closed)
came_closed h d t (Datagram octets) = text_closed h d t (text_within h.most octets None h.payload_types)
came_closed h d t Large = refl
came_closed h d t Quiet = refl
came_closed h d t Closed = refl

pub closed_by : (h : Hearing) (takes : Takes) → (told_by h takes).closed ≡ is_closed takes
closed_by h [] = refl
closed_by h (a ∷ past) = came_closed h (told_by h past) a.at a.came ∙ ap (λ c. is_closing a.came || c) (closed_by h past)

-- ---- many takes
module _ (h : Hearing) where
  pub all_good : (takes : Takes) → Good (told_by h takes)
  all_good [] = record { most = λ u i. absurd i; falling = tt; until = λ f i. absurd i }
  all_good (a ∷ past) = (goes_came h (told_by h past) a.at a.came (all_good past)).good

  next_stay : (a : Taken) (past : Takes) → is_closed past ≡ false → IsFront (ready_by h past) (ready_by h (a ∷ past))
  next_stay a past o = (goes_came h (told_by h past) a.at a.came (all_good past)).front (closed_by h past ∙ o)

  all_stay : (later earlier : Takes) → is_closed (later ++ earlier) ≡ false → IsFront (ready_by h earlier) (ready_by h (later ++ earlier))
  all_stay [] earlier o = itself (ready_by h earlier)
  all_stay (a ∷ later) earlier o =
      let p = (or_parts (is_closing a.came) (is_closed (later ++ earlier)) o).1 in
      then_front (ready_by h earlier) (ready_by h (later ++ earlier)) (ready_by h (a ∷ (later ++ earlier))) (all_stay later earlier p) (next_stay a (later ++ earlier) p)

pub stays_law : ReadyStays
stays_law h last later earlier o =
    then_front (ready_by h earlier) (ready_by h (later ++ earlier)) (ready_by h (last ∷ (later ++ earlier))) (all_stay h later earlier o) (next_stay h last (later ++ earlier) o)

pub front_law : ReadyIsFront
front_law h takes = ready_front h (told_by h takes) (all_good h takes)
