-- What the turns of a mixer send to a terminal is what they enter there.
use Rattle.std.proofs.Common.{◌≡◌, ℕ, ◌<◌, Bool, true, false, cond, ◌⊎◌, inl, inr, Option, Some, None, List, [], ◌∷◌, ◌++◌, length, map, refl, ap, subst, sym, ◌∙◌}
use Rattle.std.specs.Prelude.{◌&&◌, ◌==◌, filter, slice_index}
use Rattle.std.proofs.lemmas.Bool.{cases_eq, eq-eqb, ne_eqb}
use Rattle.std.proofs.lemmas.List.Elements.{filter-append}
use Rattle.stream_spec.specs.Own.{Sent, has_text_in}
use Rattle.mixer_spec.specs.Chunks.{front, joined}
use Rattle.mixer_spec.specs.Composed.{Answer}
use Rattle.mixer_spec.specs.Setups.{Setup}
use Rattle.mixer_spec.specs.Table.{Admit, Hush, Leave, Offer, Turn, Seats, Table, Terminal, TurnEntry, after_calls, answer_at, come_to, compose, free_place, given, has_room, is_asked, is_seated, leg_in, next_media, repeated, sent_from, serve, serve_leg, served, turn_at, turn_aware, turn_unaware, turned}
use Rattle.mixer_spec.proofs.Finish.{given_sent}
use Rattle.mixer_spec.proofs.Seats.{leave_with, leg_in_some}
use Rattle.terminal_scheduler.specs.Turns.{new_entry, number_of}
use Rattle.mixer.specs.declared.batches.Post.{Post}
use Rattle.mixer.specs.Turns.{post_of, posts_at}
use Rattle.mixer.proofs.Entered.{entered_to}
use Rattle.mixer_posts.specs.Streams.{AreSourcesAt, AreSourcesOf}
use Rattle.mixer_posts.specs.Posts.{sent_by, sent_of_post, sents_to, with_posts}
use Rattle.mixer_posts.specs.Laws.{PostsAreEntered}
use Rattle.mixer.proofs.Few.{none_new}

-- ---- the entry of a turn
-- it is of this source on the wire: of a leg's at an aware terminal, else of the mixer's
abbrev HasSource : Setup → Bool → TurnEntry → Type 0
HasSource s true e = (e.leg < s.legs) × (e.sent.source ≡ s.ssrc e.leg)
HasSource s false e = e.sent.source ≡ s.mixer

-- at most one was made, at this moment
abbrev Enters : Setup → Bool → ℕ → List TurnEntry → List TurnEntry → Type 0
Enters s aware now before after = (after ≡ before) ⊎ ((e : TurnEntry) × (after ≡ e ∷ before) × (e.at ≡ now) × HasSource s aware e)

leg_enters : (s : Setup) (j now t p : ℕ) (d : Terminal) (o : Option ℕ) → ((i : ℕ) → o ≡ Some i → i < s.legs) → Enters s true now d.past (serve_leg s j now t d p o).past
leg_enters s j now t p d None low = inl refl
leg_enters s j now t p d (Some i) low =
    let chunks = front (s.room j) (d.waits i) in
    inr (record { at = now; place = p; leg = i; chunks = chunks; sent = record { source = s.ssrc i; media = t; text = joined chunks } }, refl, refl, (low i refl, refl))

place_enters : (s : Setup) (seats : Seats) (j now t : ℕ) (d : Terminal) (o : Option ℕ) → Enters s true now d.past (serve s seats j now t d o).past
place_enters s seats j now t d None = inl refl
place_enters s seats j now t d (Some p) = leg_enters s j now t p d (leg_in seats s.legs p) (λ i e. (leg_in_some seats s.legs p i e).0)

composed_enters : (s : Setup) (j now t : ℕ) (d : Terminal) (o : Option Answer) → Enters s false now d.past (compose s j now t d o).past
composed_enters s j now t d None = go (is_asked s t d && has_text_in (s.generations j) (sent_from s.mixer d))
  where
    go : (b : Bool) → Enters s false now d.past (repeated s j now t b d.past)
    go true = inr (record { at = now; place = 0; leg = j; chunks = []; sent = record { source = s.mixer; media = t; text = [] } }, refl, refl, refl)
    go false = inl refl
composed_enters s j now t d (Some g) = inr (record { at = now; place = 0; leg = g.source; chunks = g.chunks; sent = record { source = s.mixer; media = t; text = g.text } }, refl, refl, refl)

turn_enters : (s : Setup) (seats : Seats) (j now t : ℕ) (d : Terminal) → Enters s (s.aware j) now d.past (turn_at s seats j now t d).past
turn_enters s seats j now t d = go (is_seated seats j) (s.aware j)
  where
    go : (a b : Bool) → Enters s b now d.past (cond a (cond b (turn_aware s seats j now t d) (turn_unaware s j now t d)) d).past
    go false b = inl refl
    go true true = place_enters s seats j now t d (served s seats j t d)
    go true false = composed_enters s j now t d (answer_at s j t d)

-- what is sent of it is what it has
source_is : (s : Setup) (aware : Bool) (sources : List ℕ) (e : TurnEntry) → AreSourcesOf aware s sources → HasSource s aware e → slice_index sources (number_of aware e) ≡ e.sent.source
source_is s true sources e a h = a.1 e.leg h.0 ∙ sym h.1
source_is s false sources e a h = ap (λ (xs : List ℕ). slice_index xs 0) a ∙ sym h

sent_is : (s : Setup) (j : ℕ) (sources : List ℕ) (e : TurnEntry) → AreSourcesAt s j sources → HasSource s (s.aware j) e → sent_of_post sources (post_of s j e) ≡ e.sent
sent_is s j sources e a h = ap (λ (x : ℕ). let sent : Sent = record { source = x; media = e.sent.media; text = e.sent.text } in sent) (source_is s (s.aware j) sources e a h)

-- ---- what a turn sends, behind what was sent before
abbrev with_sents : ℕ → List Sent → List (ℕ × Sent) → List (ℕ × Sent)
with_sents now [] sent = sent
with_sents now (e ∷ es) sent = with_sents now es ((now, e) ∷ sent)

-- the posts to the terminal j
abbrev to : ℕ → Post → Bool
to j p = p.terminal == j

turn_sents : (sources : List ℕ) (now j : ℕ) (ps : List Post) (sent : List (ℕ × Post))
    → sents_to sources j (with_posts now ps sent) ≡ with_sents now (map (sent_of_post sources) (filter (to j) ps)) (sents_to sources j sent)
turn_sents sources now j [] sent = refl
turn_sents sources now j (p ∷ ps) sent = turn_sents sources now j ps ((now, p) ∷ sent) ∙ elim (cases_eq p.terminal j) [
  | inl e ↦ rw (eq-eqb p.terminal j e) refl
  | inr n ↦ rw (ne_eqb p.terminal j n) refl
]

abbrev pub entered : TurnEntry → ℕ × Sent
entered e = (e.at, e.sent)

one_new : (e : TurnEntry) (past : List TurnEntry) → new_entry past (e ∷ past) ≡ e ∷ []
one_new e past = rw (eq-eqb (length past) (length past) refl) refl

entry_sent : (s : Setup) (now j : ℕ) (sources : List ℕ) (before after : List TurnEntry) (sent : List (ℕ × Sent)) → AreSourcesAt s j sources → Enters s (s.aware j) now before after
    → sent ≡ map entered before → with_sents now (map (sent_of_post sources) (map (post_of s j) (new_entry before after))) sent ≡ map entered after
entry_sent s now j sources before after sent a (inl e) h =
    subst (λ (past : List TurnEntry). with_sents now (map (sent_of_post sources) (map (post_of s j) (new_entry before past))) sent ≡ map entered past) (sym e)
    (ap (λ (es : List TurnEntry). with_sents now (map (sent_of_post sources) (map (post_of s j) es)) sent) (none_new before) ∙ h)
entry_sent s now j sources before after sent a (inr r) h =
    let e = r.0 in
    let here : (now, sent_of_post sources (post_of s j e)) ≡ entered e = ap (λ (t : ℕ). (t, sent_of_post sources (post_of s j e))) (sym r.2) ∙ ap (λ (x : Sent). (e.at, x)) (sent_is s j sources e a r.3) in
    subst (λ (past : List TurnEntry). with_sents now (map (sent_of_post sources) (map (post_of s j) (new_entry before past))) sent ≡ map entered past) (sym r.1)
    (ap (λ (es : List TurnEntry). with_sents now (map (sent_of_post sources) (map (post_of s j) es)) sent) (one_new e before)
    ∙ (ap (λ (x : ℕ × Sent). x ∷ sent) here ∙ ap (λ (xs : List (ℕ × Sent)). entered e ∷ xs) h))

turn_entered : (s : Setup) (now j : ℕ) (sources : List ℕ) (w : Table) (sent : List (ℕ × Post)) → j < s.legs → AreSourcesAt s j sources
    → sents_to sources j sent ≡ map entered (w.terminals j).past → sents_to sources j (with_posts now (posts_at s now w) sent) ≡ map entered ((turned s now w).terminals j).past
turn_entered s now j sources w sent l a h =
    let after = ((turned s now w).terminals j).past in
    turn_sents sources now j (posts_at s now w) sent
    ∙ (ap (λ (ps : List Post). with_sents now (map (sent_of_post sources) ps) (sents_to sources j sent)) (entered_to s now j w l)
    ∙ entry_sent s now j sources (w.terminals j).past after (sents_to sources j sent) a (turn_enters s w.seats j now (next_media s.step w.media now) (w.terminals j)) h)

-- at most one post goes to a terminal in a turn
one_post : (s : Setup) (j : ℕ) (before after : List TurnEntry) → (map (post_of s j) (new_entry before after) ≡ []) ⊎ ((p : Post) × (map (post_of s j) (new_entry before after) ≡ p ∷ []))
one_post s j before [] = inl refl
one_post s j before (e ∷ past) = go (length past == length before)
  where
    go : (b : Bool) → (map (post_of s j) (cond {A = List TurnEntry} b (e ∷ []) []) ≡ []) ⊎ ((p : Post) × (map (post_of s j) (cond {A = List TurnEntry} b (e ∷ []) []) ≡ p ∷ []))
    go true = inr (post_of s j e, refl)
    go false = inl refl

-- so the first of them have none of it, or all
none_or_all : (first left all : List Post) → first ++ left ≡ all → (all ≡ []) ⊎ ((p : Post) × (all ≡ p ∷ [])) → (first ≡ []) ⊎ (first ≡ all)
none_or_all [] left all e few = inl refl
none_or_all (x ∷ []) left all e (inl n) = absurd (cc (e, n))
none_or_all (x ∷ []) left all e (inr r) = let q : x ∷ left ≡ r.0 ∷ [] = e ∙ r.1 in let same : x ≡ r.0 = cc q in inr (ap (λ (p : Post). p ∷ []) same ∙ sym r.1)
none_or_all (x ∷ y ∷ first) left all e (inl n) = absurd (cc (e, n))
none_or_all (x ∷ y ∷ first) left all e (inr r) = let q : x ∷ (y ∷ (first ++ left)) ≡ r.0 ∷ [] = e ∙ r.1 in absurd (cc q)

-- Of a turn of which some first posts were sent, all that goes to a terminal was, or nothing.
pub some_sent : (s : Setup) (now j : ℕ) (sources : List ℕ) (w : Table) (sent : List (ℕ × Post)) (first left : List Post) → j < s.legs → posts_at s now w ≡ first ++ left
    → (sents_to sources j (with_posts now first sent) ≡ sents_to sources j sent) ⊎ (sents_to sources j (with_posts now first sent) ≡ sents_to sources j (with_posts now (posts_at s now w) sent))
some_sent s now j sources w sent first left l are =
    let before = (w.terminals j).past in
    let after = ((turned s now w).terminals j).past in
    let all = map (post_of s j) (new_entry before after) in
    let split : filter (to j) first ++ filter (to j) left ≡ all = sym (filter-append (to j) first left) ∙ (ap (filter (to j)) (sym are) ∙ entered_to s now j w l) in
    let sents_of : List Post → List (ℕ × Sent) = λ ps. with_sents now (map (sent_of_post sources) ps) (sents_to sources j sent) in
    elim (none_or_all (filter (to j) first) (filter (to j) left) all split (one_post s j before after)) [
      | inl none ↦ inl (turn_sents sources now j first sent ∙ ap sents_of none)
      | inr whole ↦ inr (turn_sents sources now j first sent ∙ (ap sents_of (whole ∙ sym (entered_to s now j w l)) ∙ sym (turn_sents sources now j (posts_at s now w) sent)))
    ]

-- ---- what all calls send
pub entered_law : PostsAreEntered
entered_law s [] j sources l a = refl
entered_law s (Admit k b ∷ past) j sources l a = go (free_place s (after_calls s past).seats) (entered_law s past j sources l a)
  where
    go : (o : Option ℕ) → sents_to sources j (sent_by s past) ≡ map entered ((after_calls s past).terminals j).past → sents_to sources j (sent_by s past) ≡ map entered ((come_to k b (after_calls s past) o).terminals j).past
    go None h = h
    go (Some p) h = h
entered_law s (Hush k ∷ past) j sources l a = entered_law s past j sources l a
entered_law s (Leave k ∷ past) j sources l a =
    let h = entered_law s past j sources l a in leave_with s k (after_calls s past) (λ (t : Table). sents_to sources j (sent_by s past) ≡ map entered (t.terminals j).past) h (λ m. h)
entered_law s (Offer c ∷ past) j sources l a = go (has_room s c.source c (after_calls s past)) (entered_law s past j sources l a)
  where
    go : (b : Bool) → sents_to sources j (sent_by s past) ≡ map entered ((after_calls s past).terminals j).past
        → sents_to sources j (sent_by s past) ≡ map entered ((cond {A = Table} b (given c.source c (after_calls s past)) (after_calls s past)).terminals j).past
    go false h = h
    go true h = h ∙ sym (ap (λ (es : List TurnEntry). map entered es) (given_sent c.source j c (after_calls s past)))
entered_law s (Turn now ∷ past) j sources l a = turn_entered s now j sources (after_calls s past) (sent_by s past) l a (entered_law s past j sources l a)
