-- What waits at a terminal, and when it was asked.
use Rattle.std.proofs.Common.{◌≡◌, ℕ, suc, ◌+◌, ◌<◌, ◌≤◌, Bool, true, false, cond, inl, inr, Option, Some, None, List, [], ◌∷◌, ◌++◌, refl, ap, subst, sym, ◌∙◌, arith, not}
use Rattle.std.specs.Prelude.{◌==◌, if◌then◌else◌}
use Rattle.std.proofs.lemmas.Bool.{cases_eq, and_parts, not-true, eqb-false}
use Rattle.stream_spec.specs.Ready.{Chunk}
use Rattle.mixer_spec.specs.Chunks.{front, behind}
use Rattle.mixer_spec.specs.Rounds.{set_at}
use Rattle.mixer_spec.specs.Setups.{Setup, IsSetup}
use Rattle.mixer_spec.specs.Composed.{Answer, Asked}
use Rattle.mixer_spec.specs.Table.{Call, Admit, Hush, Leave, Offer, Turn, Terminal, Seats, Taken, Table, chunks_taken, shared, leg_in, is_seated, is_given, has_room, give, given, free_place, come_to, served, serve_leg, serve, turn_aware, is_asked, answer_at, compose, turn_unaware, turn_at, next_media, after_calls}
use Rattle.mixer_spec.specs.Calls.{took}
use Rattle.mixer_spec.specs.Laws.{AreTexts, AreShort, AllGiven, Part, carried}
use Rattle.mixer_spec.proofs.Lists.{nil, set_same, set_other}
use Rattle.mixer_spec.proofs.Kept.{answer_front, core_kept}
use Rattle.mixer_spec.proofs.Parts.{part_law}
use Rattle.mixer_spec.proofs.Seats.{leave_with}
use Rattle.mixer_spec.proofs.Turns.{next_is}
use Rattle.mixer_places.specs.Words.{NoneWaits}
use Rattle.unaware_view.specs.Standing.{least_ask}
use Rattle.mixer.specs.Allowed.{AreAllowed}
use Rattle.mixer.proofs.Allowing.{events_law, good_taken}
use Rattle.mixer.proofs.Sending.{good}

-- ---- nothing of its own waits at a terminal
abbrev NoneOwn : Table → Type 0
NoneOwn table = (j : ℕ) → (table.terminals j).waits j ≡ []

no_end : (xs ys : List Chunk) → xs ++ ys ≡ [] → ys ≡ []
no_end [] ys e = e
no_end (x ∷ xs) ys e = cc e

give_own : (table : Table) (i j : ℕ) (c : Chunk) (b : Bool) → is_given table.seats i j ≡ b → (table.terminals j).waits j ≡ [] → (cond b (give i c (table.terminals j)) (table.terminals j)).waits j ≡ []
give_own table i j c false q e = e
give_own table i j c true q e =
    let other = eqb-false j i (not-true (j == i) (and_parts (not (j == i)) (table.seats.listens j) q).0) in
    set_other (table.terminals j).waits i ((table.terminals j).waits i ++ c ∷ []) j other ∙ e

rest_own : (waits : ℕ → List Chunk) (u j : ℕ) (cs rest : List Chunk) → cs ++ rest ≡ waits u → waits j ≡ [] → set_at waits u rest j ≡ []
rest_own waits u j cs rest f e = elim (cases_eq j u) [
  | inl q ↦ set_same waits u rest j q ∙ no_end cs rest (f ∙ (ap waits (sym q) ∙ e))
  | inr n ↦ set_other waits u rest j n ∙ e
]

serve_leg_own : (s : Setup) (j now t p : ℕ) (d : Terminal) (o : Option ℕ) → d.waits j ≡ [] → (serve_leg s j now t d p o).waits j ≡ []
serve_leg_own s j now t p d None e = e
serve_leg_own s j now t p d (Some u) e = rest_own d.waits u j (front (s.room j) (d.waits u)) (behind (s.room j) (d.waits u)) (Rattle.mixer_spec.proofs.Kept.front_behind (s.room j) (d.waits u)) e

serve_own : (s : Setup) (seats : Seats) (j now t : ℕ) (d : Terminal) (o : Option ℕ) → d.waits j ≡ [] → (serve s seats j now t d o).waits j ≡ []
serve_own s seats j now t d None e = e
serve_own s seats j now t d (Some p) e = serve_leg_own s j now t p d (leg_in seats s.legs p) e

compose_own : (s : Setup) (j now t : ℕ) (d : Terminal) (o : Option Answer) → ((g : Answer) → o ≡ Some g → g.chunks ++ g.rest ≡ d.waits g.source) → d.waits j ≡ [] → (compose s j now t d o).waits j ≡ []
compose_own s j now t d None f e = e
compose_own s j now t d (Some g) f e = rest_own d.waits g.source j g.chunks g.rest (f g refl) e

turn_own : (s : Setup) (seats : Seats) (j now t : ℕ) (d : Terminal) → d.waits j ≡ [] → (turn_at s seats j now t d).waits j ≡ []
turn_own s seats j now t d e = go (is_seated seats j) (s.aware j)
  where
    go : (a b : Bool) → (cond a (cond b (turn_aware s seats j now t d) (turn_unaware s j now t d)) d).waits j ≡ []
    go false b = e
    go true true = serve_own s seats j now t d (served s seats j t d) e
    go true false = compose_own s j now t d (answer_at s j t d) (λ g q. answer_front s j t (is_asked s t d) d.waits d.asks g q) e

pub none_own : (s : Setup) (calls : List Call) (j : ℕ) → ((after_calls s calls).terminals j).waits j ≡ []
none_own s [] j = refl
none_own s (Admit i l ∷ past) j = go (free_place s (after_calls s past).seats) (none_own s past j)
  where
    go : (o : Option ℕ) → ((after_calls s past).terminals j).waits j ≡ [] → ((come_to i l (after_calls s past) o).terminals j).waits j ≡ []
    go None e = e
    go (Some p) e = e
none_own s (Hush i ∷ past) j = none_own s past j
none_own s (Leave i ∷ past) j = leave_with s i (after_calls s past) (λ (t : Table). (t.terminals j).waits j ≡ []) (none_own s past j) (λ m. none_own s past j)
none_own s (Offer c ∷ past) j = go (has_room s c.source c (after_calls s past)) (none_own s past j)
  where
    go : (b : Bool) → ((after_calls s past).terminals j).waits j ≡ [] → ((cond {A = Table} b (given c.source c (after_calls s past)) (after_calls s past)).terminals j).waits j ≡ []
    go false e = e
    go true e = give_own (after_calls s past) c.source j c (is_given (after_calls s past).seats c.source j) refl e
none_own s (Turn now ∷ past) j = let w = after_calls s past in turn_own s w.seats j now (next_media s.step w.media now) (w.terminals j) (none_own s past j)

-- ---- what waits of another leg was given to the terminal
pub kept : (s : Setup) (calls : List Call) → AreAllowed s calls → (j i : ℕ) → (i ≡ j → ⊥)
    → let w = after_calls s calls in
    carried i (w.terminals j).past ++ (w.terminals j).waits i ≡ shared j (w.taken i)
kept s calls a j i n =
    let e = events_law s calls a in
    subst (λ (w : Table). carried i (w.terminals j).past ++ (w.terminals j).waits i ≡ shared j (w.taken i)) e.table (core_kept s (λ i. took s i calls) e.past j i n)

pub part : (s : Setup) (calls : List Call) → AreAllowed s calls → (j i : ℕ) → (i ≡ j → ⊥)
    → let w = after_calls s calls in
    Part j (w.seats.came j) (w.seats.listens j) (w.taken i)
part s calls a j i n =
    let e = events_law s calls a in
    subst (λ (w : Table). Part j (w.seats.came j) (w.seats.listens j) (w.taken i)) e.table (part_law s (λ i. took s i calls) e.past j i n)

short_right : (xs ys : List Chunk) → AreShort (xs ++ ys) → AreShort ys
short_right [] ys a = a
short_right (x ∷ xs) ys a = short_right xs ys a.1

short_shared : (j : ℕ) (xs : List Taken) → AreShort (chunks_taken xs) → AreShort (shared j xs)
short_shared j [] a = tt
short_shared j (x ∷ xs) a = go (x.given j) (short_shared j xs a.1)
  where
    go : (b : Bool) → AreShort (shared j xs) → AreShort ((if b then x.chunk ∷ [] else []) ++ shared j xs)
    go true h = (a.0, h)
    go false h = h

pub texts_wait : (s : Setup) (calls : List Call) (j i : ℕ) → IsSetup s → AreAllowed s calls → AreTexts (((after_calls s calls).terminals j).waits i)
texts_wait s calls j i is a = (good s is calls a).waits j i

pub short_wait : (s : Setup) (calls : List Call) (j i : ℕ) → AreAllowed s calls → AreShort (((after_calls s calls).terminals j).waits i)
short_wait s calls j i a = elim (cases_eq i j) [
  | inl q ↦ subst AreShort (sym (ap ((after_calls s calls).terminals j).waits q ∙ none_own s calls j)) tt
  | inr n ↦ short_right (carried i ((after_calls s calls).terminals j).past) (((after_calls s calls).terminals j).waits i)
      (subst AreShort (sym (kept s calls a j i n)) (short_shared j ((after_calls s calls).taken i) (good_taken s calls a i).short))
]

-- ---- who never came
none_shared : (j : ℕ) (xs : List Taken) → AllGiven false j xs → shared j xs ≡ []
none_shared j [] a = refl
none_shared j (x ∷ xs) a = ap (λ b. (if b then x.chunk ∷ [] else []) ++ shared j xs) a.0 ∙ none_shared j xs a.1

pub none_before : (s : Setup) (calls : List Call) (j : ℕ) → AreAllowed s calls → (after_calls s calls).seats.came j ≡ false → NoneWaits s j (after_calls s calls)
none_before s calls j a fresh i l = elim (cases_eq i j) [
  | inl q ↦ ap ((after_calls s calls).terminals j).waits q ∙ none_own s calls j
  | inr n ↦
      let p = part s calls a j i n in
      let none = p.not_yet fresh in
      let all : (after_calls s calls).taken i ≡ p.before = p.whole ∙ (ap (λ xs. p.before ++ (xs ++ p.behind)) none.0 ∙ (ap (λ xs. p.before ++ xs) none.1 ∙ nil p.before)) in
      no_end (carried i ((after_calls s calls).terminals j).past) (((after_calls s calls).terminals j).waits i) (kept s calls a j i n ∙ (ap (shared j) all ∙ none_shared j p.before p.none_before))
]

pub came_once : (s : Setup) (calls : List Call) (j : ℕ) → AreAllowed s calls → (after_calls s calls).seats.listens j ≡ true → (after_calls s calls).seats.came j ≡ true
came_once s calls j a e = ((part s calls a j (suc j) (λ q. omega (arith, q))).goes_on e).1

-- ---- when a terminal was asked
abbrev AskedBy : Option ℕ → List Asked → Type 0
AskedBy None asks = asks ≡ []
AskedBy (Some m) asks = least_ask asks ≤ m + 1

-- at a turn
asked_later : (s : Setup) → 0 < s.step → (media : Option ℕ) (now : ℕ) (asks : List Asked) → AskedBy media asks → least_ask asks ≤ next_media s.step media now
asked_later s l None now asks e = subst (λ (xs : List Asked). least_ask xs ≤ now) (sym e) (omega arith)
asked_later s l (Some m) now asks e = let n = next_is s.step (Some m) now l in omega (arith, e, n)

turn_asked : (s : Setup) (seats : Seats) (j now t : ℕ) (d : Terminal) → least_ask d.asks ≤ t → least_ask (turn_at s seats j now t d).asks ≤ t + 1
turn_asked s seats j now t d e = go (is_seated seats j) (s.aware j)
  where
    serve_leg_is : (p : ℕ) (o : Option ℕ) → least_ask (serve_leg s j now t d p o).asks ≤ t + 1
    serve_leg_is p None = omega (arith, e)
    serve_leg_is p (Some u) = omega (arith, e)

    serve_is : (o : Option ℕ) → least_ask (serve s seats j now t d o).asks ≤ t + 1
    serve_is None = omega (arith, e)
    serve_is (Some p) = serve_leg_is p (leg_in seats s.legs p)

    compose_is : (o : Option Answer) → least_ask (compose s j now t d o).asks ≤ t + 1
    compose_is None = omega arith
    compose_is (Some g) = omega arith

    go : (a b : Bool) → least_ask (cond a (cond b (turn_aware s seats j now t d) (turn_unaware s j now t d)) d).asks ≤ t + 1
    go false b = omega (arith, e)
    go true true = serve_is (served s seats j t d)
    go true false = compose_is (answer_at s j t d)

asked : (s : Setup) → 0 < s.step → (calls : List Call) (j : ℕ) → AskedBy (after_calls s calls).media ((after_calls s calls).terminals j).asks
asked s l [] j = refl
asked s l (Admit i b ∷ past) j = go (free_place s (after_calls s past).seats) (asked s l past j)
  where
    go : (o : Option ℕ) → AskedBy (after_calls s past).media ((after_calls s past).terminals j).asks → AskedBy (come_to i b (after_calls s past) o).media ((come_to i b (after_calls s past) o).terminals j).asks
    go None h = h
    go (Some p) h = h
asked s l (Hush i ∷ past) j = asked s l past j
asked s l (Leave i ∷ past) j = leave_with s i (after_calls s past) (λ (t : Table). AskedBy t.media (t.terminals j).asks) (asked s l past j) (λ m. asked s l past j)
asked s l (Offer c ∷ past) j = go (has_room s c.source c (after_calls s past)) (asked s l past j)
  where
    to : (b : Bool) → AskedBy (after_calls s past).media ((after_calls s past).terminals j).asks → AskedBy (after_calls s past).media (cond b (give c.source c ((after_calls s past).terminals j)) ((after_calls s past).terminals j)).asks
    to true h = h
    to false h = h

    go : (b : Bool) → AskedBy (after_calls s past).media ((after_calls s past).terminals j).asks
        → AskedBy (cond {A = Table} b (given c.source c (after_calls s past)) (after_calls s past)).media ((cond {A = Table} b (given c.source c (after_calls s past)) (after_calls s past)).terminals j).asks
    go false h = h
    go true h = to (is_given (after_calls s past).seats c.source j) h
asked s l (Turn now ∷ past) j =
    let w = after_calls s past in turn_asked s w.seats j now (next_media s.step w.media now) (w.terminals j) (asked_later s l w.media now (w.terminals j).asks (asked s l past j))

pub asked_law : (s : Setup) (calls : List Call) (now j : ℕ) → IsSetup s
    → let w = after_calls s calls in
    least_ask (w.terminals j).asks ≤ next_media s.step w.media now
asked_law s calls now j is = let w = after_calls s calls in asked_later s is.step w.media now (w.terminals j).asks (asked s is.step calls j)
