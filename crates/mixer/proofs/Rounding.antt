-- Spacing, rounds and histories after allowed calls.
use Rattle.std.proofs.Common.{◌≡◌, ℕ, suc, ◌+◌, ◌*◌, ◌^◌, ◌<◌, ◌≤◌, Bool, true, false, cond, ◌⊎◌, Some, List, [], ◌∷◌, ◌++◌, refl, ap, subst, sym, ◌∙◌, append_assoc}
use Rattle.std.specs.Prelude.{◌&&◌, ◌==◌}
use Rattle.stream_spec.specs.Ready.{Chunk}
use Rattle.stream_spec.specs.History.{Lawful, Come, Placed}
use Rattle.stream_spec.specs.Own.{Own, NearEach, come_from, has_text_in}
use Rattle.mixer_spec.specs.Setups.{Setup, IsSetup, gap, other_places}
use Rattle.mixer_spec.specs.Table.{Call, Admit, Hush, Leave, Offer, Turn, Table, history_to, sent_from, last_media, is_due, rank, next_media, has_room, may_leave, after_calls}
use Rattle.mixer_spec.specs.Core.{Event, Enter, Stop, Push, Take, after, turns_in}
use Rattle.mixer_spec.specs.Core as core
use Rattle.mixer_spec.specs.Calls.{took, turns_made}
use Rattle.mixer_spec.specs.Laws.{Tight, IsWaiting, count_of}
use Rattle.mixer_spec.proofs.Lists.{nil}
use Rattle.mixer_spec.proofs.Final.{lawful_law, own_law, come_law, spacing_law, near_law}
use Rattle.mixer_spec.proofs.Served.{served_law, nearer_law, turns_more}
use Rattle.mixer.specs.Allowed.{AreAllowed}
use Rattle.mixer.specs.Words.{accepted}
use Rattle.mixer.proofs.Leaving.{AreAll, all_before}
use Rattle.mixer.proofs.Allowing.{events_of, events_law, good_taken, rests, table_law}
use Rattle.mixer.proofs.Going.{accepted_law}

-- ---- one moment
pub near_packets : (s : Setup) (calls : List Call) (j x : ℕ) → IsSetup s → AreAllowed s calls → j < s.legs → Tight (s.generations j) (gap s) (sent_from x ((after_calls s calls).terminals j))
near_packets s calls j x is a l =
    let e = events_law s calls a in
    subst (λ (w : Table). Tight (s.generations j) (gap s) (sent_from x (w.terminals j))) e.table (near_law s (λ i. took s i calls) e.past j x is (λ i. (good_taken s calls a i).texts) l)

pub short_waits : (s : Setup) (calls : List Call) (j i t m : ℕ) → IsSetup s → AreAllowed s calls → s.aware j ≡ true → j < s.legs → i < s.legs → (i ≡ j → ⊥)
    → let w = after_calls s calls in
    w.media ≡ Some t → has_text_in (s.generations j) (sent_from (s.ssrc i) (w.terminals j)) ≡ true → last_media (sent_from (s.ssrc i) (w.terminals j)) ≡ Some m
    → IsWaiting s w j i t m
short_waits s calls j i t m is a aw lj li n =
    let e = events_law s calls a in
    subst (λ (w : Table). w.media ≡ Some t → has_text_in (s.generations j) (sent_from (s.ssrc i) (w.terminals j)) ≡ true → last_media (sent_from (s.ssrc i) (w.terminals j)) ≡ Some m → IsWaiting s w j i t m)
    e.table (spacing_law s (λ i. took s i calls) e.past j i t m is (λ i. (good_taken s calls a i).texts) aw lj li n)

pub lawful_history : (s : Setup) (calls : List Call) (j : ℕ) → IsSetup s → AreAllowed s calls → s.step * turns_made calls < 2 ^ 31 → j < s.legs → Lawful (history_to s j ((after_calls s calls).terminals j).past)
lawful_history s calls j is a b l =
    let e = events_law s calls a in
    subst (λ (w : Table). Lawful (history_to s j (w.terminals j).past)) e.table
    (lawful_law s (λ i. took s i calls) e.past j is (λ i. (good_taken s calls a i).texts) (subst (λ (k : ℕ). s.step * k < 2 ^ 31) (sym e.turns) b) l)

pub own_history : (s : Setup) (calls : List Call) (j : ℕ) → AreAllowed s calls → Own (s.generations j) (history_to s j ((after_calls s calls).terminals j).past)
own_history s calls j a =
    let e = events_law s calls a in
    subst (λ (w : Table). Own (s.generations j) (history_to s j (w.terminals j).past)) e.table (own_law s (λ i. took s i calls) e.past j)

pub come_history : (s : Setup) (calls : List Call) (j : ℕ) → IsSetup s → AreAllowed s calls → s.step * turns_made calls < 2 ^ 31 → j < s.legs
    → let h = history_to s j ((after_calls s calls).terminals j).past in
    (xs : List (ℕ × Placed)) → NearEach h xs → Come h (come_from h xs)
come_history s calls j is a b l =
    let e = events_law s calls a in
    subst (λ (w : Table). (xs : List (ℕ × Placed)) → NearEach (history_to s j (w.terminals j).past) xs → Come (history_to s j (w.terminals j).past) (come_from (history_to s j (w.terminals j).past) xs)) e.table
    (come_law s (λ i. took s i calls) e.past j is (λ i. (good_taken s calls a i).texts) (subst (λ (k : ℕ). s.step * k < 2 ^ 31) (sym e.turns) b) l)

-- ---- two moments
abbrev pub allowed_before : (s : Setup) (es before : List Call) → AreAllowed s (es ++ before) → AreAllowed s before
allowed_before s [] before a = a
allowed_before s (Admit i l ∷ es) before a = allowed_before s es before a.1
allowed_before s (Hush i ∷ es) before a = allowed_before s es before a.1
allowed_before s (Leave i ∷ es) before a = allowed_before s es before a
allowed_before s (Offer c ∷ es) before a = allowed_before s es before a.1
allowed_before s (Turn now ∷ es) before a = allowed_before s es before a

-- the events of the later calls stand in front of those of the earlier ones
record Later (s : Setup) (es before : List Call) (a : AreAllowed s (es ++ before)) : Type 0 where
  events : List Event
  turns : turns_in events ≡ turns_made es
  is : events_of s (es ++ before) a ≡ events ++ events_of s before (allowed_before s es before a)

later : (s : Setup) (es before : List Call) (a : AreAllowed s (es ++ before)) → Later s es before a
later s [] before a = record { events = []; turns = refl; is = refl }
later s (Admit i l ∷ es) before a = let r = later s es before a.1 in record { events = Enter i a.0.at ∷ r.events; turns = r.turns; is = ap (λ xs. Enter i a.0.at ∷ xs) r.is }
later s (Hush i ∷ es) before a = let r = later s es before a.1 in record { events = Stop i a.0.at ∷ r.events; turns = r.turns; is = ap (λ xs. Stop i a.0.at ∷ xs) r.is }
later s (Leave i ∷ es) before a = go ((after_calls s (es ++ before)).seats.came i && may_leave s i (after_calls s (es ++ before))) refl (later s es before a)
  where
    go : (b : Bool) → ((after_calls s (es ++ before)).seats.came i && may_leave s i (after_calls s (es ++ before))) ≡ b → Later s es before a → Later s (Leave i ∷ es) before a
    go true q r = record {
      events = core.Depart i ∷ r.events;
      turns = r.turns;
      is = ap (λ b. cond b (core.Depart i ∷ events_of s (es ++ before) a) (events_of s (es ++ before) a)) q ∙ ap (λ xs. core.Depart i ∷ xs) r.is;
    }
    go false q r = record { events = r.events; turns = r.turns; is = ap (λ b. cond b (core.Depart i ∷ events_of s (es ++ before) a) (events_of s (es ++ before) a)) q ∙ r.is }
later s (Offer c ∷ es) before a = go (has_room s c.source c (after_calls s (es ++ before))) refl (later s es before a.1)
  where
    go : (b : Bool) → has_room s c.source c (after_calls s (es ++ before)) ≡ b → Later s es before a.1 → Later s (Offer c ∷ es) before a
    go true q r = record {
      events = Take c.source c.ready ∷ Push c.source ∷ r.events;
      turns = r.turns;
      is = ap (λ b. cond b (Take c.source c.ready ∷ Push c.source ∷ events_of s (es ++ before) a.1) (events_of s (es ++ before) a.1)) q ∙ ap (λ xs. Take c.source c.ready ∷ Push c.source ∷ xs) r.is;
    }
    go false q r = record { events = r.events; turns = r.turns; is = ap (λ b. cond b (Take c.source c.ready ∷ Push c.source ∷ events_of s (es ++ before) a.1) (events_of s (es ++ before) a.1)) q ∙ r.is }
later s (Turn now ∷ es) before a = let r = later s es before a in record { events = core.Turn now ∷ r.events; turns = ap suc r.turns; is = ap (λ xs. core.Turn now ∷ xs) r.is }

-- what was taken before is a front of what was taken
record Front (s : Setup) (es before : List Call) : Type 0 where
  more : ℕ → List Chunk
  is : (i : ℕ) → accepted s i (es ++ before) ≡ accepted s i before ++ more i

front : (s : Setup) (es before : List Call) → Front s es before
front s [] before = record { more = λ i. []; is = λ i. sym (nil (accepted s i before)) }
front s (Admit k l ∷ es) before = let f = front s es before in record { more = f.more; is = f.is }
front s (Hush k ∷ es) before = let f = front s es before in record { more = f.more; is = f.is }
front s (Leave k ∷ es) before = let f = front s es before in record { more = f.more; is = f.is }
front s (Offer c ∷ es) before =
    let f = front s es before in record {
      more = λ i. f.more i ++ cond ((i == c.source) && has_room s c.source c (after_calls s (es ++ before))) (c ∷ []) [];
      is = λ i. ap (λ xs. xs ++ cond ((i == c.source) && has_room s c.source c (after_calls s (es ++ before))) (c ∷ []) []) (f.is i)
          ∙ append_assoc (accepted s i before) (f.more i) (cond ((i == c.source) && has_room s c.source c (after_calls s (es ++ before))) (c ∷ []) []);
    }
front s (Turn now ∷ es) before = let f = front s es before in record { more = f.more; is = f.is }

all_earlier : (s : Setup) (chunks : ℕ → List Chunk) (es before : List Call) → AreAllowed s (es ++ before) → AreAll s chunks (es ++ before) → AreAll s chunks before
all_earlier s chunks [] before a all = all
all_earlier s chunks (Admit i l ∷ es) before a all = all_earlier s chunks es before a.1 (all_before s chunks (Admit i l) (es ++ before) a all)
all_earlier s chunks (Hush i ∷ es) before a all = all_earlier s chunks es before a.1 (all_before s chunks (Hush i) (es ++ before) a all)
all_earlier s chunks (Leave i ∷ es) before a all = all_earlier s chunks es before a (all_before s chunks (Leave i) (es ++ before) a all)
all_earlier s chunks (Offer c ∷ es) before a all = all_earlier s chunks es before a.1 (all_before s chunks (Offer c) (es ++ before) a all)
all_earlier s chunks (Turn now ∷ es) before a all = all_earlier s chunks es before a (all_before s chunks (Turn now) (es ++ before) a all)

-- with the chunks of all calls the events of the earlier ones come to their table, and all to the table of all
record Moments (s : Setup) (es before : List Call) (now : ℕ) (a : AreAllowed s (es ++ Turn now ∷ before)) (early events : List Event) : Type 0 where
  earlier : (after s (λ i. took s i (es ++ Turn now ∷ before)) early).table ≡ after_calls s before
  whole : (after s (λ i. took s i (es ++ Turn now ∷ before)) (events ++ core.Turn now ∷ early)).table ≡ after_calls s (es ++ Turn now ∷ before)
  turns : turns_in events ≡ turns_made es

moments : (s : Setup) (es before : List Call) (now : ℕ) (a : AreAllowed s (es ++ Turn now ∷ before)) → (early : List Event) × (events : List Event) × Moments s es before now a early events
moments s es before now a =
    let b : AreAllowed s before = allowed_before s es (Turn now ∷ before) a in
    let r = later s es (Turn now ∷ before) a in
    let f = front s es (Turn now ∷ before) in (
      events_of s before b,
      r.events,
      record {
        earlier = (rests s (λ i. took s i (es ++ Turn now ∷ before)) before b
            (all_before s (λ i. took s i (es ++ Turn now ∷ before)) (Turn now) before b (all_earlier s (λ i. took s i (es ++ Turn now ∷ before)) es (Turn now ∷ before) a (λ i h. refl))) f.more
            (λ i. accepted_law s (es ++ Turn now ∷ before) i ∙ (f.is i ∙ ap (λ xs. xs ++ f.more i) (sym (accepted_law s before i))))).table;
        whole = ap (λ xs. (after s (λ i. took s i (es ++ Turn now ∷ before)) xs).table) (sym r.is) ∙ table_law s (es ++ Turn now ∷ before) a;
        turns = r.turns;
      },
    )

-- what holds of two tables after events, with a turn between them, holds after calls
with_moments : (s : Setup) (es before : List Call) (now : ℕ) → AreAllowed s (es ++ Turn now ∷ before) → (P : Table → Table → ℕ → Type 0)
    → ((early events : List Event)
    → P (after s (λ i. took s i (es ++ Turn now ∷ before)) early).table (after s (λ i. took s i (es ++ Turn now ∷ before)) (events ++ core.Turn now ∷ early)).table (turns_in events))
    → P (after_calls s before) (after_calls s (es ++ Turn now ∷ before)) (turns_made es)
with_moments s es before now a P f =
    let m = moments s es before now a in
    subst (λ (w : Table). P w (after_calls s (es ++ Turn now ∷ before)) (turns_made es)) m.2.earlier
    (subst (λ (v : Table). P (after s (λ i. took s i (es ++ Turn now ∷ before)) m.0).table v (turns_made es)) m.2.whole
    (subst (P (after s (λ i. took s i (es ++ Turn now ∷ before)) m.0).table (after s (λ i. took s i (es ++ Turn now ∷ before)) (m.1 ++ core.Turn now ∷ m.0)).table) m.2.turns (f m.0 m.1)))

calls_more : (es : List Call) (now : ℕ) → turns_made (es ++ Turn now ∷ []) ≡ suc (turns_made es)
calls_more [] now = refl
calls_more (Admit i l ∷ es) now = calls_more es now
calls_more (Hush i ∷ es) now = calls_more es now
calls_more (Leave i ∷ es) now = calls_more es now
calls_more (Offer c ∷ es) now = calls_more es now
calls_more (Turn at ∷ es) now = ap suc (calls_more es now)

pub served_soon : (s : Setup) (before es : List Call) (j i q p now : ℕ) → IsSetup s → AreAllowed s (es ++ Turn now ∷ before) → s.aware j ≡ true → j < s.legs → i < s.legs
    → let w = after_calls s before in
    let v = after_calls s (es ++ Turn now ∷ before) in
    w.seats.place j ≡ Some q → w.seats.place i ≡ Some p → is_due s j (next_media s.step w.media now) (w.terminals j) i ≡ true
    → other_places s ≤ turns_made (es ++ Turn now ∷ []) → count_of i (w.terminals j).past < count_of i (v.terminals j).past
served_soon s before es j i q p now is a aw lj li jq ip e enough =
    with_moments s es before now a
    (λ w v k. w.seats.place j ≡ Some q → w.seats.place i ≡ Some p → is_due s j (next_media s.step w.media now) (w.terminals j) i ≡ true → other_places s ≤ suc k → count_of i (w.terminals j).past < count_of i (v.terminals j).past)
    (λ early events jq ip e many.
    served_law s (λ i. took s i (es ++ Turn now ∷ before)) early events j i q p now is (λ i. (good_taken s (es ++ Turn now ∷ before) a i).texts) aw lj li jq ip e
    (subst (λ (n : ℕ). other_places s ≤ n) (sym (turns_more events now)) many)) jq ip e (subst (λ (n : ℕ). other_places s ≤ n) (calls_more es now) enough)

pub nearer_soon : (s : Setup) (before es : List Call) (j i q p now : ℕ) → IsSetup s → AreAllowed s (es ++ Turn now ∷ before) → s.aware j ≡ true → j < s.legs → i < s.legs
    → let w = after_calls s before in
    let v = after_calls s (es ++ Turn now ∷ before) in
    w.seats.place j ≡ Some q → w.seats.place i ≡ Some p → is_due s j (next_media s.step w.media now) (w.terminals j) i ≡ true
    → (count_of i (w.terminals j).past < count_of i (v.terminals j).past) ⊎ (suc (turns_made es) + rank s (v.terminals j).past q p ≤ rank s (w.terminals j).past q p)
nearer_soon s before es j i q p now is a aw lj li =
    with_moments s es before now a
    (λ w v k. w.seats.place j ≡ Some q → w.seats.place i ≡ Some p → is_due s j (next_media s.step w.media now) (w.terminals j) i ≡ true
    → (count_of i (w.terminals j).past < count_of i (v.terminals j).past) ⊎ (suc k + rank s (v.terminals j).past q p ≤ rank s (w.terminals j).past q p))
    (λ early events. nearer_law s (λ i. took s i (es ++ Turn now ∷ before)) early events j i q p now is (λ i. (good_taken s (es ++ Turn now ∷ before) a i).texts) aw lj li)
