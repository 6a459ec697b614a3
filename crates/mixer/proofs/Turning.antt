-- One terminal more has its turn.
use Rattle.std.proofs.Common.{◌≡◌, ℕ, zero, suc, ◌<◌, ◌≤◌, false, cond, inl, inr, Option, Some, None, List, [], ◌∷◌, ◌++◌, length, refl, ap, subst, sym, ◌∙◌, arith}
use Rattle.std.specs.Prelude.{is_some, map}
use Rattle.std.proofs.lemmas.Bool.{cases_eq}
use Rattle.mixer_spec.specs.Setups.{Setup}
use Rattle.mixer_spec.specs.Table.{TurnEntry, Terminal, Seats, Taken, Table, is_seated, turn_aware, turn_unaware, turn_at, turned_to}
use Rattle.mixer_spec.proofs.Lists.{nil, set_same, set_other}
use Rattle.mixer_places.specs.Lanes.{Waiting}
use Rattle.mixer_places.specs.SlotStanding as slots
use Rattle.mixer_places.proofs.Sources.{stands_same}
use Rattle.terminal_scheduler.specs.Turns.{Puts, new_entry, number_of, with_terminal}
use Rattle.mixer.specs.declared.batches.Post.{Post}
use Rattle.mixer.specs.Turns.{AreHeld, turned_below, post_of, posts_between, batch_with, Reaches}
use Rattle.mixer.proofs.Few.{one_or_none, none_entered}

-- ---- the table while the turn goes on
pub seats_below : (s : Setup) (now t : ℕ) (table : Table) (n : ℕ) → (turned_below s now t table n).seats ≡ table.seats
seats_below s now t table zero = refl
seats_below s now t table (suc n) = seats_below s now t table n

pub taken_below : (s : Setup) (now t : ℕ) (table : Table) (n : ℕ) → (turned_below s now t table n).taken ≡ table.taken
taken_below s now t table zero = refl
taken_below s now t table (suc n) = taken_below s now t table n

-- those that had no turn yet are as they were
pub still_there : (s : Setup) (now t : ℕ) (table : Table) (n j : ℕ) → n ≤ j → (turned_below s now t table n).terminals j ≡ table.terminals j
still_there s now t table zero j l = refl
still_there s now t table (suc n) j l =
    set_other (turned_below s now t table n).terminals n (turn_at s table.seats n now t (table.terminals n)) j (λ e. omega (arith, l, e)) ∙ still_there s now t table n j (omega (arith, l))

-- the others had theirs
pub turned_there : (s : Setup) (now t : ℕ) (table : Table) (n j : ℕ) → j < n → (turned_below s now t table n).terminals j ≡ turn_at s table.seats j now t (table.terminals j)
turned_there s now t table zero j l = absurd (omega arith)
turned_there s now t table (suc n) j l = elim (cases_eq j n) [
  | inl e ↦ set_same (turned_below s now t table n).terminals n (turn_at s table.seats n now t (table.terminals n)) j e ∙ ap (λ x. turn_at s table.seats x now t (table.terminals x)) (sym e)
  | inr ne ↦ set_other (turned_below s now t table n).terminals n (turn_at s table.seats n now t (table.terminals n)) j ne ∙ turned_there s now t table n j (omega (arith, l, ne))
]

-- a terminal that holds no place has no turn
pub no_turn : (s : Setup) (seats : Seats) (j now t : ℕ) (d : Terminal) → is_seated seats j ≡ false → turn_at s seats j now t d ≡ d
no_turn s seats j now t d e = ap (λ b. cond b (cond (s.aware j) (turn_aware s seats j now t d) (turn_unaware s j now t d)) d) e

pub not_seated : (s : Setup) (seats : Seats) (j : ℕ) → AreHeld s seats → s.legs ≤ j → is_seated seats j ≡ false
not_seated s seats j h l = go (seats.place j) refl
  where
    go : (o : Option ℕ) → seats.place j ≡ o → is_some o ≡ false
    go None e = refl
    go (Some p) e = let b = (h.below j p e).1 in absurd (omega (arith, b, l))

-- at last all terminals had their turn
pub all_turned : (s : Setup) (now t : ℕ) (table : Table) (j : ℕ) → AreHeld s table.seats → (turned_below s now t table s.legs).terminals j ≡ (turned_to s now t table).terminals j
all_turned s now t table j h = elim (Rattle.std.proofs.lemmas.Bool.cases_lt j s.legs) [
  | inl l ↦ turned_there s now t table s.legs j l
  | inr l ↦ still_there s now t table s.legs j l ∙ sym (no_turn s table.seats j now t (table.terminals j) (not_seated s table.seats j h l))
]

pub slots_turned : (s : Setup) (now t : ℕ) (table : Table) (waiting : List Waiting) → AreHeld s table.seats → slots.SlotsStandFor s waiting (turned_below s now t table s.legs) → slots.SlotsStandFor s waiting (turned_to s now t table)
slots_turned s now t table waiting h stands =
    stands_same s waiting (turned_below s now t table s.legs) (turned_to s now t table) stands
    (λ i. ap (λ (f : ℕ → List Taken). f i) (sym (taken_below s now t table s.legs)))
    (λ j. ap (λ (x : Seats). x.listens j) (sym (seats_below s now t table s.legs)))
    (λ j i. ap (λ (d : Terminal). d.waits i) (sym (all_turned s now t table j h)))

-- ---- what is sent
put_is : (s : Setup) (n t : ℕ) (es : List TurnEntry) (source : Option ℕ) (text : List ℕ) (batch : List Post) → length es ≤ 1 → Puts (s.aware n) t es source text → batch_with source n t text batch ≡ batch ++ map (post_of s n) es
put_is s n t [] source text batch l h = ap (λ o. batch_with o n t text batch) h ∙ sym (nil batch)
put_is s n t (e ∷ []) source text batch l h =
    ap (λ o. batch_with o n t text batch) h.0
    ∙ (ap (λ x. batch_with (Some (number_of (s.aware n) e)) n t x batch) h.1 ∙ ap (λ m. batch_with (Some (number_of (s.aware n) e)) n m e.sent.text batch) (sym h.2))
put_is s n t (e ∷ f ∷ es) source text batch l h = absurd (omega arith)

-- ---- one terminal more
-- nothing is sent to a leg that holds no place
pub reach_past : (s : Setup) (table : Table) (now t n : ℕ) (waiting : List Waiting) (batch : List Post) → is_seated table.seats n ≡ false → Reaches s table now t n waiting batch → Reaches s table now t (suc n) waiting batch
reach_past s table now t n waiting batch e r = record {
  waits = stands_same s waiting (turned_below s now t table n) (turned_below s now t table (suc n)) r.waits (λ i. refl) (λ j. refl) (λ j i. ap (λ (d : Terminal). d.waits i) (same j));
  posts = r.posts ∙ (sym (nil (posts_between s table (turned_to s now t table) n))
      ∙ ap (λ es. posts_between s table (turned_to s now t table) n ++ map (post_of s n) es) (sym (none_entered s now t n table e)));
}
  where
    same : (j : ℕ) → (turned_below s now t table (suc n)).terminals j ≡ (turned_below s now t table n).terminals j
    same j = elim (cases_eq j n) [
      | inl q ↦ set_same (turned_below s now t table n).terminals n (turn_at s table.seats n now t (table.terminals n)) j q
          ∙ (no_turn s table.seats n now t (table.terminals n) e ∙ (sym (still_there s now t table n n (omega arith)) ∙ ap (turned_below s now t table n).terminals (sym q)))
      | inr ne ↦ set_other (turned_below s now t table n).terminals n (turn_at s table.seats n now t (table.terminals n)) j ne
    ]

-- the terminal of the leg n had its turn
pub reach_more : (s : Setup) (table : Table) (now t n : ℕ) (waiting after : List Waiting) (batch : List Post) (source : Option ℕ) (text : List ℕ) → Reaches s table now t n waiting batch
    → let v = turned_below s now t table n in
    let d = turn_at s v.seats n now t (v.terminals n) in
    slots.SlotsStandFor s after (with_terminal n d v) → Puts (s.aware n) t (new_entry (v.terminals n).past d.past) source text
    → Reaches s table now t (suc n) after (batch_with source n t text batch)
reach_more s table now t n waiting after batch source text r stands puts = record {
  waits = subst (λ (d : Terminal). slots.SlotsStandFor s after (with_terminal n d (turned_below s now t table n))) is stands;
  posts = ap (batch_with source n t text) r.posts
      ∙ put_is s n t (new_entry (table.terminals n).past ((turned_to s now t table).terminals n).past) source text (posts_between s table (turned_to s now t table) n)
      (one_or_none (table.terminals n).past ((turned_to s now t table).terminals n).past)
      (subst (λ (d : Terminal). Puts (s.aware n) t (new_entry (table.terminals n).past d.past) source text) is
      (subst (λ (c : Terminal). Puts (s.aware n) t (new_entry c.past (turn_at s (turned_below s now t table n).seats n now t ((turned_below s now t table n).terminals n)).past) source text) (still_there s now t table n n (omega arith)) puts));
}
  where
    is : turn_at s (turned_below s now t table n).seats n now t ((turned_below s now t table n).terminals n) ≡ turn_at s table.seats n now t (table.terminals n)
    is = ap (λ (x : Seats). turn_at s x n now t ((turned_below s now t table n).terminals n)) (seats_below s now t table n) ∙ ap (turn_at s table.seats n now t) (still_there s now t table n n (omega arith))
