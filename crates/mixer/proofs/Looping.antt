-- All terminals have their turn, one after the other.
use Rattle.std.proofs.Common.{◌≡◌, ℕ, suc, ◌+◌, ◌<◌, ◌≤◌, inl, inr, Some, List, [], length, map, set, refl, ap, subst, sym, ◌∙◌, arith}
use Rattle.std.specs.Prelude.{slice_get, slice_index_or}
use Rattle.std.proofs.lemmas.Bool.{cases_eq}
use Rattle.std.proofs.lemmas.List.{length-map, length-set}
use Rattle.std.proofs.lemmas.List.Elements.{All-nil}
use Rattle.std.proofs.lemmas.Option.{slice_get_within}
use Rattle.mixer_spec.specs.Setups.{Setup}
use Rattle.mixer_spec.specs.Table.{Table, turn_at, turned_to}
use Rattle.mixer_places.specs.Lanes.{Waiting}
use Rattle.mixer_places.specs.SlotStanding as slots
use Rattle.mixer_places.proofs.Lists.{get_set_same}
use Rattle.mixer_places.specs.States as seating
use Rattle.terminal_scheduler.specs.declared.schedulers.TerminalScheduler.{TerminalScheduler}
use Rattle.terminal_scheduler.specs.Schedulers as schedulers
use Rattle.terminal_scheduler.specs.Schedulers.{SameLeg, next_turn, sources_of}
use Rattle.mixer.specs.declared.batches.Post.{Post}
use Rattle.mixer.specs.Posts.{ArePosts, IsPost, KeepsPosts}
use Rattle.mixer.specs.Turns.{IsSchedulerOf, AreSchedulersOf, turned_below, posts_between, Reaches, LegMayTurn, LegTurned, AllTurned, OfMixers}
use Rattle.mixer.proofs.Counting.{count_there, counts_kept}
use Rattle.mixer.proofs.Turning.{slots_turned}
use Rattle.mixer_spec.proofs.Lists.{get_set_other}
use Rattle.stream_spec.proofs.Plain.{get_read}

-- the first n terminals had their turn
pub record TurnedSoFar (s : Setup) (table : Table) (now t n : ℕ) (all : List TerminalScheduler) (waiting : List Waiting) (batch : List Post) : Type 0 where
  pub schedulers : (j : ℕ) (o : TerminalScheduler) → j < n → slice_get all j ≡ Some o → schedulers.SchedulerStandsFor s j o (turn_at s table.seats j now t (table.terminals j))
  pub reaches : Reaches s table now t n waiting batch

-- of these parts, which were `first` and `slots` before
pub record Turning (t n : ℕ) (first : List TerminalScheduler) (places : seating.State) (before : List Waiting) (called : List (List ℕ)) (all : List TerminalScheduler) (waiting : List Waiting) (batch : List Post) : Type 0 where
  pub legs : length all ≡ length first
  pub slots : length waiting ≡ length first
  pub had : (j : ℕ) (o : TerminalScheduler) → j < n → slice_get all j ≡ Some o → IsSchedulerOf (length first) (t + 1) j o
  pub rest : (j : ℕ) (o : TerminalScheduler) → n ≤ j → slice_get all j ≡ Some o → slice_get first j ≡ Some o
  pub sources : map sources_of all ≡ map sources_of first
  pub posts : ArePosts (map sources_of first) batch
  pub turned : OfMixers first places before called t (λ s table now. TurnedSoFar s table now t n all waiting batch)

pub none_yet : (t : ℕ) (first : List TerminalScheduler) (places : seating.State) (before : List Waiting) (called : List (List ℕ)) (batch : List Post) → length before ≡ length first → batch ≡ [] → Turning t 0 first places before called first before batch
none_yet t first places before called batch l e = record {
  legs = refl;
  slots = l;
  had = λ j o b g. absurd (omega arith);
  rest = λ j o b g. g;
  sources = refl;
  posts = subst (ArePosts (map sources_of first)) (sym e) (All-nil (IsPost (map sources_of first)));
  turned = λ s table now may. record { schedulers = λ j o b g. absurd (omega arith); reaches = record { waits = may.waits; posts = e } };
}

-- what is known of the next terminal_scheduler
next_of : (t n : ℕ) (first : List TerminalScheduler) (places : seating.State) (before : List Waiting) (called : List (List ℕ)) (all : List TerminalScheduler) (waiting : List Waiting) (batch : List Post) (o : TerminalScheduler) → AreSchedulersOf (length first) t first
    → Turning t n first places before called all waiting batch → slice_get all n ≡ Some o → IsSchedulerOf (length first) t n o
next_of t n first places before called all waiting batch o are h g = are n o (h.rest n o (omega arith) g)

-- the one that was read is there, and what is known of it
pub scheduler_read : (all : List TerminalScheduler) (n : ℕ) (o : TerminalScheduler) → n < length all → o ≡ slice_index_or all n o → slice_get all n ≡ Some (slice_index_or all n o)
scheduler_read all n o l e = get_read all n o l e ∙ ap Some e

pub next_read : (t n : ℕ) (first : List TerminalScheduler) (places : seating.State) (before : List Waiting) (called : List (List ℕ)) (all : List TerminalScheduler) (waiting : List Waiting) (batch : List Post) (o : TerminalScheduler) → AreSchedulersOf (length first) t first
    → Turning t n first places before called all waiting batch → n < length first → o ≡ slice_index_or all n o → IsSchedulerOf (length first) t n (slice_index_or all n o)
next_read t n first places before called all waiting batch o are h l e = next_of t n first places before called all waiting batch (slice_index_or all n o) are h (scheduler_read all n o (omega (arith, l, h.legs)) e)

pub one_more : (t n : ℕ) (first : List TerminalScheduler) (places : seating.State) (before : List Waiting) (called : List (List ℕ)) (all : List TerminalScheduler) (waiting after : List Waiting) (batch more : List Post) (o new : TerminalScheduler) → AreSchedulersOf (length first) t first
    → Turning t n first places before called all waiting batch → slice_get all n ≡ Some o → SameLeg o new → next_turn new ≤ t + 1 → length after ≡ length waiting
    → ((s : Setup) (table : Table) (now : ℕ) → LegMayTurn s table now t n o places called → Reaches s table now t n waiting batch → LegTurned s table now t n new after more)
    → KeepsPosts n (sources_of o) batch more → Turning t (suc n) first places before called (set all n new) after more
one_more t n first places before called all waiting after batch more o new are h g same next l call keeps = record {
  legs = length-set all n new ∙ h.legs;
  slots = l ∙ h.slots;
  had = λ j x b k. elim (cases_eq j n) [
    | inl e ↦
        let is : new ≡ x = new_is j x e k in
        let old = next_of t n first places before called all waiting batch o are h g in
        subst (IsSchedulerOf (length first) (t + 1) j) is (record { own = same.0 ∙ (old.own ∙ sym e); all = same.1 ∙ old.all; next = next })
    | inr ne ↦ h.had j x (omega (arith, b, ne)) (other j x ne k)
  ];
  sources = counts_kept all n o new g same.2 ∙ h.sources;
  posts = keeps (map sources_of first) (omega (arith, slice_get_within all n o g, h.legs, length-map first sources_of)) (count_there first n o (h.rest n o (omega arith) g)) h.posts;
  rest = λ j x b k. h.rest j x (omega (arith, b)) (other j x (λ e. omega (arith, e, b)) k);
  turned = λ s table now may.
      let r = h.turned s table now may in
      let leg = call s table now (record { all = may.may; stands = may.schedulers n o (h.rest n o (omega arith) g); seats = may.seats; names = may.names }) r.reaches in
      record {
        schedulers = λ j x b k. elim (cases_eq j n) [
          | inl e ↦ subst (λ (i : ℕ). schedulers.SchedulerStandsFor s i x (turn_at s table.seats i now t (table.terminals i))) (sym e)
              (subst (λ (y : TerminalScheduler). schedulers.SchedulerStandsFor s n y (turn_at s table.seats n now t (table.terminals n))) (new_is j x e k) leg.stands)
          | inr ne ↦ r.schedulers j x (omega (arith, b, ne)) (other j x ne k)
        ];
        reaches = leg.reaches;
      };
}
  where
    new_is : (j : ℕ) (x : TerminalScheduler) → j ≡ n → slice_get (set all n new) j ≡ Some x → new ≡ x
    new_is j x e k = sym (get_set_same all n new x (ap (slice_get (set all n new)) (sym e) ∙ k))

    other : (j : ℕ) (x : TerminalScheduler) → (j ≡ n → ⊥) → slice_get (set all n new) j ≡ Some x → slice_get all j ≡ Some x
    other j x ne k = sym (get_set_other all n j new ne) ∙ k

pub all_had : (t n : ℕ) (first : List TerminalScheduler) (places : seating.State) (before : List Waiting) (called : List (List ℕ)) (all : List TerminalScheduler) (waiting : List Waiting) (batch : List Post)
    → Turning t n first places before called all waiting batch → length first ≤ n → AreSchedulersOf (length first) (t + 1) all
all_had t n first places before called all waiting batch h l j o g = let b = slice_get_within all j o g in h.had j o (omega (arith, b, l, h.legs)) g

pub whole_turn : (t n : ℕ) (first : List TerminalScheduler) (places : seating.State) (before : List Waiting) (called : List (List ℕ)) (all : List TerminalScheduler) (waiting : List Waiting) (batch : List Post)
    → Turning t n first places before called all waiting batch → n ≡ length first → OfMixers first places before called t (λ s table now. AllTurned s table now t all waiting batch)
whole_turn t n first places before called all waiting batch h e s table now may =
    let r = h.turned s table now may in
    let end : n ≡ s.legs = e ∙ may.legs in
    record {
      schedulers = λ j o g. let b = slice_get_within all j o g in r.schedulers j o (omega (arith, b, e, h.legs)) g;
      waits = slots_turned s now t table waiting (may.may).held (subst (λ (k : ℕ). slots.SlotsStandFor s waiting (turned_below s now t table k)) end (r.reaches).waits);
      posts = subst (λ (k : ℕ). batch ≡ posts_between s table (turned_to s now t table) k) end (r.reaches).posts;
    }
