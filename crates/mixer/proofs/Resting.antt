-- A turn at which no terminal changes.
use Rattle.std.proofs.Common.{◌≡◌, ℕ, zero, suc, ◌+◌, ◌<◌, Bool, true, false, inl, inr, List, [], ◌++◌, refl, ap, subst, sym, ◌∙◌, arith}
use Rattle.std.specs.Prelude.{is_some, map}
use Rattle.std.proofs.lemmas.Bool.{cases_lt}
use Rattle.mixer_spec.specs.Setups.{Setup}
use Rattle.mixer_spec.specs.Table.{TurnEntry, Terminal, Table, is_seated, turn_at, turned_to}
use Rattle.mixer_spec.proofs.Lists.{nil}
use Rattle.mixer_places.specs.Lanes.{Waiting}
use Rattle.mixer_places.proofs.Sources.{stands_same}
use Rattle.mixer_places.specs.declared.seats.Seat.{Seat}
use Rattle.mixer_places.specs.Places.{has_place, place_on}
use Rattle.mixer_places.specs.States as seating
use Rattle.terminal_scheduler.specs.declared.schedulers.TerminalScheduler.{TerminalScheduler}
use Rattle.terminal_scheduler.specs.Schedulers as schedulers
use Rattle.terminal_scheduler.specs.Turns.{new_entry}
use Rattle.mixer.specs.declared.batches.Post.{Post}
use Rattle.mixer.specs.Calm.{AreCalmBefore}
use Rattle.mixer.specs.Turns.{AreSchedulersOf, posts_between, post_of, AllMayTurn, AllTurned}
use Rattle.mixer.proofs.Few.{none_new}
use Rattle.mixer.proofs.Turning.{no_turn, not_seated}
use Rattle.stream_spec.proofs.Plain.{get_at}

module _ (s : Setup) (table : Table) (now t : ℕ) (all : List TerminalScheduler) (places : seating.State) (waiting : List Waiting) (called : List (List ℕ)) (may : AllMayTurn s table now t all places waiting called) (calm : ℕ) (early : t < calm) (are : AreCalmBefore calm places all) where
  -- who holds a place in the table holds one
  placed : (j : ℕ) → j < s.legs → is_seated table.seats j ≡ true → has_place places j ≡ true
  placed j low e =
      let x = get_at places.legs j (let a = may.seats.all in omega (arith, a, low)) in
      ap (λ o. is_some (place_on o)) x.1 ∙ (ap (λ (y : Seat). is_some y.place) (may.seats.seat j x.0 x.1) ∙ e)

  -- no terminal changes
  same : (j : ℕ) → turn_at s table.seats j now t (table.terminals j) ≡ table.terminals j
  same j = go (is_seated table.seats j) refl
    where
      held : is_seated table.seats j ≡ true → turn_at s table.seats j now t (table.terminals j) ≡ table.terminals j
      held e = elim (cases_lt j s.legs) [
        | inl low ↦
            let x = get_at all j (let a = may.legs in omega (arith, a, low)) in
            are j x.0 x.1 (placed j low e) s j (table.terminals j) (may.schedulers j x.0 x.1) table.seats now t early
        | inr high ↦ no_turn s table.seats j now t (table.terminals j) (not_seated s table.seats j may.may.held high)
      ]

      go : (b : Bool) → is_seated table.seats j ≡ b → turn_at s table.seats j now t (table.terminals j) ≡ table.terminals j
      go true e = held e
      go false e = no_turn s table.seats j now t (table.terminals j) e

  none_sent : (n : ℕ) → posts_between s table (turned_to s now t table) n ≡ []
  none_sent zero = refl
  none_sent (suc n) =
      let none : new_entry (table.terminals n).past (turn_at s table.seats n now t (table.terminals n)).past ≡ [] =
      ap (λ (d : Terminal). new_entry (table.terminals n).past d.past) (same n) ∙ none_new (table.terminals n).past in
      ap (λ (es : List TurnEntry). posts_between s table (turned_to s now t table) n ++ map (post_of s n) es) none ∙ (nil (posts_between s table (turned_to s now t table) n) ∙ none_sent n)

  pub calm_turned : (batch : List Post) → batch ≡ [] → AllTurned s table now t all waiting batch
  calm_turned batch e = record {
    schedulers = λ j o g. subst (λ (d : Terminal). schedulers.SchedulerStandsFor s j o d) (sym (same j)) (may.schedulers j o g);
    waits = stands_same s waiting table (turned_to s now t table) may.waits (λ i. refl) (λ j. refl) (λ j i. ap (λ (d : Terminal). d.waits i) (same j));
    posts = e ∙ sym (none_sent s.legs);
  }

-- before no media time
pub never_calm : (places : seating.State) (all : List TerminalScheduler) → AreCalmBefore 0 places all
never_calm places all j o g e s k d h seats now t l = absurd (omega (arith, l))

-- the next turn may come later
pub later : (n t : ℕ) (all : List TerminalScheduler) → AreSchedulersOf n t all → AreSchedulersOf n (t + 1) all
later n t all are j o g = let x = are j o g in record { own = x.own; all = x.all; next = let l = x.next in omega (arith, l) }
