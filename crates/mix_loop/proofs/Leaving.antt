-- What the mixer's calls do to its table, where legs come and go.
use Rattle.std.proofs.Common.{◌≡◌, ◌<◌, ◌≤◌, ℕ, Bool, true, false, cond, not, List, ◌∷◌, ap, sym, ◌∙◌, subst, arith}
use Rattle.std.specs.Prelude.{is_some, nat_le}
use Rattle.std.proofs.lemmas.Bool.{not-true}
use Rattle.mixer_spec.specs.Setups.{Setup, is_before_end}
use Rattle.mixer_spec.specs.Table.{Table, Call, Admit, Hush, Leave, is_seated, after_calls, free_place, admitted, hushed, freed, may_leave, departed, stopped, entered}
use Rattle.mixer_spec.specs.Calls.{IsAdmit, IsHush}
use Rattle.mix_loop.specs.declared.ports.SeatState.TheVariants.{Away, Listens, Hushed, Left}
use Rattle.mix_loop.specs.declared.ports.Port.{Port}
use Rattle.mix_loop.specs.Mixers.{At}
use Rattle.mix_loop.specs.Ports.{SeatAt, StaysAs, is_away, is_to_stop, is_to_leave, is_spent, seat_with}
use Rattle.mix_loop.proofs.Places.{listening_is, hushed_is, away_is, stopped_over, stopped_still, hushed_seat, departed_stays, departed_leaves, freed_seat, entered_still, entered_early, entered_comes, admitted_seat, admitted_still}

module _ {I F M : Type 0} (mixes : M → Setup → List Call → Type 0) (s : Setup) (i : ℕ) (table : Table) (p : Port I F) (old new : M) (at_old : At mixes old s table) where
  -- ---- its stay is over
  pub stops : (t : ℕ) → StaysAs s i p → SeatAt table.seats i p.seat → is_to_stop t p ≡ true
      → ((s : Setup) (calls : List Call) → mixes old s calls → IsHush s i calls → mixes new s (Hush i ∷ calls))
      → At mixes new s (stopped s i t table) × SeatAt (stopped s i t table).seats i Hushed
  stops t stays h e made =
      let parts = listening_is p.seat (not (is_before_end t p.stay.until)) e in
      let seat : SeatAt table.seats i Listens = subst (SeatAt table.seats i) parts.0 h in
      let over : is_before_end t (s.until i) ≡ false = ap (is_before_end t) stays.until ∙ not-true (is_before_end t p.stay.until) parts.1 in
      let is = stopped_over s i t table seat over in (
        record {
          calls = Hush i ∷ at_old.calls;
          made = made s at_old.calls at_old.made (record { at = t; seated = ap (λ (x : Table). is_seated x.seats i) at_old.leads ∙ seat.1; over = over });
          leads = ap (hushed i) at_old.leads ∙ sym is;
        },
        subst (λ (x : Table). SeatAt x.seats i Hushed) (sym is) (hushed_seat i table seat),
      )

  pub not_stops : (t : ℕ) → StaysAs s i p → SeatAt table.seats i p.seat → is_to_stop t p ≡ false → At mixes old s (stopped s i t table) × SeatAt (stopped s i t table).seats i p.seat
  not_stops t stays h e =
      let is = stopped_still s i t table p.seat h (ap (λ o. elim p.seat as (λ x. Bool) [ Listens ↦ not (is_before_end t o) | _ ↦ false ]) stays.until ∙ e) in
      (subst (At mixes old s) (sym is) at_old, subst (λ (x : Table). SeatAt x.seats i p.seat) (sym is) h)

  -- ---- it may leave
  abbrev pub left_table : Table
  left_table = cond {A = Table} (is_to_leave p) (departed s i table) table

  pub not_leaves : SeatAt table.seats i p.seat → is_to_leave p ≡ false → At mixes old s left_table × SeatAt left_table.seats i p.seat
  not_leaves h e =
      let is : left_table ≡ table = ap (λ b. cond {A = Table} b (departed s i table) table) e in
      (subst (At mixes old s) (sym is) at_old, subst (λ (x : Table). SeatAt x.seats i p.seat) (sym is) h)

  departs : (r : Bool) → ((s : Setup) (calls : List Call) → mixes old s calls → mixes new s (Leave i ∷ calls) × (r ≡ may_leave s i (after_calls s calls)))
      → At mixes new s (departed s i table) × (r ≡ may_leave s i table)
  departs r made =
      let m = made s at_old.calls at_old.made in
      (record { calls = Leave i ∷ at_old.calls; made = m.0; leads = ap (departed s i) at_old.leads }, m.1 ∙ ap (may_leave s i) at_old.leads)

  pub leaves : SeatAt table.seats i p.seat → is_to_leave p ≡ true → (r : Bool) → r ≡ true
      → ((s : Setup) (calls : List Call) → mixes old s calls → mixes new s (Leave i ∷ calls) × (r ≡ may_leave s i (after_calls s calls)))
      → At mixes new s left_table × SeatAt left_table.seats i Left
  leaves h e r q made =
      let seat : SeatAt table.seats i Hushed = subst (SeatAt table.seats i) (hushed_is p.seat (is_spent p) e) h in
      let d = departs r made in
      let is : left_table ≡ departed s i table = ap (λ b. cond {A = Table} b (departed s i table) table) e in
      let gone : departed s i table ≡ freed i table = departed_leaves s i table (sym d.1 ∙ q) in
      (subst (At mixes new s) (sym is) d.0, subst (λ (x : Table). SeatAt x.seats i Left) (sym gone ∙ sym is) (freed_seat i table seat))

  pub still_there : SeatAt table.seats i p.seat → is_to_leave p ≡ true → (r : Bool) → r ≡ false
      → ((s : Setup) (calls : List Call) → mixes old s calls → mixes new s (Leave i ∷ calls) × (r ≡ may_leave s i (after_calls s calls)))
      → At mixes new s left_table × SeatAt left_table.seats i p.seat
  still_there h e r q made =
      let d = departs r made in
      let is : left_table ≡ departed s i table = ap (λ b. cond {A = Table} b (departed s i table) table) e in
      let here : departed s i table ≡ table = departed_stays s i table (sym d.1 ∙ q) in
      (subst (At mixes new s) (sym is) d.0, subst (λ (x : Table). SeatAt x.seats i p.seat) (sym here ∙ sym is) h)

  -- ---- it comes
  pub not_away : (t : ℕ) → SeatAt table.seats i p.seat → is_away p.seat ≡ false → At mixes old s (entered s i t table) × SeatAt (entered s i t table).seats i p.seat
  not_away t h e =
      let is = entered_still s i t table p.seat h e in
      (subst (At mixes old s) (sym is) at_old, subst (λ (x : Table). SeatAt x.seats i p.seat) (sym is) h)

  pub too_early : (t : ℕ) → StaysAs s i p → SeatAt table.seats i p.seat → nat_le p.stay.from t ≡ false → At mixes old s (entered s i t table) × SeatAt (entered s i t table).seats i p.seat
  too_early t stays h e =
      let is = entered_early s i t table (ap (λ m. nat_le m t) stays.from ∙ e) in
      (subst (At mixes old s) (sym is) at_old, subst (λ (x : Table). SeatAt x.seats i p.seat) (sym is) h)

  module _ (t : ℕ) (stays : StaysAs s i p) (h : SeatAt table.seats i p.seat) (low : i < s.legs) (away : is_away p.seat ≡ true) (from : p.stay.from ≤ t) (l r : Bool) (is_l : l ≡ is_before_end t p.stay.until)
      (made : (s : Setup) (calls : List Call) → mixes old s calls → IsAdmit s i l calls → mixes new s (Admit i l ∷ calls) × (r ≡ is_some (free_place s (after_calls s calls).seats))) where
    seat : SeatAt table.seats i Away
    seat = subst (SeatAt table.seats i) (away_is p.seat away) h

    listens : l ≡ is_before_end t (s.until i)
    listens = is_l ∙ ap (is_before_end t) (sym stays.until)

    is : entered s i t table ≡ admitted s i l table
    is = entered_comes s i t table seat low (let e = stays.from in omega (arith, e, from)) ∙ ap (λ b. admitted s i b table) (sym listens)

    call : mixes new s (Admit i l ∷ at_old.calls) × (r ≡ is_some (free_place s (after_calls s at_old.calls).seats))
    call = made s at_old.calls at_old.made (record {
      at = t;
      leg = low;
      fresh = ap (λ (x : Table). x.seats.came i) at_old.leads ∙ seat.0;
      begun = (let e = stays.from in omega (arith, e, from));
      listens = listens;
    })

    now : At mixes new s (entered s i t table)
    now = record { calls = Admit i l ∷ at_old.calls; made = call.0; leads = ap (admitted s i l) at_old.leads ∙ sym is }

    free : r ≡ is_some (free_place s table.seats)
    free = call.1 ∙ ap (λ (x : Table). is_some (free_place s x.seats)) at_old.leads

    pub comes : r ≡ true → At mixes new s (entered s i t table) × SeatAt (entered s i t table).seats i (seat_with l)
    comes q = (now, subst (λ (x : Table). SeatAt x.seats i (seat_with l)) (sym is) (admitted_seat s i l table (sym free ∙ q)))

    pub no_place : r ≡ false → At mixes new s (entered s i t table) × SeatAt (entered s i t table).seats i p.seat
    no_place q = (now, subst (λ (x : Table). SeatAt x.seats i p.seat) (sym (is ∙ admitted_still s i l table (sym free ∙ q))) h)
