-- What coming and going does to who holds which place.
use Rattle.std.proofs.Common.{◌≡◌, ◌<◌, ◌≤◌, ℕ, Bool, true, false, true≢false, cond, not, Some, None, Option, List, [], ◌∷◌, refl, ap, sym, ◌∙◌}
use Rattle.std.specs.Prelude.{◌&&◌, is_some, nat_le, nat_lt}
use Rattle.std.proofs.lemmas.Bool.{lt-ltb, le-leb}
use Rattle.stream_spec.specs.Ready.{Chunk}
use Rattle.mixer_spec.specs.Setups.{Setup, is_before_end}
use Rattle.mixer_spec.specs.Table.{Table, come_to, admitted, hushed, freed, free_place, may_enter, entered, may_stop, stopped, may_leave, is_done, departed}
use Rattle.mixer_spec.specs.Core.{gone}
use Rattle.mixer_spec.proofs.Lists.{set_same, set_other}
use Rattle.mix_loop.specs.declared.ports.SeatState.{SeatState}
use Rattle.mix_loop.specs.declared.ports.SeatState.TheVariants.{Away, Listens, Hushed, Left}
use Rattle.mix_loop.specs.Ports.{SeatAt, SeatsKept, is_away, seat_with}
use Rattle.mix_loop.proofs.Lists.{set_still}
use Rattle.mixer_spec.proofs.Plain.{freed_same as freed_still}

-- ---- seats
pub listening_is : (seat : SeatState) (over : Bool) → elim seat [ Listens ↦ over | _ ↦ false ] ≡ true → (seat ≡ Listens) × (over ≡ true)
listening_is Away over e = absurd (true≢false (sym e))
listening_is Listens over e = (refl, e)
listening_is Hushed over e = absurd (true≢false (sym e))
listening_is Left over e = absurd (true≢false (sym e))

pub hushed_is : (seat : SeatState) (spent : Bool) → elim seat [ Hushed ↦ spent | _ ↦ false ] ≡ true → seat ≡ Hushed
hushed_is Away spent e = absurd (true≢false (sym e))
hushed_is Listens spent e = absurd (true≢false (sym e))
hushed_is Hushed spent e = refl
hushed_is Left spent e = absurd (true≢false (sym e))

pub away_is : (seat : SeatState) → is_away seat ≡ true → seat ≡ Away
away_is Away e = refl
away_is Listens e = absurd (true≢false (sym e))
away_is Hushed e = absurd (true≢false (sym e))
away_is Left e = absurd (true≢false (sym e))

-- ---- where nothing changes
pub hushed_still : (i : ℕ) (table : Table) → table.seats.listens i ≡ false → hushed i table ≡ table
hushed_still i table e = λ ι. record table { seats = record table.seats { listens = set_still table.seats.listens i false e ι } }

-- ---- a leg listens no more
module _ (s : Setup) (i t : ℕ) (table : Table) where
  pub stopped_over : SeatAt table.seats i Listens → is_before_end t (s.until i) ≡ false → stopped s i t table ≡ hushed i table
  stopped_over h e = ap (λ b. cond {A = Table} (b && not (is_before_end t (s.until i))) (hushed i table) table) h.1 ∙ ap (λ b. cond {A = Table} (not b) (hushed i table) table) e

  pub stopped_still : (seat : SeatState) → SeatAt table.seats i seat → elim seat [ Listens ↦ not (is_before_end t (s.until i)) | _ ↦ false ] ≡ false → stopped s i t table ≡ table
  stopped_still Away h e = ap (λ o. cond {A = Table} (is_some o && not (is_before_end t (s.until i))) (hushed i table) table) h.1
  stopped_still Listens h e = ap (λ b. cond {A = Table} (b && not (is_before_end t (s.until i))) (hushed i table) table) h.1 ∙ ap (λ b. cond {A = Table} b (hushed i table) table) e
  stopped_still Hushed h e = go (may_stop s i t table)
    where
      go : (b : Bool) → cond {A = Table} b (hushed i table) table ≡ table
      go true = hushed_still i table h.2
      go false = refl
  stopped_still Left h e = ap (λ o. cond {A = Table} (is_some o && not (is_before_end t (s.until i))) (hushed i table) table) h.1

  pub stopped_kept : SeatsKept i table.seats (stopped s i t table).seats
  stopped_kept = go (may_stop s i t table)
    where
      go : (b : Bool) → SeatsKept i table.seats (cond {A = Table} b (hushed i table) table).seats
      go true = record { place = λ j n. refl; came = λ j n. refl; listens = λ j n. set_other table.seats.listens i false j n }
      go false = record { place = λ j n. refl; came = λ j n. refl; listens = λ j n. refl }

pub hushed_seat : (i : ℕ) (table : Table) → SeatAt table.seats i Listens → SeatAt (hushed i table).seats i Hushed
hushed_seat i table h = (h.0, h.1, set_same table.seats.listens i false i refl)

-- ---- a leg leaves
module _ (s : Setup) (i : ℕ) (table : Table) where
  pub departed_still : (seat : SeatState) → SeatAt table.seats i seat → (seat ≡ Hushed → ⊥) → departed s i table ≡ table
  departed_still Away h e = go (may_leave s i table)
    where
      go : (b : Bool) → cond {A = Table} b (freed i table) table ≡ table
      go true = freed_still i table h.1
      go false = refl
  departed_still Listens h e = ap (λ b. cond {A = Table} (not b && is_done s i table) (freed i table) table) h.2
  departed_still Hushed h e = absurd (e refl)
  departed_still Left h e = go (may_leave s i table)
    where
      go : (b : Bool) → cond {A = Table} b (freed i table) table ≡ table
      go true = freed_still i table h.1
      go false = refl

  pub gone_still : (seat : SeatState) → SeatAt table.seats i seat → (seat ≡ Hushed → ⊥) → (xs : List Chunk) → gone s i xs table ≡ table
  gone_still seat h e [] = departed_still seat h e
  gone_still seat h e (c ∷ cs) = refl

  pub departed_kept : SeatsKept i table.seats (departed s i table).seats
  departed_kept = go (may_leave s i table)
    where
      go : (b : Bool) → SeatsKept i table.seats (cond {A = Table} b (freed i table) table).seats
      go true = record { place = λ j n. set_other table.seats.place i None j n; came = λ j n. refl; listens = λ j n. refl }
      go false = record { place = λ j n. refl; came = λ j n. refl; listens = λ j n. refl }

  pub departed_stays : may_leave s i table ≡ false → departed s i table ≡ table
  departed_stays e = ap (λ b. cond {A = Table} b (freed i table) table) e

  pub departed_leaves : may_leave s i table ≡ true → departed s i table ≡ freed i table
  departed_leaves e = ap (λ b. cond {A = Table} b (freed i table) table) e

pub freed_seat : (i : ℕ) (table : Table) → SeatAt table.seats i Hushed → SeatAt (freed i table).seats i Left
freed_seat i table h = (h.0, set_same table.seats.place i None i refl)

-- ---- a leg comes
module _ (s : Setup) (i t : ℕ) (table : Table) where
  abbrev entering : Bool → Table
  entering b = cond {A = Table} b (admitted s i (is_before_end t (s.until i)) table) table

  no_other : (b c : Bool) → (b && (not true && c)) ≡ false
  no_other true c = refl
  no_other false c = refl

  no_later : (b c : Bool) → (b && (c && false)) ≡ false
  no_later true true = refl
  no_later true false = refl
  no_later false c = refl

  came_still : table.seats.came i ≡ true → entered s i t table ≡ table
  came_still e = ap (λ b. entering (nat_lt i s.legs && (not b && nat_le (s.from i) t))) e ∙ ap entering (no_other (nat_lt i s.legs) (nat_le (s.from i) t))

  pub entered_still : (seat : SeatState) → SeatAt table.seats i seat → is_away seat ≡ false → entered s i t table ≡ table
  entered_still Away h e = absurd (true≢false e)
  entered_still Listens h e = came_still h.0
  entered_still Hushed h e = came_still h.0
  entered_still Left h e = came_still h.0

  pub entered_early : nat_le (s.from i) t ≡ false → entered s i t table ≡ table
  entered_early e = ap (λ b. entering (nat_lt i s.legs && (not (table.seats.came i) && b))) e ∙ ap entering (no_later (nat_lt i s.legs) (not (table.seats.came i)))

  pub entered_comes : SeatAt table.seats i Away → i < s.legs → s.from i ≤ t → entered s i t table ≡ admitted s i (is_before_end t (s.until i)) table
  entered_comes h low from =
      ap (λ b. entering (b && (not (table.seats.came i) && nat_le (s.from i) t))) (lt-ltb i s.legs low)
      ∙ (ap (λ b. entering (not b && nat_le (s.from i) t)) h.0 ∙ ap entering (le-leb (s.from i) t from))

  pub entered_kept : SeatsKept i table.seats (entered s i t table).seats
  entered_kept = go (may_enter s i t table)
    where
      by : (o : Option ℕ) → SeatsKept i table.seats (come_to i (is_before_end t (s.until i)) table o).seats
      by None = record { place = λ j n. refl; came = λ j n. refl; listens = λ j n. refl }
      by (Some p) = record {
        place = λ j n. set_other table.seats.place i (Some p) j n;
        came = λ j n. set_other table.seats.came i true j n;
        listens = λ j n. set_other table.seats.listens i (is_before_end t (s.until i)) j n;
      }

      go : (b : Bool) → SeatsKept i table.seats (entering b).seats
      go true = by (free_place s table.seats)
      go false = record { place = λ j n. refl; came = λ j n. refl; listens = λ j n. refl }

seat_of : (l : Bool) (i p : ℕ) (table : Table) → SeatAt (come_to i l table (Some p)).seats i (seat_with l)
seat_of true i p table = (set_same table.seats.came i true i refl, ap is_some (set_same table.seats.place i (Some p) i refl), set_same table.seats.listens i true i refl)
seat_of false i p table = (set_same table.seats.came i true i refl, ap is_some (set_same table.seats.place i (Some p) i refl), set_same table.seats.listens i false i refl)

pub admitted_seat : (s : Setup) (i : ℕ) (l : Bool) (table : Table) → is_some (free_place s table.seats) ≡ true → SeatAt (admitted s i l table).seats i (seat_with l)
admitted_seat s i l table e = go (free_place s table.seats) e
  where
    go : (o : Option ℕ) → is_some o ≡ true → SeatAt (come_to i l table o).seats i (seat_with l)
    go None q = absurd (true≢false (sym q))
    go (Some p) q = seat_of l i p table

pub admitted_still : (s : Setup) (i : ℕ) (l : Bool) (table : Table) → is_some (free_place s table.seats) ≡ false → admitted s i l table ≡ table
admitted_still s i l table e = go (free_place s table.seats) e
  where
    go : (o : Option ℕ) → is_some o ≡ false → come_to i l table o ≡ table
    go None q = refl
    go (Some p) q = absurd (true≢false q)
