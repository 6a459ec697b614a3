-- What each call of the mixer changes of what it stands for.
use Rattle.std.proofs.Common.{◌≡◌, ℕ, ◌<◌, Bool, true, false, cond, Option, Some, None, List, [], ◌∷◌, ◌++◌, length, refl, ap, subst, sym, ◌∙◌, arith}
use Rattle.std.specs.Prelude.{◌↔◌, ◌&&◌, is_some, slice_index_or}
use Rattle.std.proofs.lemmas.Option.{slice_get_within}
use Rattle.std.proofs.lemmas.Bool.{true≢false}
use Rattle.stream_spec.specs.Ready.{Chunk}
use Rattle.mixer_spec.specs.Setups.{Setup}
use Rattle.mixer_spec.specs.Rounds.{set_at}
use Rattle.mixer_spec.specs.Table.{Call, Admit, Hush, Leave, Offer, Table, Terminal, is_given, has_room, give, given, free_place, come_to, admitted, hushed, freed, may_leave, after_calls}
use Rattle.mixer_spec.specs.Calls.{turns_made}
use Rattle.mixer_spec.proofs.Seats.{none_of}
use Rattle.mixer_places.specs.Lanes.{Waiting}
use Rattle.mixer_places.specs.Words.{listening, NoneWaits}
use Rattle.mixer_places.specs.SlotStanding as slots
use Rattle.mixer_places.proofs.Sources.{stands_same}
use Rattle.mixer_places.specs.States as seats
use Rattle.mixer_places.specs.SeatStanding as seatings
use Rattle.terminal_scheduler.specs.declared.schedulers.TerminalScheduler.{TerminalScheduler}
use Rattle.terminal_scheduler.specs.Schedulers as schedulers
use Rattle.mixer.specs.Allowed.{AreAllowed}
use Rattle.mixer.specs.States.{State}
use Rattle.mixer.specs.Waking.{IsWoken, AreWoken}
use Rattle.mixer.specs.Standing.{AreSchedulers, Keeps, MixerStandsFor}
use Rattle.mixer.proofs.Allowing.{seated}
use Rattle.mixer.proofs.Waiting.{none_before}

-- the parts stand for another table
kept_by : (s : Setup) (m : State) (new : Table) (seating : seats.State) (waiting : List Waiting) (all : List TerminalScheduler) → length m.schedulers ≡ s.legs → ((i : ℕ) → i < s.legs → slice_index_or m.names i [] ≡ s.name i)
    → seatings.SeatingStandsFor s seating new.seats → slots.SlotsStandFor s waiting new → length all ≡ length m.schedulers → AreSchedulers s all new.terminals → Keeps s (record m { seating = seating; slots = waiting; schedulers = all }) new
kept_by s m new seating waiting all legs names a b count each = record {
  legs = count ∙ legs;
  seats = a;
  waits = b;
  schedulers = each;
  names = names;
}

-- one call more, which is no turn
called : (s : Setup) (m : State) (calls : List Call) (call : Call) (seating : seats.State) (waiting : List Waiting) (all : List TerminalScheduler) → MixerStandsFor s m calls → AreAllowed s (call ∷ calls)
    → Keeps s (record m { seating = seating; slots = waiting; schedulers = all }) (after_calls s (call ∷ calls)) → (after_calls s (call ∷ calls)).media ≡ (after_calls s calls).media → turns_made (call ∷ calls) ≡ turns_made calls
    → MixerStandsFor s (record m { seating = seating; slots = waiting; schedulers = all }) (call ∷ calls)
called s m calls call seating waiting all h a k e f = record {
  setup = h.setup;
  near = h.near;
  step = h.step;
  allowed = a;
  keeps = k;
  media = h.media ∙ sym e;
  turns = h.turns ∙ sym f;
}

-- a call that changes no part of the mixer
unchanged : (s : Setup) (m : State) (calls : List Call) (call : Call) → MixerStandsFor s m calls → AreAllowed s (call ∷ calls) → after_calls s (call ∷ calls) ≡ after_calls s calls → turns_made (call ∷ calls) ≡ turns_made calls
    → MixerStandsFor s m (call ∷ calls)
unchanged s m calls call h a e f =
    called s m calls call m.seating m.slots m.schedulers h a (subst (λ (t : Table). Keeps s m t) (sym e) h.keeps) (ap (λ (t : Table). t.media) e) f

-- ---- a leg comes
some_of : (o : Option ℕ) → true ≡ is_some o → (p : ℕ) × (o ≡ Some p)
some_of None e = absurd (true≢false e)
some_of (Some p) e = (p, refl)

none_is : (o : Option ℕ) → false ≡ is_some o → o ≡ None
none_is None e = refl
none_is (Some p) e = absurd (true≢false (sym e))

pub nobody_there : (s : Setup) (m : State) (calls : List Call) (i : ℕ) (l : Bool) → MixerStandsFor s m calls → AreAllowed s (Admit i l ∷ calls) → (after_calls s calls).seats.place i ≡ None
nobody_there s m calls i l h a = none_of s (after_calls s calls).seats i (seated s calls h.allowed) a.0.fresh

pub none_waits : (s : Setup) (m : State) (calls : List Call) (i : ℕ) (l : Bool) → MixerStandsFor s m calls → AreAllowed s (Admit i l ∷ calls) → NoneWaits s i (after_calls s calls)
none_waits s m calls i l h a = none_before s calls i h.allowed a.0.fresh

pub stands_come : (s : Setup) (m : State) (calls : List Call) (i : ℕ) (l : Bool) (seating : seats.State) (waiting : List Waiting) → MixerStandsFor s m calls → AreAllowed s (Admit i l ∷ calls)
    → true ≡ is_some (free_place s (after_calls s calls).seats) → seatings.SeatingStandsFor s seating (admitted s i l (after_calls s calls)).seats → slots.SlotsStandFor s waiting (listening i l (after_calls s calls))
    → MixerStandsFor s (record m { seating = seating; slots = waiting }) (Admit i l ∷ calls)
stands_come s m calls i l seating waiting h a free x y =
    let table = after_calls s calls in
    let p = some_of (free_place s table.seats) free in
    let is : admitted s i l table ≡ come_to i l table (Some p.0) = ap (come_to i l table) p.1 in
    called s m calls (Admit i l) seating waiting m.schedulers h a
    (subst (λ (t : Table). Keeps s (record m { seating = seating; slots = waiting }) t) (sym is)
    (kept_by s m (come_to i l table (Some p.0)) seating waiting m.schedulers h.keeps.legs h.keeps.names (subst (λ (t : Table). seatings.SeatingStandsFor s seating t.seats) is x)
    (stands_same s waiting (listening i l table) (come_to i l table (Some p.0)) y (λ k. refl) (λ k. refl) (λ k n. refl)) refl h.keeps.schedulers))
    (ap (λ (t : Table). t.media) is) refl

pub stands_full : (s : Setup) (m : State) (calls : List Call) (i : ℕ) (l : Bool) (seating : seats.State) → MixerStandsFor s m calls → AreAllowed s (Admit i l ∷ calls)
    → false ≡ is_some (free_place s (after_calls s calls).seats) → seatings.SeatingStandsFor s seating (admitted s i l (after_calls s calls)).seats → MixerStandsFor s (record m { seating = seating }) (Admit i l ∷ calls)
stands_full s m calls i l seating h a free x =
    let table = after_calls s calls in
    let is : admitted s i l table ≡ table = ap (come_to i l table) (none_is (free_place s table.seats) free) in
    called s m calls (Admit i l) seating m.slots m.schedulers h a
    (subst (λ (t : Table). Keeps s (record m { seating = seating }) t) (sym is)
    (kept_by s m table seating m.slots m.schedulers h.keeps.legs h.keeps.names (subst (λ (t : Table). seatings.SeatingStandsFor s seating t.seats) is x) h.keeps.waits refl h.keeps.schedulers))
    (ap (λ (t : Table). t.media) is) refl

-- ---- a leg listens no more, or leaves
pub stands_hushed : (s : Setup) (m : State) (calls : List Call) (i : ℕ) (seating : seats.State) (waiting : List Waiting) → MixerStandsFor s m calls → AreAllowed s (Hush i ∷ calls)
    → seatings.SeatingStandsFor s seating (hushed i (after_calls s calls)).seats → slots.SlotsStandFor s waiting (listening i false (after_calls s calls)) → MixerStandsFor s (record m { seating = seating; slots = waiting }) (Hush i ∷ calls)
stands_hushed s m calls i seating waiting h a x y =
    called s m calls (Hush i) seating waiting m.schedulers h a (kept_by s m (hushed i (after_calls s calls)) seating waiting m.schedulers h.keeps.legs h.keeps.names x y refl h.keeps.schedulers) refl refl

pub stands_left : (s : Setup) (m : State) (calls : List Call) (i : ℕ) (seating : seats.State) → MixerStandsFor s m calls → AreAllowed s (Leave i ∷ calls)
    → true ≡ may_leave s i (after_calls s calls) → seatings.SeatingStandsFor s seating (freed i (after_calls s calls)).seats → MixerStandsFor s (record m { seating = seating }) (Leave i ∷ calls)
stands_left s m calls i seating h a may x =
    let table = after_calls s calls in
    let is : after_calls s (Leave i ∷ calls) ≡ freed i table = ap (λ b. cond {A = Table} b (freed i table) table) (sym may) in
    called s m calls (Leave i) seating m.slots m.schedulers h a
    (subst (λ (t : Table). Keeps s (record m { seating = seating }) t) (sym is)
    (kept_by s m (freed i table) seating m.slots m.schedulers h.keeps.legs h.keeps.names x (stands_same s m.slots table (freed i table) h.keeps.waits (λ k. refl) (λ k. refl) (λ k n. refl)) refl h.keeps.schedulers))
    (ap (λ (t : Table). t.media) is) refl

pub stands_stays : (s : Setup) (m : State) (calls : List Call) (i : ℕ) → MixerStandsFor s m calls → AreAllowed s (Leave i ∷ calls) → false ≡ may_leave s i (after_calls s calls) → MixerStandsFor s m (Leave i ∷ calls)
stands_stays s m calls i h a may =
    let table = after_calls s calls in
    unchanged s m calls (Leave i) h a (ap (λ b. cond {A = Table} b (freed i table) table) (sym may)) refl

-- ---- a chunk is offered
pub has_room_where : (a b : Bool) (P : Type 0) → a ≡ true → (P ↔ (b ≡ true)) → P ↔ ((a && b) ≡ true)
has_room_where true b P e r = r
has_room_where false b P e r = absurd (true≢false (sym e))

pub no_room : (a b : Bool) → a ≡ false → (a && b) ≡ false
no_room true b e = absurd (true≢false e)
no_room false b e = refl

given_stands : (s : Setup) (j : ℕ) (p o : TerminalScheduler) (b : Bool) (i : ℕ) (c : Chunk) (d : Terminal) → IsWoken p o → schedulers.SchedulerStandsFor s j p d → schedulers.SchedulerStandsFor s j o (cond b (give i c d) d)
given_stands s j p o true i c d w h = w.stands s j d (set_at d.waits i (d.waits i ++ c ∷ [])) h
given_stands s j p o false i c d w h = w.stands s j d d.waits h

woken_stand : (s : Setup) (old new : List TerminalScheduler) (table : Table) (i : ℕ) (c : Chunk) → AreWoken old new → AreSchedulers s old table.terminals → AreSchedulers s new (given i c table).terminals
woken_stand s old new table i c w h j o g =
    let f = w.first j o (omega (arith, slice_get_within new j o g, w.count)) g in
    given_stands s j f.0 o (is_given table.seats i j) i c (table.terminals j) f.2 (h j f.0 f.1)

pub stands_refused : (s : Setup) (m : State) (calls : List Call) (c : Chunk) → MixerStandsFor s m calls → AreAllowed s (Offer c ∷ calls) → has_room s c.source c (after_calls s calls) ≡ false → MixerStandsFor s m (Offer c ∷ calls)
stands_refused s m calls c h a room =
    let table = after_calls s calls in
    unchanged s m calls (Offer c) h a (ap (λ b. cond {A = Table} b (given c.source c table) table) room) refl

pub stands_taken : (s : Setup) (m : State) (calls : List Call) (c : Chunk) (waiting : List Waiting) (all : List TerminalScheduler) → MixerStandsFor s m calls → AreAllowed s (Offer c ∷ calls)
    → has_room s c.source c (after_calls s calls) ≡ true → slots.SlotsStandFor s waiting (given c.source c (after_calls s calls)) → AreWoken m.schedulers all → MixerStandsFor s (record m { slots = waiting; schedulers = all }) (Offer c ∷ calls)
stands_taken s m calls c waiting all h a room x w =
    let table = after_calls s calls in
    let is : after_calls s (Offer c ∷ calls) ≡ given c.source c table = ap (λ b. cond {A = Table} b (given c.source c table) table) room in
    called s m calls (Offer c) m.seating waiting all h a
    (subst (λ (t : Table). Keeps s (record m { slots = waiting; schedulers = all }) t) (sym is)
    (kept_by s m (given c.source c table) m.seating waiting all h.keeps.legs h.keeps.names h.keeps.seats x w.count (woken_stand s m.schedulers all table c.source c w h.keeps.schedulers)))
    (ap (λ (t : Table). t.media) is) refl
