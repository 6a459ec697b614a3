-- A turn of a terminal_scheduler that is aware or not.
use Rattle.std.proofs.Common.{◌≡◌, ◌<◌, ℕ, Bool, true, false, cond, Option, None, List, refl, ap, subst, sym, ◌∙◌}
use Rattle.mixer_spec.specs.Setups.{Setup, stream}
use Rattle.mixer_spec.specs.Table.{Seats, Terminal, Table, is_seated, serve, served, turn_at, turn_aware, turn_unaware}
use Rattle.mixer_places.specs.Lanes.{Waiting}
use Rattle.mixer_places.specs.SlotStanding as slots
use Rattle.mixer_places.specs.States.{State}
use Rattle.terminal_scheduler.specs.declared.schedulers.TerminalScheduler.TheVariants.{Aware, Unaware}
use Rattle.terminal_scheduler.specs.Turns.{Puts, SendsNext, new_entry, with_terminal}
use Rattle.terminal_scheduler.specs.AwareStates.{AwareState}
use Rattle.terminal_scheduler.specs.AwareStanding as aware
use Rattle.terminal_scheduler.specs.AwareTurns as aware_turns
use Rattle.terminal_scheduler.specs.AwareTurns.{AtTable, AtTerminal, IsIn}
use Rattle.terminal_scheduler.specs.AwareRounds.{AtSeats, IsSeatedIn, SendsNextAt, turned}
use Rattle.terminal_scheduler.specs.UnawareStates.{UnawareState}
use Rattle.terminal_scheduler.specs.UnawareStanding as unaware
use Rattle.terminal_scheduler.specs.Schedulers.{IsTurn, IsTurned, turned_here}

-- ---- an aware one, whose clauses speak of its own leg
own_stands : (s : Setup) (j : ℕ) (table : Table) (o : AwareState) → aware.AwareStandsFor s j o (table.terminals j) → aware.AwareStandsFor s o.own o (table.terminals o.own)
own_stands s j table o h = subst (λ (k : ℕ). aware.AwareStandsFor s k o (table.terminals k)) (sym h.own) h

pub of_table : (s : Setup) (j : ℕ) (table : Table) (o : AwareState) (waiting : List Waiting) (P : Setup → ℕ → Terminal → Type 0) → aware.AwareStandsFor s j o (table.terminals j)
    → slots.SlotsStandFor s waiting table → AtTable o waiting (λ s table d. P s o.own d) → P s j (table.terminals j)
of_table s j table o waiting P h w f =
    subst (λ (k : ℕ). P s k (table.terminals k)) h.own (f s table (record { scheduler = own_stands s j table o h; slots_stand = w }))

aware_at : (s : Setup) (j : ℕ) (table : Table) (o : AwareState) (places : State) (waiting : List Waiting) (called : List (List ℕ)) (now t : ℕ) → IsTurn s j table (Aware o) places waiting called now t
    → turned_here s j now t table ≡ turned s table j now t
aware_at s j table o places waiting called now t h = rw (h.seated, h.stands.0) refl

pub aware_turned : (s : Setup) (j : ℕ) (table : Table) (o new : AwareState) (places : State) (waiting after : List Waiting) (called : List (List ℕ)) (now t : ℕ) (source : Option ℕ) (text : List ℕ)
    → IsTurn s j table (Aware o) places waiting called now t
    → AtSeats o places waiting (λ s table d. (now : ℕ) → SendsNextAt s table o.own now t → aware_turns.IsTurned s table o.own (turned s table o.own now t) t new after source text)
    → IsTurned s j table now t (Aware new) after source text
aware_turned s j table o new places waiting after called now t source text h f =
    let own = h.stands.1.own in
    let at = aware_at s j table o places waiting called now t h in
    let next : SendsNextAt s table j now t = subst (λ (x : Terminal). SendsNext (stream s j) (table.terminals j).past x.past) at h.next in
    let there : IsSeatedIn s o places waiting table = record { there = record { scheduler = own_stands s j table o h.stands.1; slots_stand = h.slots_stand }; seats_stand = h.seats_stand } in
    let r = f s table there now (subst (λ (k : ℕ). SendsNextAt s table k now t) (sym own) next) in
    let q = subst (λ (x : Terminal). aware_turns.IsTurned s table j x t new after source text) (sym at)
    (subst (λ (k : ℕ). aware_turns.IsTurned s table k (turned s table k now t) t new after source text) own r) in
    record { stands = (h.stands.0, q.scheduler); slots_stand = q.slots_stand; puts = subst (λ (b : Bool). Puts b t (new_entry (table.terminals j).past (turned_here s j now t table).past) source text) (sym h.stands.0) q.puts }

-- nothing changes where nobody is served
pub aware_calm : (s : Setup) (j : ℕ) (d : Terminal) (o : AwareState) (calm : ℕ) → s.aware j ≡ true → aware.AwareStandsFor s j o d → aware_turns.IsCalmBefore calm o → (seats : Seats) (now t : ℕ) → t < calm → turn_at s seats j now t d ≡ d
aware_calm s j d o calm is h r seats now t l = go (is_seated seats j)
  where
    none : served s seats j t d ≡ None
    none = sym (subst (λ (k : ℕ). None ≡ served s seats k t d) h.own (r s d (subst (λ (k : ℕ). aware.AwareStandsFor s k o d) (sym h.own) h) seats t l))

    go : (b : Bool) → cond b (cond (s.aware j) (turn_aware s seats j now t d) (turn_unaware s j now t d)) d ≡ d
    go true = ap (λ b. cond b (turn_aware s seats j now t d) (turn_unaware s j now t d)) is ∙ ap (serve s seats j now t d) none
    go false = refl

-- ---- another one
unaware_at : (s : Setup) (j : ℕ) (table : Table) (o : UnawareState) (places : State) (waiting : List Waiting) (called : List (List ℕ)) (now t : ℕ) → IsTurn s j table (Unaware o) places waiting called now t
    → turned_here s j now t table ≡ unaware.turned_here s j now t table
unaware_at s j table o places waiting called now t h = rw (h.seated, h.stands.0) refl

pub unaware_turn : (s : Setup) (j : ℕ) (table : Table) (o : UnawareState) (places : State) (waiting : List Waiting) (called : List (List ℕ)) (now t : ℕ) → IsTurn s j table (Unaware o) places waiting called now t
    → unaware.IsTurn s j table o waiting called now t
unaware_turn s j table o places waiting called now t h = record {
  stands = h.stands.1;
  slots_stand = h.slots_stand;
  texts = h.texts;
  names = h.names;
  next = subst (λ (x : Terminal). SendsNext (stream s j) (table.terminals j).past x.past) (unaware_at s j table o places waiting called now t h) h.next;
}

pub unaware_turned : (s : Setup) (j : ℕ) (table : Table) (o new : UnawareState) (places : State) (waiting after : List Waiting) (called : List (List ℕ)) (now t : ℕ) (source : Option ℕ) (text : List ℕ)
    → IsTurn s j table (Unaware o) places waiting called now t
    → unaware.UnawareStandsFor s j new (unaware.turned_here s j now t table)
    → slots.SlotsStandFor s after (with_terminal j (unaware.turned_here s j now t table) table)
    → Puts false t (unaware.entry_here s j now t table) source text
    → IsTurned s j table now t (Unaware new) after source text
unaware_turned s j table o new places waiting after called now t source text h a b c =
    let at = sym (unaware_at s j table o places waiting called now t h) in
    record {
      stands = (h.stands.0, subst (λ (x : Terminal). unaware.UnawareStandsFor s j new x) at a);
      slots_stand = subst (λ (x : Terminal). slots.SlotsStandFor s after (with_terminal j x table)) at b;
      puts = subst (λ (b : Bool). Puts b t (new_entry (table.terminals j).past (turned_here s j now t table).past) source text) (sym h.stands.0)
          (subst (λ (x : Terminal). Puts false t (new_entry (table.terminals j).past x.past) source text) at c);
    }
