-- Steps of a mixing, whatever the legs still give.
use Rattle.std.proofs.Common.{◌≡◌, ◌<◌, ℕ, Bool, true, false, true≢false, cond, not, inl, inr, Option, Some, None, List, ◌++◌, length, set, refl, ap, sym, subst, ◌∙◌, arith, length-set as set_length}
use Rattle.std.specs.Prelude.{◌&&◌, is_some, slice_get}
use Rattle.std.proofs.lemmas.Bool.{cases_eq}
use Rattle.stream_spec.specs.Ready.{Chunk, chunk_of}
use Rattle.mixer_spec.specs.Rounds.{set_at}
use Rattle.mixer_spec.specs.Setups.{Setup}
use Rattle.mixer_spec.specs.Table.{Table, Seats, Call, departed, stopped, entered}
use Rattle.mixer_spec.specs.Legs.{held}
use Rattle.mixer_spec.specs.Core.{gone}
use Rattle.mixer_spec.specs.Plain.{Desk, left_over, table_after, offers, goes}
use Rattle.mixer_spec.proofs.Lists.{set_same, set_other}
use Rattle.mix_loop.specs.declared.ports.SeatState.{SeatState}
use Rattle.mix_loop.specs.declared.ports.SeatState.TheVariants.{Away, Listens, Hushed, Left}
use Rattle.mix_loop.specs.declared.ports.Port.{Port}
use Rattle.mix_loop.specs.Items.{Gave, is_open}
use Rattle.mix_loop.specs.Mixers.{At}
use Rattle.mix_loop.specs.Ports.{MayCome, SeatAt, SeatsKept, Gathered, hand_of, hand_with, is_away, is_to_leave, SameSeat, PortHolds}
use Rattle.mix_loop.specs.Turns.{Known, all_of, desk_of, MayComeAll, Reaches, Settled, KnownAt, AllKnown, IsNow, BecomesBy, comes}
use Rattle.mix_loop.proofs.Lists.{get_set_other}
use Rattle.mix_loop.proofs.Places.{gone_still}
use Rattle.file_spec.specs.declared.conference_lines.Stay.{Stay}
use Rattle.wire_spec.proofs.Plain.{funext}
use Rattle.stream_spec.proofs.Plain.{get_set_same}

-- ---- one step behind the other
pub reaches_none : {F : Type 0} (kn : ℕ → Known F) (table : Table) → Reaches (λ d. d) kn table kn table
reaches_none kn table = record { goes = λ rest may. (rest, may, refl, refl) }

pub reaches_more : {F : Type 0} (f g : Desk → Desk) (kn kn1 kn2 : ℕ → Known F) (table table1 table2 : Table) → Reaches f kn table kn1 table1 → Reaches g kn1 table1 kn2 table2 → Reaches (λ d. g (f d)) kn table kn2 table2
reaches_more f g kn kn1 kn2 table table1 table2 a b = record {
  goes = λ rest may.
      let y = b.goes rest may in
      let x = a.goes y.0 y.1 in
      (x.0, x.1, x.2 ∙ y.2, ap g x.3 ∙ y.3);
}

-- ---- one leg goes
-- whatever it has left to offer, it leaves where nothing is left
pub gone_is : {I F : Type 0} (s : Setup) (i : ℕ) (table : Table) (p : Port I F) → SeatAt table.seats i p.seat → (hand : Option Chunk) → hand_of p ≡ hand → (rest : List Chunk) → MayCome p.ended rest
    → (is_away p.seat ≡ false → hand ≡ None → is_open p.ended ≡ false) → gone s i (held hand ++ rest) table ≡ cond {A = Table} (is_to_leave p) (departed s i table) table
gone_is s i table p seat hand is rest may settled = go p.seat p.full (is_open p.ended) refl refl refl seat
  where
    go : (x : SeatState) (f o : Bool) → p.seat ≡ x → p.full ≡ f → is_open p.ended ≡ o → SeatAt table.seats i x
        → gone s i (held hand ++ rest) table ≡ cond {A = Table} (elim x [ Hushed ↦ not f && not o | _ ↦ false ]) (departed s i table) table
    go Away f o ex ef eo at = gone_still s i table Away at (λ e. cc e) (held hand ++ rest)
    go Listens f o ex ef eo at = gone_still s i table Listens at (λ e. cc e) (held hand ++ rest)
    go Left f o ex ef eo at = gone_still s i table Left at (λ e. cc e) (held hand ++ rest)
    go Hushed true o ex ef eo at = ap (λ (x : Option Chunk). gone s i (held x ++ rest) table) (sym is ∙ ap (λ b. hand_with b (chunk_of p.hand)) ef)
    go Hushed false o ex ef eo at = spent o eo (sym is ∙ ap (λ b. hand_with b (chunk_of p.hand)) ef) (ap is_away ex)
      where
        spent : (o : Bool) → is_open p.ended ≡ o → hand ≡ None → is_away p.seat ≡ false → gone s i (held hand ++ rest) table ≡ cond {A = Table} (not o) (departed s i table) table
        spent true eo n a = absurd (true≢false (sym eo ∙ settled a n))
        spent false eo n a = ap (λ (v : Option Chunk × List Chunk). gone s i (held v.0 ++ v.1) table) (λ ι. (n ι, may eo ι))

-- only its seat is another
abbrev pub seated : {F : Type 0} → Known F → SeatState → Known F
seated x seat = record { gave = x.gave; hand = x.hand; seat = seat }

module _ {F : Type 0} (kn : ℕ → Known F) (i : ℕ) (seat : SeatState) where
  abbrev with_seat : ℕ → Known F
  with_seat = set_at kn i (seated (kn i) seat)

  same_gave : (j : ℕ) → (with_seat j).gave ≡ (kn j).gave
  same_gave j = elim (cases_eq j i) [
    | inl same ↦ ap (λ (k : Known F). k.gave) (set_same kn i (seated (kn i) seat) j same) ∙ ap (λ m. (kn m).gave) (sym same)
    | inr other ↦ ap (λ (k : Known F). k.gave) (set_other kn i (seated (kn i) seat) j other)
  ]

  same_hand : (j : ℕ) → (with_seat j).hand ≡ (kn j).hand
  same_hand j = elim (cases_eq j i) [
    | inl same ↦ ap (λ (k : Known F). k.hand) (set_same kn i (seated (kn i) seat) j same) ∙ ap (λ m. (kn m).hand) (sym same)
    | inr other ↦ ap (λ (k : Known F). k.hand) (set_other kn i (seated (kn i) seat) j other)
  ]

  may_same : (rest : ℕ → List Chunk) → MayComeAll with_seat rest → MayComeAll kn rest
  may_same rest may j = subst (λ (g : Gave F). MayCome g.ended (rest j)) (same_gave j) (may j)

  all_same : (rest : ℕ → List Chunk) → all_of kn rest ≡ all_of with_seat rest
  all_same rest = funext (all_of kn rest) (all_of with_seat rest) (λ j. ap (λ (g : Gave F). g.chunks ++ rest j) (sym (same_gave j)))

  left_same : (rest : ℕ → List Chunk) (table : Table) → (desk_of kn rest table).left ≡ (desk_of with_seat rest table).left
  left_same rest table = funext (desk_of kn rest table).left (desk_of with_seat rest table).left (λ j. ap (λ h. held h ++ rest j) (sym (same_hand j)))

  pub settled_same : Settled kn → is_away seat ≡ is_away (kn i).seat → Settled with_seat
  settled_same h away j a n = elim (cases_eq j i) [
    | inl same ↦
        let was : is_away (kn j).seat ≡ false = ap (λ m. is_away (kn m).seat) same ∙ (sym away ∙ (ap (λ (k : Known F). is_away k.seat) (sym (set_same kn i (seated (kn i) seat) j same)) ∙ a)) in
        ap (λ (g : Gave F). is_open g.ended) (same_gave j) ∙ h j was (sym (same_hand j) ∙ n)
    | inr other ↦
        let was : is_away (kn j).seat ≡ false = ap (λ (k : Known F). is_away k.seat) (sym (set_other kn i (seated (kn i) seat) j other)) ∙ a in
        ap (λ (g : Gave F). is_open g.ended) (same_gave j) ∙ h j was (sym (same_hand j) ∙ n)
  ]

  pub goes_one : {I : Type 0} (s : Setup) (t : ℕ) (table : Table) (p : Port I F) → Settled kn → hand_of p ≡ (kn i).hand → p.ended ≡ (kn i).gave.ended → is_away p.seat ≡ is_away (kn i).seat → SeatAt (stopped s i t table).seats i p.seat
      → Reaches (goes s t i) kn table with_seat (cond {A = Table} (is_to_leave p) (departed s i (stopped s i t table)) (stopped s i t table))
  goes_one s t table p h in_hand ended away at_seat = record {
    goes = λ rest may.
        let u = stopped s i t table in
        let after = cond {A = Table} (is_to_leave p) (departed s i u) u in
        let before = may_same rest may in
        let here : MayCome p.ended (rest i) = subst (λ e. MayCome e (rest i)) (sym ended) (before i) in
        let still : is_away p.seat ≡ false → (kn i).hand ≡ None → is_open p.ended ≡ false = λ a n. ap is_open ended ∙ h i (sym away ∙ a) n in
        let gone_to : gone s i (held (kn i).hand ++ rest i) u ≡ after = gone_is s i u p at_seat (kn i).hand in_hand (rest i) here still in
        (rest, before, all_same rest, λ ι. record { left = left_same rest table ι; table = gone_to ι });
  }

  pub comes_one : (s : Setup) (t : ℕ) (table : Table) → Reaches (comes s t i) kn table with_seat (entered s i t table)
  comes_one s t table = record {
    goes = λ rest may. (rest, may_same rest may, all_same rest, λ ι. record { left = left_same rest table ι; table = entered s i t table });
  }

-- ---- one leg gave more
-- what may come behind what all legs gave then might have come before
abbrev pub back : (ℕ → List Chunk) → ℕ → List Chunk → ℕ → List Chunk
back rest' i more = set_at rest' i more

module _ {F : Type 0} (kn : ℕ → Known F) (i : ℕ) (y : Known F) (rest' : ℕ → List Chunk) where
  pub back_may : MayComeAll (set_at kn i y) rest' → (more : List Chunk) → MayCome (kn i).gave.ended more → MayComeAll kn (back rest' i more)
  back_may may' more may j = elim (cases_eq j i) [
    | inl same ↦ subst (λ (v : ℕ × List Chunk). MayCome (kn v.0).gave.ended v.1) (λ ι. (sym same ι, sym (set_same rest' i more j same) ι)) may
    | inr other ↦ subst (λ (v : Known F × List Chunk). MayCome v.0.gave.ended v.1) (λ ι. (set_other kn i y j other ι, sym (set_other rest' i more j other) ι)) (may' j)
  ]

  pub back_all : (more : List Chunk) → (kn i).gave.chunks ++ more ≡ y.gave.chunks ++ rest' i → all_of kn (back rest' i more) ≡ all_of (set_at kn i y) rest'
  back_all more is = funext (all_of kn (back rest' i more)) (all_of (set_at kn i y) rest') (λ j. elim (cases_eq j i) [
    | inl same ↦ subst (λ (m : ℕ). all_of kn (back rest' i more) m ≡ all_of (set_at kn i y) rest' m) (sym same)
        (ap (λ r. (kn i).gave.chunks ++ r) (set_same rest' i more i refl) ∙ (is ∙ ap (λ (k : Known F). k.gave.chunks ++ rest' i) (sym (set_same kn i y i refl))))
    | inr other ↦ ap (λ (v : Known F × List Chunk). v.0.gave.chunks ++ v.1) (λ ι. (sym (set_other kn i y j other) ι, set_other rest' i more j other ι))
  ])

-- ---- one leg offers
module _ {F : Type 0} (s : Setup) (t i : ℕ) (kn : ℕ → Known F) (y : Known F) (table table' : Table) (rest' : ℕ → List Chunk) (more : List Chunk)
    (lefts : left_over s i t table (held (kn i).hand ++ more) ≡ held y.hand ++ rest' i) (tables : table_after s i t table (held (kn i).hand ++ more) ≡ table') where
  abbrev d : Desk
  d = desk_of kn (back rest' i more) table

  left_i : d.left i ≡ held (kn i).hand ++ more
  left_i = ap (λ r. held (kn i).hand ++ r) (set_same rest' i more i refl)

  left : (offers s t i d).left ≡ (desk_of (set_at kn i y) rest' table').left
  left = funext (offers s t i d).left (desk_of (set_at kn i y) rest' table').left (λ j. elim (cases_eq j i) [
    | inl same ↦ subst (λ (m : ℕ). (offers s t i d).left m ≡ (desk_of (set_at kn i y) rest' table').left m) (sym same)
        (set_same d.left i (left_over s i t table (d.left i)) i refl ∙ (ap (left_over s i t table) left_i ∙ (lefts ∙ ap (λ (k : Known F). held k.hand ++ rest' i) (sym (set_same kn i y i refl)))))
    | inr other ↦ set_other d.left i (left_over s i t table (d.left i)) j other
        ∙ ap (λ (v : Known F × List Chunk). held v.0.hand ++ v.1) (λ ι. (sym (set_other kn i y j other) ι, set_other rest' i more j other ι))
  ])

  offers_desk : offers s t i d ≡ desk_of (set_at kn i y) rest' table'
  offers_desk = λ ι. record { left = left ι; table = (ap (table_after s i t table) left_i ∙ tables) ι }

pub offers_one : {F : Type 0} (s : Setup) (t i : ℕ) (kn : ℕ → Known F) (y : Known F) (table table' : Table) → Gathered s i t (kn i).gave (kn i).hand table y.gave y.hand table' → Reaches (offers s t i) kn table (set_at kn i y) table'
offers_one {F} s t i kn y table table' g = record {
  goes = λ rest' may'.
      let r = g.goes (rest' i) (subst (λ (k : Known F). MayCome k.gave.ended (rest' i)) (set_same kn i y i refl) (may' i)) in
      (back rest' i r.0, back_may kn i y rest' may' r.0 r.1, back_all kn i y rest' r.0 r.2, offers_desk s t i kn y table table' rest' r.0 r.3 r.4);
}

-- ---- what is known of one leg is another
seat_kept : (seat : SeatState) (i j : ℕ) (old new : Seats) → SeatsKept i old new → (j ≡ i → ⊥) → SeatAt old j seat → SeatAt new j seat
seat_kept Away i j old new k n h = (k.came j n ∙ h.0, k.place j n ∙ h.1)
seat_kept Listens i j old new k n h = (k.came j n ∙ h.0, ap is_some (k.place j n) ∙ h.1, k.listens j n ∙ h.2)
seat_kept Hushed i j old new k n h = (k.came j n ∙ h.0, ap is_some (k.place j n) ∙ h.1, k.listens j n ∙ h.2)
seat_kept Left i j old new k n h = (k.came j n ∙ h.0, k.place j n ∙ h.1)

pub no_others : (i : ℕ) (old new : Seats) → new ≡ old → SeatsKept i old new
no_others i old new e = record { place = λ j n. ap (λ (x : Seats). x.place j) e; came = λ j n. ap (λ (x : Seats). x.came j) e; listens = λ j n. ap (λ (x : Seats). x.listens j) e }

pub kept_more : (i : ℕ) (a b c : Seats) → SeatsKept i a b → SeatsKept i b c → SeatsKept i a c
kept_more i a b c x y = record { place = λ j n. y.place j n ∙ x.place j n; came = λ j n. y.came j n ∙ x.came j n; listens = λ j n. y.listens j n ∙ x.listens j n }

module _ {I F : Type 0} (stands : I → I → Gave F → Type 0) (s : Setup) (firsts : List I) where
  -- a port whose leg and seat are as they were, with what it gave since
  pub known_on : (i : ℕ) (p r : Port I F) (x : Known F) (k : KnownAt stands s firsts i p x) (gave : Gave F) → SameSeat p r → PortHolds stands i k.first r gave → KnownAt stands s firsts i r (record { gave = gave; hand = hand_of r; seat = x.seat })
  known_on i p r x k gave same holds = record {
    first = k.first;
    of = k.of;
    holds = holds;
    hand = refl;
    seat = same.seat ∙ k.seat;
    stays = record { from = k.stays.from ∙ ap (λ (z : Stay). z.from) (sym same.stay); until = k.stays.until ∙ ap (λ (z : Stay). z.until) (sym same.stay) };
  }

  pub known_set : (ps : List (Port I F)) (kn : ℕ → Known F) (i : ℕ) (q : Port I F) (y : Known F) → AllKnown stands s firsts ps kn → i < length ps → KnownAt stands s firsts i q y → AllKnown stands s firsts (set ps i q) (set_at kn i y)
  known_set ps kn i q y known low k j r e = elim (cases_eq j i) [
    | inl same ↦
        let same_port : Some q ≡ Some r = sym (get_set_same ps i q low) ∙ (ap (slice_get (set ps i q)) (sym same) ∙ e) in
        let is : q ≡ r = cc same_port in
        subst (λ (v : ℕ × Port I F × Known F). KnownAt stands s firsts v.0 v.1 v.2) (λ ι. (sym same ι, is ι, sym (set_same kn i y j same) ι)) k
    | inr other ↦ subst (λ (k : Known F). KnownAt stands s firsts j r k) (sym (set_other kn i y j other)) (known j r (sym (get_set_other ps i q j other) ∙ e))
  ]

  module _ {M : Type 0} (mixes : M → Setup → List Call → Type 0) where
    pub now_more : (kn : ℕ → Known F) (table table' : Table) (ps : List (Port I F)) (m m' : M) (i : ℕ) (q : Port I F) (y : Known F) → IsNow stands mixes s firsts kn table ps m → i < length ps
        → KnownAt stands s firsts i q y → SeatsKept i table.seats table'.seats → SeatAt table'.seats i y.seat → At mixes m' s table' → IsNow stands mixes s firsts (set_at kn i y) table' (set ps i q) m'
    now_more kn table table' ps m m' i q y n low k kept seat mixed = record {
      known = known_set ps kn i q y n.known low k;
      seats = λ j less. elim (cases_eq j i) [
        | inl same ↦ subst (λ (v : ℕ × Known F). SeatAt table'.seats v.0 v.1.seat) (λ ι. (sym same ι, sym (set_same kn i y j same) ι)) seat
        | inr other ↦ subst (λ (k : Known F). SeatAt table'.seats j k.seat) (sym (set_other kn i y j other)) (seat_kept (kn j).seat i j table.seats table'.seats kept other (n.seats j less))
      ];
      mixed = mixed;
      legs = n.legs ∙ sym (set_length ps i q);
      above = λ j less. set_other kn i y j (λ e. absurd (let l = n.legs in omega (arith, e, l))) ∙ n.above j less;
    }

    abbrev pub becomes_none : (kn : ℕ → Known F) (table : Table) (ps : List (Port I F)) (m : M) → IsNow stands mixes s firsts kn table ps m → BecomesBy stands mixes s firsts (λ d. d) kn table ps m
    becomes_none kn table ps m n = record { kn' = kn; table' = table; now = n; reaches = reaches_none kn table }

    -- one more leg: it is known as y now, and the table is another
    abbrev pub becomes_more : (f g : Desk → Desk) (kn : ℕ → Known F) (table : Table) (ps : List (Port I F)) (m m' : M) (i : ℕ) (q : Port I F) (b : BecomesBy stands mixes s firsts f kn table ps m) (y : Known F) (table' : Table) → i < length ps
        → KnownAt stands s firsts i q y → SeatsKept i b.table'.seats table'.seats → SeatAt table'.seats i y.seat → At mixes m' s table' → Reaches g b.kn' b.table' (set_at b.kn' i y) table'
        → BecomesBy stands mixes s firsts (λ d. g (f d)) kn table (set ps i q) m'
    becomes_more f g kn table ps m m' i q b y table' low k kept seat mixed r = record {
      kn' = set_at b.kn' i y;
      table' = table';
      now = now_more b.kn' b.table' table' ps m m' i q y b.now low k kept seat mixed;
      reaches = reaches_more f g kn b.kn' (set_at b.kn' i y) table b.table' table' b.reaches r;
    }

    abbrev pub becomes_then : (f g : Desk → Desk) (kn : ℕ → Known F) (table : Table) (ps qs : List (Port I F)) (m m' : M) (b : BecomesBy stands mixes s firsts f kn table ps m) → BecomesBy stands mixes s firsts g b.kn' b.table' qs m' → BecomesBy stands mixes s firsts (λ d. g (f d)) kn table qs m'
    becomes_then f g kn table ps qs m m' b c = record { kn' = c.kn'; table' = c.table'; now = c.now; reaches = reaches_more f g kn b.kn' c.kn' table b.table' c.table' b.reaches c.reaches }
