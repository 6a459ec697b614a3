-- What is known of one leg at the mixer. Whatever it still gives, its chunks so far are where they belong.
use Rattle.std.specs.Prelude.{◌≡◌, ℕ, Bool, true, false, not, ◌&&◌, is_some, Option, None, Some, List, [], ◌++◌, map, filter, slice_get, if◌then◌else◌}
use Rattle.file_spec.specs.declared.conference_lines.LegLine.{LegLine}
use Rattle.file_spec.specs.declared.conference_lines.Stay.{Stay}
use Rattle.file_spec.specs.Stays.{stays_at}
use Rattle.stream_spec.specs.Ready.{Chunk, chunk_of}
use Rattle.mixer_spec.specs.Setups.{Setup, is_before_end}
use Rattle.mixer_spec.specs.Table.{Table, Seats, Call}
use Rattle.mixer_spec.specs.Legs.{held}
use Rattle.mixer_spec.specs.Plain.{left_over, table_after}
use Rattle.mix_loop.specs.declared.items.Item.{Item}
use Rattle.mix_loop.specs.declared.items.TextsEnd.{TextsEnd}
use Rattle.mix_loop.specs.declared.items.TextsEnd.TheVariants.{Open}
use Rattle.mix_loop.specs.declared.ports.SeatState.{SeatState}
use Rattle.mix_loop.specs.declared.ports.SeatState.TheVariants.{Away, Listens, Hushed, Left}
use Rattle.mix_loop.specs.declared.ports.Port.{Port}
use Rattle.mix_loop.specs.Items.{Gave, IsOf, is_chunk, is_open}
use Rattle.mix_loop.specs.Mixers.{At}

-- ---- seats
abbrev pub is_away : SeatState → Bool
is_away Away = true
is_away _ = false

-- the seat of a leg that came
abbrev pub seat_with : Bool → SeatState
seat_with listens = if listens then Listens else Hushed

-- who holds which place has this of the leg i
abbrev pub SeatAt : Seats → ℕ → SeatState → Type 0
SeatAt seats i Away = (seats.came i ≡ false) × (seats.place i ≡ None)
SeatAt seats i Listens = (seats.came i ≡ true) × (is_some (seats.place i) ≡ true) × (seats.listens i ≡ true)
SeatAt seats i Hushed = (seats.came i ≡ true) × (is_some (seats.place i) ≡ true) × (seats.listens i ≡ false)
SeatAt seats i Left = (seats.came i ≡ true) × (seats.place i ≡ None)

-- the same of each leg but i
pub record SeatsKept (i : ℕ) (old new : Seats) : Type 0 where
  pub place : (j : ℕ) → (j ≡ i → ⊥) → new.place j ≡ old.place j
  pub came : (j : ℕ) → (j ≡ i → ⊥) → new.came j ≡ old.came j
  pub listens : (j : ℕ) → (j ≡ i → ⊥) → new.listens j ≡ old.listens j

-- ---- what counts
-- the chunk, as one of the leg j
abbrev pub of_leg : ℕ → Chunk → Chunk
of_leg j c = record c { source = j }

-- it was handed out beside this answer, and is ready within the stay
abbrev pub counts : {F : Type 0} → Item F → Chunk → Stay → Bool
counts x c stay = is_chunk x && stays_at c.ready stay

-- those of these chunks that are ready within the stay, as chunks of the leg j
abbrev pub mixed_of : ℕ → Stay → List Chunk → List Chunk
mixed_of j stay cs = map (of_leg j) (filter (λ c. stays_at c.ready stay) cs)

-- what counts of all that was given
abbrev pub counted : {F : Type 0} → ℕ → Stay → Gave F → Gave F
counted j stay gave = record { chunks = mixed_of j stay gave.chunks; ended = gave.ended }

-- the chunk, where the hand is full
abbrev pub hand_with : Bool → Chunk → Option Chunk
hand_with full c = if full then Some c else None

-- these chunks may still come: none, where the leg's chunks ended
abbrev pub MayCome : {F : Type 0} → TextsEnd F → List Chunk → Type 0
MayCome e rest = is_open e ≡ false → rest ≡ []

-- From what a leg gave, with this hand, to more of it: whatever comes behind the later might have come behind the earlier, in
-- the same order.
pub record Pulls {F : Type 0} (gave : Gave F) (hand : Option Chunk) (gave' : Gave F) (hand' : Option Chunk) : Type 0 where
  pub goes : (rest' : List Chunk) → MayCome gave'.ended rest'
      → (rest : List Chunk) × MayCome gave.ended rest × (gave.chunks ++ rest ≡ gave'.chunks ++ rest') × (held hand ++ rest ≡ held hand' ++ rest')

-- the same while the leg i offers at the moment t
pub record Gathers {F : Type 0} (s : Setup) (i t : ℕ) (gave : Gave F) (hand : Option Chunk) (table : Table) (gave' : Gave F) (hand' : Option Chunk) (table' : Table) : Type 0 where
  pub goes : (rest' : List Chunk) → MayCome gave'.ended rest'
      → (rest : List Chunk) × MayCome gave.ended rest × (gave.chunks ++ rest ≡ gave'.chunks ++ rest')
      × (left_over s i t table (held hand ++ rest) ≡ left_over s i t table' (held hand' ++ rest'))
      × (table_after s i t table (held hand ++ rest) ≡ table_after s i t table' (held hand' ++ rest'))
  pub seats : table'.seats ≡ table.seats

-- and when nothing more is taken
pub record Gathered {F : Type 0} (s : Setup) (i t : ℕ) (gave : Gave F) (hand : Option Chunk) (table : Table) (gave' : Gave F) (hand' : Option Chunk) (table' : Table) : Type 0 where
  pub goes : (rest' : List Chunk) → MayCome gave'.ended rest'
      → (rest : List Chunk) × MayCome gave.ended rest × (gave.chunks ++ rest ≡ gave'.chunks ++ rest')
      × (left_over s i t table (held hand ++ rest) ≡ held hand' ++ rest')
      × (table_after s i t table (held hand ++ rest) ≡ table')
  pub seats : table'.seats ≡ table.seats
  -- an empty hand: nothing comes any more
  pub settled : hand' ≡ None → is_open gave'.ended ≡ false

-- more was given
pub record Grows {F : Type 0} (gave gave' : Gave F) : Type 0 where
  pub goes : (rest' : List Chunk) → MayCome gave'.ended rest'
      → (rest : List Chunk) × MayCome gave.ended rest × (gave.chunks ++ rest ≡ gave'.chunks ++ rest')
  pub kept : is_open gave.ended ≡ false → gave' ≡ gave

module _ {I F : Type 0} where
  -- what the port has in hand
  abbrev pub hand_of : Port I F → Option Chunk
  hand_of p = hand_with p.full (chunk_of p.hand)

  -- nothing is left to offer, and nothing comes any more
  abbrev pub is_spent : Port I F → Bool
  is_spent p = not p.full && not (is_open p.ended)

  -- it holds a place and listens, and its stay is over at the moment t
  abbrev pub is_to_stop : ℕ → Port I F → Bool
  is_to_stop t p = elim p.seat [ Listens ↦ not (is_before_end t p.stay.until) | _ ↦ false ]

  -- it listens no more and has nothing left to offer
  abbrev pub is_to_leave : Port I F → Bool
  is_to_leave p = elim p.seat [ Hushed ↦ is_spent p | _ ↦ false ]

  -- nothing came to it yet
  pub record IsNew (inlet : I) (stay : Stay) (p : Port I F) : Type 0 where
    pub is : p.inlet ≡ inlet
    pub stays : p.stay ≡ stay
    pub empty : p.full ≡ false
    pub open_still : p.ended ≡ Open
    pub away : p.seat ≡ Away

  -- to each of these ports nothing came yet, and it stays as the line of its leg says
  abbrev pub EachNew : List LegLine → List (Port I F) → Type 0
  EachNew legs ps = (j : ℕ) (p : Port I F) → slice_get ps j ≡ Some p
      → (leg : LegLine) × (slice_get legs j ≡ Some leg) × IsNew p.inlet leg.stay p

  -- so it is, and they have these inlets, in order
  pub record AreNew (inlets : List I) (legs : List LegLine) (ps : List (Port I F)) : Type 0 where
    pub are : map (λ p. p.inlet) ps ≡ inlets
    pub each : EachNew legs ps

  -- it is as it was, but for its seat
  abbrev pub OnlySeat : Port I F → Port I F → Type 0
  OnlySeat old new = new ≡ record old { seat = new.seat }

  -- it is as it was, but that its hand may be empty now
  abbrev pub OnlyHand : Port I F → Port I F → Type 0
  OnlyHand old new = new ≡ record old { full = new.full }

  -- its stay and its seat are as they were
  pub record SameSeat (old new : Port I F) : Type 0 where
    pub stay : new.stay ≡ old.stay
    pub seat : new.seat ≡ old.seat

  -- it stays as the leg i
  pub record StaysAs (s : Setup) (i : ℕ) (p : Port I F) : Type 0 where
    pub from : s.from i ≡ p.stay.from
    pub until : s.until i ≡ p.stay.until

  -- its inlet may be asked, unless it ended; a chunk in hand is one of the leg j
  pub record PortIsSound (good : I → Type 0) (j : ℕ) (p : Port I F) : Type 0 where
    pub asked : is_open p.ended ≡ true → good p.inlet
    pub hand : p.full ≡ true → IsOf j (chunk_of p.hand)

  -- it is the port of the leg j, and this counts of what its inlet gave, from the inlet `first` on
  pub record PortHolds (stands : I → I → Gave F → Type 0) (j : ℕ) (first : I) (p : Port I F) (gave : Gave F) : Type 0 where
    pub whole : Gave F
    pub gives : stands first p.inlet whole
    pub is : gave ≡ counted j p.stay whole
    pub ended : p.ended ≡ gave.ended

  pub record PulledTo (stands : I → I → Gave F → Type 0) (j : ℕ) (first : I) (hand : Option Chunk) (gave : Gave F) (p : Port I F) : Type 0 where
    pub gave' : Gave F
    pub holds : PortHolds stands j first p gave'
    pub pulls : Pulls gave hand gave' (hand_of p)

  -- from what the first inlet gave to what this port's did: the mixer is at a table to which this leads
  pub record LeadsTo {M : Type 0} (stands : I → I → Gave F → Type 0) (mixes : M → Setup → List Call → Type 0) (s : Setup) (i : ℕ) (first : I) (leads : Gave F → Option Chunk → Table → Type 0) (p : Port I F) (m : M) : Type 0 where
    pub gave' : Gave F
    pub table' : Table
    pub holds : PortHolds stands i first p gave'
    pub mixed : At mixes m s table'
    pub gathers : leads gave' (hand_of p) table'

  abbrev pub GatheringTo : {M : Type 0} → (I → I → Gave F → Type 0) → (M → Setup → List Call → Type 0) → Setup
      → ℕ → ℕ → I → Gave F → Option Chunk → Table → Port I F → M → Type 0
  GatheringTo stands mixes s i t first gave hand table p m = LeadsTo stands mixes s i first (Gathers s i t gave hand table) p m

  abbrev pub GatheredTo : {M : Type 0} → (I → I → Gave F → Type 0) → (M → Setup → List Call → Type 0) → Setup
      → ℕ → ℕ → I → Gave F → Option Chunk → Table → Port I F → M → Type 0
  GatheredTo stands mixes s i t first gave hand table p m = LeadsTo stands mixes s i first (Gathered s i t gave hand table) p m

  pub record DrainedTo (stands : I → I → Gave F → Type 0) (j : ℕ) (first : I) (gave : Gave F) (p : Port I F) : Type 0 where
    pub gave' : Gave F
    pub holds : PortHolds stands j first p gave'
    pub grows : Grows gave gave'
