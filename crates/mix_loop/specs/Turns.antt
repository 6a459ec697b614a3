-- How far a mixing is: whatever the legs still give, plain mixing goes on from here.
use Rattle.std.specs.Prelude.{◌≡◌, ℕ, zero, suc, ◌-◌, ◌*◌, ◌<◌, ◌≤◌, Bool, true, false, Option, None, Some, List, [], ◌∷◌, ◌++◌, length, slice_get}
use Rattle.rtt_base.specs.declared.text_packets.PayloadTypes.{PayloadTypes}
use Rattle.stream_spec.specs.Ready.{Chunk}
use Rattle.mixer_spec.specs.Setups.{Setup}
use Rattle.mixer_spec.specs.Table.{Table, Call, empty, entered}
use Rattle.mixer_spec.specs.Legs.{held}
use Rattle.mixer_spec.specs.Plain.{Desk, is_over, plain_from, plain}
use Rattle.mixer_spec.specs.Table as table
use Rattle.mix_loop.specs.declared.items.TextsEnd.{TextsEnd}
use Rattle.mix_loop.specs.declared.items.TextsEnd.TheVariants.{Open, AtEnd, AtFault}
use Rattle.mix_loop.specs.declared.ports.SeatState.{SeatState}
use Rattle.mix_loop.specs.declared.ports.SeatState.TheVariants.{Away}
use Rattle.mix_loop.specs.declared.ports.Port.{Port}
use Rattle.mix_loop.specs.declared.turns.Before.{Before}
use Rattle.mix_loop.specs.declared.turns.Before.TheVariants as before
use Rattle.mix_loop.specs.declared.turns.TurnsEnd.{TurnsEnd}
use Rattle.mix_loop.specs.declared.turns.TurnsEnd.TheVariants as turned
use Rattle.mix_loop.specs.declared.turns.MixEnd.{MixEnd}
use Rattle.mix_loop.specs.declared.turns.MixEnd.TheVariants as mixing
use Rattle.mix_loop.specs.Items.{Gave, nothing, is_open, is_fault}
use Rattle.mix_loop.specs.Mixers.{At, Of}
use Rattle.mix_loop.specs.Ports.{MayCome, SeatAt, StaysAs, PortIsSound, PortHolds, counted, hand_of, is_away}

-- what a leg gave, what of it is in hand, and its seat
pub record Known (F : Type 0) : Type 0 where
  pub gave : Gave F
  pub hand : Option Chunk
  pub seat : SeatState

abbrev pub unknown : {F : Type 0} → Known F
unknown = record { gave = nothing; hand = None; seat = Away }

-- all chunks of each leg, where these are still to come
abbrev pub all_of : {F : Type 0} → (ℕ → Known F) → (ℕ → List Chunk) → ℕ → List Chunk
all_of kn rest j = (kn j).gave.chunks ++ rest j

-- what each leg has still to offer then
abbrev pub desk_of : {F : Type 0} → (ℕ → Known F) → (ℕ → List Chunk) → Table → Desk
desk_of kn rest table = record { left = λ j. held (kn j).hand ++ rest j; table = table }

abbrev pub MayComeAll : {F : Type 0} → (ℕ → Known F) → (ℕ → List Chunk) → Type 0
MayComeAll kn rest = (j : ℕ) → MayCome (kn j).gave.ended (rest j)

-- the chunks that each leg gave
abbrev pub chunks_at : {F : Type 0} → (ℕ → Known F) → ℕ → List Chunk
chunks_at kn j = (kn j).gave.chunks

-- From this on, f leads to that: whatever comes later might have come before, and f makes the one desk of the other.
pub record Reaches {F : Type 0} (f : Desk → Desk) (kn : ℕ → Known F) (table : Table) (kn' : ℕ → Known F) (table' : Table) : Type 0 where
  pub goes : (rest' : ℕ → List Chunk) → MayComeAll kn' rest'
      → (rest : ℕ → List Chunk) × MayComeAll kn rest × (all_of kn rest ≡ all_of kn' rest') × (f (desk_of kn rest table) ≡ desk_of kn' rest' table')

-- each leg that came has a chunk in hand, or gives no more
abbrev pub Settled : {F : Type 0} → (ℕ → Known F) → Type 0
Settled kn = (j : ℕ) → is_away (kn j).seat ≡ false → (kn j).hand ≡ None → is_open (kn j).gave.ended ≡ false

-- each of the first n legs, whether it came or not
abbrev pub SettledBelow : {F : Type 0} → ℕ → (ℕ → Known F) → Type 0
SettledBelow n kn = (j : ℕ) → j < n → (kn j).hand ≡ None → is_open (kn j).gave.ended ≡ false

-- the leg n comes, where it can
abbrev pub comes : Setup → ℕ → ℕ → Desk → Desk
comes s t n d = record { left = d.left; table = entered s n t d.table }

-- ---- plain mixing, cut behind what is done before a turn
abbrev pub next_from : Setup → ℕ → ℕ → ℕ → Desk → Option Table
next_from s tick zero k v = None
next_from s tick (suc n) k v = plain_from s tick n (suc k) (record { left = v.left; table = table.turned s (k * tick) v.table })

abbrev pub turn_from : Setup → ℕ → ℕ → ℕ → Desk → Option Table
turn_from s tick n k v = elim (is_over s v) as (λ b. Option Table) [
  | true ↦ Some v.table
  | false ↦ next_from s tick n k v
]

-- before the turn k, where at most `turns` are made
pub record IsBefore {F : Type 0} (s : Setup) (tick turns k : ℕ) (kn : ℕ → Known F) (table : Table) : Type 0 where
  pub goes : (rest : ℕ → List Chunk) → MayComeAll kn rest
      → plain s tick turns (all_of kn rest) ≡ plain_from s tick (turns - k) k (desk_of kn rest table)
  pub settled : Settled kn

-- plain mixing has this answer
pub record Answers {F : Type 0} (s : Setup) (tick turns : ℕ) (kn : ℕ → Known F) (answer : Option Table) : Type 0 where
  pub goes : (rest : ℕ → List Chunk) → MayComeAll kn rest → plain s tick turns (all_of kn rest) ≡ answer

-- some leg has a fault
abbrev pub HasFault : {F : Type 0} → (ℕ → Known F) → Type 0
HasFault kn = (j : ℕ) × (is_fault (kn j).gave.ended ≡ true)

-- whether it is over
abbrev pub IsOverAs : {F : Type 0} → Bool → Setup → (ℕ → Known F) → Table → Type 0
IsOverAs b s kn table = (rest : ℕ → List Chunk) → MayComeAll kn rest → is_over s (desk_of kn rest table) ≡ b

-- what is found before a turn
abbrev pub Finds : {F : Type 0} → Before → Setup → (ℕ → Known F) → Table → Type 0
Finds before.Faulted s kn table = HasFault kn
Finds before.Over s kn table = IsOverAs true s kn table
Finds before.Going s kn table = IsOverAs false s kn table

-- what the end of the turns says
abbrev pub AnswersAs : {F T : Type 0} → TurnsEnd T → Setup → ℕ → ℕ → (ℕ → Known F) → Table → Type 0
AnswersAs turned.Over s tick turns kn table = Answers s tick turns kn (Some table)
AnswersAs turned.TooLong s tick turns kn table = Answers s tick turns kn None
AnswersAs (turned.Stopped why) s tick turns kn table = Unit {0}
AnswersAs turned.Faulted s tick turns kn table = HasFault kn

-- this, unless the mixer could not send
abbrev pub UnlessStopped : {T : Type 0} → TurnsEnd T → Type 0 → Type 0
UnlessStopped turned.Over P = P
UnlessStopped turned.TooLong P = P
UnlessStopped (turned.Stopped why) P = Unit {0}
UnlessStopped turned.Faulted P = P

-- where the turns were stopped, the mixer could not send for this reason
abbrev pub WasStopped : {M T : Type 0} → (M → T → Type 0) → TurnsEnd T → M → Type 0
WasStopped unsent turned.Over m = Unit {0}
WasStopped unsent turned.TooLong m = Unit {0}
WasStopped unsent (turned.Stopped why) m = unsent m why
WasStopped unsent turned.Faulted m = Unit {0}

-- each leg may have given more
pub record GrowsAll {F : Type 0} (kn kn' : ℕ → Known F) : Type 0 where
  pub goes : (rest' : ℕ → List Chunk) → MayComeAll kn' rest'
      → (rest : ℕ → List Chunk) × MayComeAll kn rest × (all_of kn rest ≡ all_of kn' rest')
  pub kept : (j : ℕ) → is_open (kn j).gave.ended ≡ false → (kn' j).gave ≡ (kn j).gave

-- ---- what is answered in the end
abbrev pub mixing_of : {F T : Type 0} → TurnsEnd T → MixEnd F T
mixing_of turned.Over = mixing.Over
mixing_of turned.TooLong = mixing.TooLong
mixing_of turned.Faulted = mixing.TooLong
mixing_of (turned.Stopped why) = mixing.Stopped why

-- this, unless the mixer could not send
abbrev pub UnlessUnsent : {F T : Type 0} → MixEnd F T → Type 0 → Type 0
UnlessUnsent mixing.Over P = P
UnlessUnsent mixing.TooLong P = P
UnlessUnsent (mixing.Stopped why) P = Unit {0}
UnlessUnsent (mixing.Faulted leg fault) P = Unit {0}

-- where mixing was stopped, the mixer could not send for this reason
abbrev pub IsUnsent : {F T M : Type 0} → (M → T → Type 0) → MixEnd F T → M → Type 0
IsUnsent unsent mixing.Over m = Unit {0}
IsUnsent unsent mixing.TooLong m = Unit {0}
IsUnsent unsent (mixing.Stopped why) m = unsent m why
IsUnsent unsent (mixing.Faulted leg fault) m = Unit {0}

-- each of n legs was read to its end
abbrev pub AllAtEnd : {F : Type 0} → ℕ → (ℕ → Gave F) → Type 0
AllAtEnd n gave = (j : ℕ) → j < n → (gave j).ended ≡ AtEnd

-- this leg has this fault, and those below it have none
pub record IsLowest {F : Type 0} (n leg : ℕ) (fault : F) (gave : ℕ → Gave F) : Type 0 where
  pub below : leg < n
  pub is : (gave leg).ended ≡ AtFault fault
  pub lowest : AllAtEnd leg gave

-- Where no leg has a fault, what plain mixing of these chunks comes to; else the lowest leg's fault.
abbrev pub TellsMixing : {F T : Type 0} → MixEnd F T → Setup → ℕ → ℕ → (ℕ → Gave F) → Table → Type 0
TellsMixing mixing.Over s tick turns gave table = (plain s tick turns (λ j. (gave j).chunks) ≡ Some table) × AllAtEnd s.legs gave
TellsMixing mixing.TooLong s tick turns gave table = (plain s tick turns (λ j. (gave j).chunks) ≡ None) × AllAtEnd s.legs gave
TellsMixing (mixing.Stopped why) s tick turns gave table = Unit {0}
TellsMixing (mixing.Faulted leg fault) s tick turns gave table = IsLowest s.legs leg fault gave

-- ---- the ports
module _ {I F : Type 0} where
  abbrev pub AreSound : (I → Type 0) → List (Port I F) → Type 0
  AreSound good ps = (j : ℕ) (p : Port I F) → slice_get ps j ≡ Some p → PortIsSound good j p

  pub record KnownAt (stands : I → I → Gave F → Type 0) (s : Setup) (firsts : List I) (j : ℕ) (p : Port I F) (k : Known F) : Type 0 where
    pub first : I
    pub of : slice_get firsts j ≡ Some first
    pub holds : PortHolds stands j first p k.gave
    pub hand : hand_of p ≡ k.hand
    pub seat : p.seat ≡ k.seat
    pub stays : StaysAs s j p

  abbrev pub AllKnown : (I → I → Gave F → Type 0) → Setup → List I → List (Port I F) → (ℕ → Known F) → Type 0
  AllKnown stands s firsts ps kn = (j : ℕ) (p : Port I F) → slice_get ps j ≡ Some p → KnownAt stands s firsts j p (kn j)

  -- This is known of the ports, and the mixer has this table.
  pub record IsNow {M : Type 0} (stands : I → I → Gave F → Type 0) (mixes : M → Setup → List Call → Type 0) (s : Setup) (firsts : List I) (kn : ℕ → Known F) (table : Table) (ps : List (Port I F)) (m : M) : Type 0 where
    pub known : AllKnown stands s firsts ps kn
    pub seats : (j : ℕ) → j < s.legs → SeatAt table.seats j (kn j).seat
    pub mixed : At mixes m s table
    pub legs : s.legs ≡ length ps
    pub above : (j : ℕ) → s.legs ≤ j → kn j ≡ unknown

  -- from what was known before, f led to these
  pub record BecomesBy {M : Type 0} (stands : I → I → Gave F → Type 0) (mixes : M → Setup → List Call → Type 0) (s : Setup) (firsts : List I) (f : Desk → Desk) (kn : ℕ → Known F) (table : Table) (ps : List (Port I F)) (m : M) : Type 0 where
    pub kn' : ℕ → Known F
    pub table' : Table
    pub now : IsNow stands mixes s firsts kn' table' ps m
    pub reaches : Reaches f kn table kn' table'

  -- and each leg that came is settled still
  pub record GoesBy {M : Type 0} (stands : I → I → Gave F → Type 0) (mixes : M → Setup → List Call → Type 0) (s : Setup) (firsts : List I) (f : Desk → Desk) (kn : ℕ → Known F) (table : Table) (ps : List (Port I F)) (m : M) : Type 0 where
    pub becomes : BecomesBy stands mixes s firsts f kn table ps m
    pub settled : Settled becomes.kn'

  -- and each of the first n legs is settled
  pub record OffersBy {M : Type 0} (stands : I → I → Gave F → Type 0) (mixes : M → Setup → List Call → Type 0) (s : Setup) (firsts : List I) (n : ℕ) (f : Desk → Desk) (kn : ℕ → Known F) (table : Table) (ps : List (Port I F)) (m : M) : Type 0 where
    pub becomes : BecomesBy stands mixes s firsts f kn table ps m
    pub settled : SettledBelow n becomes.kn'

  -- and this is found
  pub record SettlesBy {M : Type 0} (stands : I → I → Gave F → Type 0) (mixes : M → Setup → List Call → Type 0) (s : Setup) (firsts : List I) (found : Before) (f : Desk → Desk) (kn : ℕ → Known F) (table : Table) (ps : List (Port I F)) (m : M) : Type 0 where
    pub becomes : BecomesBy stands mixes s firsts f kn table ps m
    pub settled : SettledBelow s.legs becomes.kn'
    pub finds : Finds found s becomes.kn' becomes.table'

  -- before the turn k
  pub record BeforeTo {M : Type 0} (stands : I → I → Gave F → Type 0) (mixes : M → Setup → List Call → Type 0) (s : Setup) (firsts : List I) (tick turns k : ℕ) (ps : List (Port I F)) (m : M) : Type 0 where
    pub kn : ℕ → Known F
    pub table : Table
    pub now : IsNow stands mixes s firsts kn table ps m
    pub before : IsBefore s tick turns k kn table

  -- after the turns; of the mixer nothing is said where it could not send
  pub record TurnsTo {M T : Type 0} (stands : I → I → Gave F → Type 0) (mixes : M → Setup → List Call → Type 0) (s : Setup) (firsts : List I) (tick turns : ℕ) (t : TurnsEnd T) (ps : List (Port I F)) (m : M) : Type 0 where
    pub kn : ℕ → Known F
    pub table : Table
    pub known : AllKnown stands s firsts ps kn
    pub legs : s.legs ≡ length ps
    pub above : (j : ℕ) → s.legs ≤ j → kn j ≡ unknown
    pub mixed : UnlessStopped t (At mixes m s table)
    pub answers : AnswersAs t s tick turns kn table

  -- where the first n legs were read to their ends
  pub record DrainsTo (stands : I → I → Gave F → Type 0) (s : Setup) (firsts : List I) (n : ℕ) (kn : ℕ → Known F) (ps : List (Port I F)) : Type 0 where
    pub kn' : ℕ → Known F
    pub known : AllKnown stands s firsts ps kn'
    pub grows : GrowsAll kn kn'
    pub above : (j : ℕ) → length ps ≤ j → kn' j ≡ kn j
    pub closed : (j : ℕ) → j < n → is_open (kn' j).gave.ended ≡ false

  -- how the texts of the leg j ended
  abbrev pub ended_at : List (Port I F) → ℕ → TextsEnd F
  ended_at [] j = Open
  ended_at (p ∷ ps) zero = p.ended
  ended_at (p ∷ ps) (suc j) = ended_at ps j

  abbrev pub NoFaultBelow : ℕ → List (Port I F) → Type 0
  NoFaultBelow n ps = (j : ℕ) → j < n → is_fault (ended_at ps j) ≡ false

  pub record IsLowestAt (ps : List (Port I F)) (leg : ℕ) (fault : F) : Type 0 where
    pub below : leg < length ps
    pub is : ended_at ps leg ≡ AtFault fault
    pub lowest : NoFaultBelow leg ps

  -- The port of the leg j, whose inlet gave all that it will, from the inlet `first` on: of it, this counts.
  pub record GaveAt (stands : I → I → Gave F → Type 0) (firsts : List I) (j : ℕ) (p : Port I F) (gave : Gave F) : Type 0 where
    pub first : I
    pub of : slice_get firsts j ≡ Some first
    pub whole : Gave F
    pub gives : stands first p.inlet whole
    pub is : gave ≡ counted j p.stay whole
    pub closed : is_open gave.ended ≡ false

  -- Of each leg this counts, and no more: it was read to its end. What is answered is what plain mixing of these chunks comes to,
  -- or the lowest leg's fault; unless the mixer could not send, it has this table.
  pub record MixedAs {M T : Type 0} (stands : I → I → Gave F → Type 0) (mixes : M → Setup → List Call → Type 0) (s : Setup) (firsts : List I) (tick turns : ℕ) (answer : MixEnd F T) (ps : List (Port I F)) (m : M) : Type 0 where
    pub gave : ℕ → Gave F
    pub table : Table
    pub legs : (j : ℕ) (p : Port I F) → slice_get ps j ≡ Some p → GaveAt stands firsts j p (gave j)
    pub above : (j : ℕ) → s.legs ≤ j → gave j ≡ nothing
    pub stays : (j : ℕ) (p : Port I F) → slice_get ps j ≡ Some p → StaysAs s j p
    pub mixed : UnlessUnsent answer (At mixes m s table)
    pub tells : TellsMixing answer s tick turns gave table

  -- nothing came to the port j yet
  pub record IsFresh (stands : I → I → Gave F → Type 0) (s : Setup) (firsts : List I) (j : ℕ) (p : Port I F) : Type 0 where
    pub first : I
    pub of : slice_get firsts j ≡ Some first
    pub gives : stands first p.inlet nothing
    pub empty : p.full ≡ false
    pub open_still : p.ended ≡ Open
    pub away : p.seat ≡ Away
    pub stays : StaysAs s j p

  abbrev pub AllFresh : (I → I → Gave F → Type 0) → Setup → List I → List (Port I F) → Type 0
  AllFresh stands s firsts ps = (j : ℕ) (p : Port I F) → slice_get ps j ≡ Some p → IsFresh stands s firsts j p

  -- In a mixing of ports to which nothing came, by a mixer of which nothing was called, this was answered.
  abbrev pub IsMixing : {M T : Type 0} → (I → I → Gave F → Type 0)
      → (M → Setup → (ℕ → PayloadTypes) → List Call → Type 0) → ℕ → ℕ → MixEnd F T → List (Port I F)
      → List (Port I F) → M → M → Type 0
  IsMixing stands mixes tick turns answer ps ps' m m' =
      (s : Setup) (payload_types : ℕ → PayloadTypes) (firsts : List I) → AllFresh stands s firsts ps
      → At (Of mixes payload_types) m s empty → s.legs ≡ length ps
      → MixedAs stands (Of mixes payload_types) s firsts tick turns answer ps' m'
