-- What one step of the mixing tells, of one leg and of all legs: in whatever conference, from whatever table of the mixer.
use Rattle.std.specs.Prelude.{◌≡◌, ℕ, ◌<◌, Bool, not, ◌&&◌, List, length, if◌then◌else◌}
use Rattle.std.specs.List.{list_all}
use Rattle.rtt_base.specs.declared.text_packets.PayloadTypes.{PayloadTypes}
use Rattle.stream_spec.specs.Ready.{Chunk}
use Rattle.mixer_spec.specs.Setups.{Setup}
use Rattle.mixer_spec.specs.Core.{is_taken}
use Rattle.mixer_spec.specs.Table.{Table, Call, stopped, departed, entered, given, is_idle}
use Rattle.mixer_spec.specs.Plain.{goes_below, comes_below, offers_below, before_turn}
use Rattle.mix_loop.specs.declared.ports.Port.{Port}
use Rattle.mix_loop.specs.declared.turns.Before.{Before}
use Rattle.mix_loop.specs.declared.turns.TurnsEnd.{TurnsEnd}
use Rattle.mix_loop.specs.Items.{Gave}
use Rattle.mix_loop.specs.Mixers.{At, Of}
use Rattle.mix_loop.specs.Ports.{SeatAt, StaysAs, PortHolds, PulledTo, GatheredTo, DrainedTo, hand_of, is_to_leave}
use Rattle.mix_loop.specs.Turns.{Known, AllKnown, IsNow, IsBefore, Settled, BecomesBy, OffersBy, SettlesBy, TurnsTo, DrainsTo}

-- no hand has a chunk
abbrev pub are_empty : {I F : Type 0} → List (Port I F) → Bool
are_empty ps = list_all (λ p. not p.full) ps

-- ---- the leg j, by what it gives
module _ {I F : Type 0} (stands : I → I → Gave F → Type 0) where
  -- it was asked for its next chunk
  abbrev pub Pulled : ℕ → Port I F → Port I F → Type 0
  Pulled j p p' = (first : I) (gave : Gave F) → PortHolds stands j first p gave
      → PulledTo stands j first (hand_of p) gave p'

  -- it was read to its end
  abbrev pub Drained : ℕ → Port I F → Port I F → Type 0
  Drained j p p' = (first : I) (gave : Gave F) → PortHolds stands j first p gave → DrainedTo stands j first gave p'

-- ---- one leg at the mixer
module _ {M : Type 0} (mixes : M → Setup → (ℕ → PayloadTypes) → List Call → Type 0) where
  -- a chunk was taken at the moment t, or not
  abbrev pub Took : Chunk → ℕ → Bool → M → M → Type 0
  Took c t taken m m' =
      (s : Setup) (payload_types : ℕ → PayloadTypes) (table : Table) → At (Of mixes payload_types) m s table
      → (taken ≡ is_taken s c.source t table c)
      × At (Of mixes payload_types) m' s (if taken then given c.source c table else table)

module _ {I F M : Type 0} (mixes : M → Setup → (ℕ → PayloadTypes) → List Call → Type 0) where
  -- the mixer has this table, and the leg i its seat there
  abbrev pub IsSeated : Setup → (ℕ → PayloadTypes) → ℕ → Port I F → M → Table → Type 0
  IsSeated s payload_types i p m table = At (Of mixes payload_types) m s table × SeatAt table.seats i p.seat

  -- the leg i listens no more, where its stay is over at the moment t
  abbrev pub Stopped : ℕ → ℕ → Port I F → Port I F → M → M → Type 0
  Stopped i t p p' m m' =
      (s : Setup) (payload_types : ℕ → PayloadTypes) (table : Table)
      → StaysAs s i p → SeatAt table.seats i p.seat → At (Of mixes payload_types) m s table
      → IsSeated s payload_types i p' m' (stopped s i t table)

  -- the leg i gave up its place, where it may
  abbrev pub Departed : ℕ → Port I F → Port I F → M → M → Type 0
  Departed i p p' m m' =
      (s : Setup) (payload_types : ℕ → PayloadTypes) (table : Table)
      → SeatAt table.seats i p.seat → At (Of mixes payload_types) m s table
      → IsSeated s payload_types i p' m' (if is_to_leave p then departed s i table else table)

  -- the leg i came, where its stay has begun at the moment t and a place is free
  abbrev pub Entered : ℕ → ℕ → Port I F → Port I F → M → M → Type 0
  Entered i t p p' m m' =
      (s : Setup) (payload_types : ℕ → PayloadTypes) (table : Table) → i < s.legs
      → StaysAs s i p → SeatAt table.seats i p.seat → At (Of mixes payload_types) m s table
      → IsSeated s payload_types i p' m' (entered s i t table)

  -- whether no hand has a chunk and the mixer is idle
  abbrev pub TellsOver : List (Port I F) → M → Bool → Type 0
  TellsOver ps m over =
      (s : Setup) (payload_types : ℕ → PayloadTypes) (table : Table) → At (Of mixes payload_types) m s table
      → over ≡ (are_empty ps && is_idle s table)

-- ---- by both
module _ {I F M : Type 0} (stands : I → I → Gave F → Type 0) (mixes : M → Setup → (ℕ → PayloadTypes) → List Call → Type 0) where
  -- the leg i offered what it could at the moment t
  abbrev pub Offered : ℕ → ℕ → Port I F → Port I F → M → M → Type 0
  Offered i t p p' m m' =
      (s : Setup) (payload_types : ℕ → PayloadTypes) (table : Table) (first : I) (gave : Gave F)
      → PortHolds stands i first p gave → At (Of mixes payload_types) m s table
      → GatheredTo stands (Of mixes payload_types) s i t first gave (hand_of p) table p' m'

  -- whatever is known of the ports, and whichever table the mixer has
  abbrev pub Whatever : List (Port I F) → M
      → (Setup → (ℕ → PayloadTypes) → List I → (ℕ → Known F) → Table → Type 0) → Type 0
  Whatever ps m P =
      (s : Setup) (payload_types : ℕ → PayloadTypes) (firsts : List I) (kn : ℕ → Known F) (table : Table)
      → IsNow stands (Of mixes payload_types) s firsts kn table ps m → P s payload_types firsts kn table

  -- all legs went whose stay is over at the moment t
  abbrev pub AllWent : ℕ → List (Port I F) → List (Port I F) → M → M → Type 0
  AllWent t ps ps' m m' = Whatever ps m (λ s payload_types firsts kn table. Settled kn
      → BecomesBy stands (Of mixes payload_types) s firsts (goes_below s t s.legs) kn table ps' m')

  -- all legs came whose stay has begun then
  abbrev pub AllCame : ℕ → List (Port I F) → List (Port I F) → M → M → Type 0
  AllCame t ps ps' m m' = Whatever ps m (λ s payload_types firsts kn table.
      BecomesBy stands (Of mixes payload_types) s firsts (comes_below s t s.legs) kn table ps' m')

  -- each leg offered what it could then
  abbrev pub AllOffered : ℕ → List (Port I F) → List (Port I F) → M → M → Type 0
  AllOffered t ps ps' m m' = Whatever ps m (λ s payload_types firsts kn table.
      OffersBy stands (Of mixes payload_types) s firsts s.legs (offers_below s t s.legs) kn table ps' m')

  -- all of this was done before a turn at the moment t
  abbrev pub AllMoved : ℕ → List (Port I F) → List (Port I F) → M → M → Type 0
  AllMoved t ps ps' m m' = Whatever ps m (λ s payload_types firsts kn table. Settled kn
      → OffersBy stands (Of mixes payload_types) s firsts s.legs (before_turn s t) kn table ps' m')

  -- so it was, and this was found
  abbrev pub AllSettled : ℕ → Before → List (Port I F) → List (Port I F) → M → M → Type 0
  AllSettled t found ps ps' m m' = Whatever ps m (λ s payload_types firsts kn table. Settled kn
      → SettlesBy stands (Of mixes payload_types) s firsts found (before_turn s t) kn table ps' m')

  -- the turns were made, from the first one on, and this is how they ended
  abbrev pub AllTurned : {T : Type 0} → ℕ → ℕ → TurnsEnd T → List (Port I F) → List (Port I F) → M → M → Type 0
  AllTurned tick turns ended ps ps' m m' = Whatever ps m (λ s payload_types firsts kn table.
      IsBefore s tick turns 0 kn table → TurnsTo stands (Of mixes payload_types) s firsts tick turns ended ps' m')

module _ {I F : Type 0} (stands : I → I → Gave F → Type 0) where
  -- each leg was read to its end
  abbrev pub AllDrained : List (Port I F) → List (Port I F) → Type 0
  AllDrained ps ps' =
      (s : Setup) (firsts : List I) (kn : ℕ → Known F)
      → AllKnown stands s firsts ps kn → DrainsTo stands s firsts (length ps') kn ps'
