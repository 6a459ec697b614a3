-- What is known of all legs of a live call.
use Rattle.std.specs.Prelude.{◌≡◌, ◌⊎◌, ◌≤◌, ◌<◌, ℕ, ◌+◌, Bool, true, false, not, ◌&&◌, Some, List, [], ◌∷◌, ◌++◌, length, slice_get}
use Rattle.rtt_base.specs.declared.text_packets.PayloadTypes.{PayloadTypes}
use Rattle.rtt_io.specs.Counts.{last_count}
use Rattle.stream_spec.specs.Ready.{Chunk}
use Rattle.mixer_spec.specs.Setups.{Setup}
use Rattle.mixer_spec.specs.Table.{Call, after_calls, is_idle}
use Rattle.mixer_spec.specs.Calls.{turns_made}
use Rattle.live_spec.specs.Live.{AllSeated, at_last}
use Rattle.live_leg.specs.LinkLegs.{Item}
use Rattle.mix_loop.specs.declared.live_ports.LivePort.{LivePort}
use Rattle.mix_loop.specs.declared.live_turns.LiveTurnsEnd.{LiveTurnsEnd}
use Rattle.mix_loop.specs.declared.live_turns.LiveTurnsEnd.TheVariants.{Done, Closed, Faulted, Stopped}
use Rattle.mix_loop.specs.Order.{SameTurns}
use Rattle.mix_loop.specs.Handed.{AreLiveCalls, HasSignals, IsEnough, IsNext, is_blocked_after}
use Rattle.mix_loop.specs.LivePorts.{Grew, PortAt, with_offers}

-- each of these offers may be made
abbrev pub AllNext : Setup → List Chunk → List Call → Type 0
AllNext s [] calls = Unit {0}
AllNext s (c ∷ more) calls = (c.source < s.legs) × IsNext s c (with_offers more calls) × AllNext s more calls

-- a count of pauses rose by so many, or stands at its last value
abbrev pub IsPaused : ℕ → ℕ → ℕ → Type 0
IsPaused k old new = (new ≡ old + k) ⊎ (new ≡ last_count)

module _ {I : Type 0} where
  -- each leg has its number
  abbrev pub AreAt : List (LivePort I) → Type 0
  AreAt ps = (j : ℕ) (p : LivePort I) → slice_get ps j ≡ Some p → p.leg ≡ j

  -- no fault was popped
  abbrev pub NoneFailed : List (LivePort I) → Type 0
  NoneFailed ps = (j : ℕ) (p : LivePort I) → slice_get ps j ≡ Some p → p.failed ≡ false

  -- none was popped of the legs below this one
  abbrev pub NoneFailedBelow : ℕ → List (LivePort I) → Type 0
  NoneFailedBelow leg ps = (j : ℕ) (p : LivePort I) → j < leg → slice_get ps j ≡ Some p → p.failed ≡ false

  -- the leg is the lowest of which a fault was popped
  abbrev pub HasFailed : ℕ → List (LivePort I) → Type 0
  HasFailed leg ps = (p : LivePort I) × (slice_get ps leg ≡ Some p) × (p.failed ≡ true) × NoneFailedBelow leg ps

  -- where turns ended at the fault of a leg, it was popped, and none of a lower one
  abbrev pub WasFaulted : {T : Type 0} → LiveTurnsEnd T → List (LivePort I) → Type 0
  WasFaulted Done ps = Unit {0}
  WasFaulted Closed ps = Unit {0}
  WasFaulted (Faulted leg) ps = HasFailed leg ps
  WasFaulted (Stopped why) ps = Unit {0}

  -- each leg's end was popped, and nothing is in its hand
  abbrev pub is_spent : LivePort I → Bool
  is_spent p = p.ended && not p.full

  abbrev pub AllClosed : List (LivePort I) → Type 0
  AllClosed ps = (j : ℕ) (p : LivePort I) → slice_get ps j ≡ Some p → is_spent p ≡ true

-- where turns were stopped, the mixer could not send, for this reason
abbrev pub WasStopped : {M T : Type 0} → (M → T → Type 0) → LiveTurnsEnd T → M → Type 0
WasStopped unsent Done m = Unit {0}
WasStopped unsent Closed m = Unit {0}
WasStopped unsent (Faulted leg) m = Unit {0}
WasStopped unsent (Stopped why) m = unsent m why

-- these calls were made, and then a turn, at some moment, that was not sent to its end
abbrev pub HaltsThen : {M : Type 0} → (M → Setup → (ℕ → PayloadTypes) → List Call → ℕ → Type 0) → M → Setup
    → (ℕ → PayloadTypes) → List Call → Type 0
HaltsThen halted m s payload_types calls = (now : ℕ) × halted m s payload_types calls now

module _ {I : Type 0} (popped : I → List Item) where
  -- these items begin with those that were popped of each leg
  abbrev pub AreOf : List (LivePort I) → (ℕ → List Item) → Type 0
  AreOf ps items = (j : ℕ) (p : LivePort I) → slice_get ps j ≡ Some p
      → (more : List Item) × (items j ≡ popped p.inlet ++ more)

  -- of the first `done` legs what was popped is enough for the turn that comes, where that all was given was said so often before
  pub record WalkedTo {M : Type 0} (stands : M → Setup → (ℕ → PayloadTypes) → List Call → Type 0) (s : Setup) (payload_types : ℕ → PayloadTypes) (calls : List Call) (before : ℕ → ℕ) (done : ℕ) (ps : List (LivePort I)) (m : M) : Type 0 where
    pub offers : List Chunk
    pub next : AllNext s offers calls
    pub made : stands m s payload_types (with_offers offers calls)
    pub at : (j : ℕ) (p : LivePort I) → slice_get ps j ≡ Some p
        → PortAt popped s (with_offers offers calls) j (HasSignals (before j)) p
    pub fresh : (j : ℕ) (p : LivePort I) → j < done → slice_get ps j ≡ Some p → p.failed ≡ false
        → PortAt popped s (with_offers offers calls) j (IsEnough (is_blocked_after s j (with_offers offers calls)) (before j)) p

  -- what was popped of each leg, and maybe more
  abbrev pub AllGrew : (I → I → Type 0) → List (LivePort I) → List (LivePort I) → Type 0
  AllGrew began old new = (j : ℕ) (p : LivePort I) → slice_get old j ≡ Some p
      → (q : LivePort I) × (slice_get new j ≡ Some q) × Grew popped began p q

  -- In this conference these calls were made, in a live run of what was popped.
  pub record IsServing {M : Type 0} (stands : M → Setup → (ℕ → PayloadTypes) → List Call → Type 0) (s : Setup) (payload_types : ℕ → PayloadTypes) (turns : ℕ) (ps : List (LivePort I)) (m : M) : Type 0 where
    pub calls : List Call
    pub counts : List (ℕ → ℕ)
    pub made : stands m s payload_types calls
    pub live : (items : ℕ → List Item) → AreOf ps items → AreLiveCalls s items counts calls
    pub turned : turns_made calls ≡ turns
    pub seated : AllSeated s (after_calls s calls)
    pub at : (j : ℕ) (p : LivePort I) → slice_get ps j ≡ Some p
        → PortAt popped s calls j (HasSignals (at_last counts j)) p

  -- and it is enough for the turn that comes
  pub record MayBeTurned {M : Type 0} (stands : M → Setup → (ℕ → PayloadTypes) → List Call → Type 0) (s : Setup) (payload_types : ℕ → PayloadTypes) (turns : ℕ) (ps : List (LivePort I)) (m : M) : Type 0 where
    pub serving : IsServing stands s payload_types turns ps m
    pub fresh : (j : ℕ) (p : LivePort I) → slice_get ps j ≡ Some p → p.failed ≡ false
        → PortAt popped s serving.calls j (IsEnough (is_blocked_after s j serving.calls) (at_last serving.counts j)) p

  -- each leg offered what it could
  abbrev pub AllGathered : {M : Type 0} → (M → Setup → (ℕ → PayloadTypes) → List Call → Type 0)
      → List (LivePort I) → List (LivePort I) → M → M → Type 0
  AllGathered stands ps ps' m m' =
      (s : Setup) (payload_types : ℕ → PayloadTypes) (turns : ℕ) → s.legs ≡ length ps
      → (v : IsServing stands s payload_types turns ps m)
      → (w : MayBeTurned stands s payload_types turns ps' m') × SameTurns v.calls w.serving.calls

  -- the mixer is idle, and each leg's end was popped
  pub record IsClosed {M : Type 0} (stands : M → Setup → (ℕ → PayloadTypes) → List Call → Type 0) (s : Setup) (payload_types : ℕ → PayloadTypes) (ps : List (LivePort I)) (m : M) (calls : List Call) : Type 0 where
    pub ends : AllClosed ps
    pub idle : is_idle s (after_calls s calls) ≡ true

  -- so many turns were made and nothing is left
  pub record ClosedTo {M : Type 0} (stands : M → Setup → (ℕ → PayloadTypes) → List Call → Type 0) (s : Setup) (payload_types : ℕ → PayloadTypes) (most : ℕ) (ps : List (LivePort I)) (m : M) : Type 0 where
    pub turns : ℕ
    pub few : turns ≤ most
    pub serving : IsServing stands s payload_types turns ps m
    pub closed : IsClosed stands s payload_types ps m serving.calls

  -- all these turns were made, and something is left
  pub record DoneTo {M : Type 0} (stands : M → Setup → (ℕ → PayloadTypes) → List Call → Type 0) (s : Setup) (payload_types : ℕ → PayloadTypes) (turns : ℕ) (ps : List (LivePort I)) (m : M) : Type 0 where
    pub serving : IsServing stands s payload_types turns ps m
    pub goes_on : IsClosed stands s payload_types ps m serving.calls → ⊥

  -- so many turns were made
  pub record BrokenTo {M : Type 0} (stands : M → Setup → (ℕ → PayloadTypes) → List Call → Type 0) (s : Setup) (payload_types : ℕ → PayloadTypes) (most : ℕ) (ps : List (LivePort I)) (m : M) : Type 0 where
    pub turns : ℕ
    pub few : turns ≤ most
    pub serving : IsServing stands s payload_types turns ps m

  -- how the turns ended, of a mixer that stands so then, or of which the last turn was not sent to its end
  abbrev pub RanTo : {M T : Type 0} → LiveTurnsEnd T
      → (stands halts : M → Setup → (ℕ → PayloadTypes) → List Call → Type 0) → Setup → (ℕ → PayloadTypes) → ℕ
      → List (LivePort I) → M → Type 0
  RanTo Done stands halts s payload_types turns ps m = DoneTo stands s payload_types turns ps m
  RanTo Closed stands halts s payload_types turns ps m = ClosedTo stands s payload_types turns ps m
  RanTo (Faulted leg) stands halts s payload_types turns ps m = BrokenTo stands s payload_types turns ps m
  RanTo (Stopped why) stands halts s payload_types turns ps m = BrokenTo halts s payload_types turns ps m

  -- the turns were made, and ended so, of a mixer that stood so
  abbrev pub Ran : {M T : Type 0} → LiveTurnsEnd T
      → (stands then halts : M → Setup → (ℕ → PayloadTypes) → List Call → Type 0) → ℕ → List (LivePort I)
      → List (LivePort I) → M → M → Type 0
  Ran ended stands then halts turns ps ps' m m' =
      (s : Setup) (payload_types : ℕ → PayloadTypes) → s.legs ≡ length ps
      → IsServing stands s payload_types 0 ps m → RanTo ended then halts s payload_types turns ps' m'
