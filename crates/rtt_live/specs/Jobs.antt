-- What a clause says of a live call that runs.
use Rattle.std.specs.Prelude.{◌≡◌, ◌≤◌, ◌<◌, ◌^◌, ℕ, Some, List, [], ◌++◌, length, slice_get, vec_len, true}
use Rattle.std.specs.Mem.{manually_drop_value}
use Rattle.std.specs.Vec.{vec_capacity}
use Rattle.core.specs.declared.mem.manually_drop.ManuallyDrop.{ManuallyDrop}
use Rattle.rtt_base.specs.declared.text_packets.PayloadTypes.{PayloadTypes}
use Rattle.mixer_spec.specs.Setups.{AllStay, Setup}
use Rattle.mixer_spec.specs.Table.{Call}
use Rattle.workers.specs.declared.lanes.Worker.{Worker}
use Rattle.workers.specs.Lanes.{AreNew, popped_of}
use Rattle.workers.specs.Pairs.{Pairs}
use Rattle.workers.specs.Rooms.{HasRoom}
use Rattle.link_io.specs.declared.ends.LinkIn as links
use Rattle.mix_loop.specs.Addresses.{Address, AreWithin, ports_of}
use Rattle.live_leg.specs.LinkLegs.{Item, LegGave, LegStands, LinkItem, LinkLeg, has_fault}
use Rattle.live_leg.specs.Items.{items_of}
use Rattle.mix_loop.specs.declared.clocks.TurnClock as clocks
use Rattle.mix_loop.specs.declared.live_ports.LivePort.{LivePort}
use Rattle.mix_loop.specs.declared.live_turns.LiveTurnsEnd.{LiveTurnsEnd}
use Rattle.mix_loop.specs.declared.live_turns.LiveTurnsEnd.TheVariants.{Done}
use Rattle.mix_loop.specs.Clocks.{IsPaced, OnlyTimePassed, StandsPaced}
use Rattle.mix_loop.specs.Order.{AreInTurn}
use Rattle.mix_loop.specs.LivePorts.{IsBegun}
use Rattle.mix_loop.specs.Walks.{AllGrew, AreAt, HaltsThen, IsPaused, Ran, RanTo, WasFaulted, WasStopped}
use Rattle.rtt_live.specs.declared.faults.LiveFault.{LiveFault}
use Rattle.rtt_live.specs.declared.threads.CallJob.{CallJob}
use Rattle.rtt_live.specs.declared.threads.JobReturn.{JobReturn}
use Rattle.rtt_live.specs.Mixers.{all_admitted}

-- ---- ports
module _ {I : Type 0} where
  -- a port of this, at which nothing was popped
  abbrev pub IsPortOf : I → LivePort I → Type 0
  IsPortOf inlet p = IsBegun inlet p.leg p

  -- one of each, in leg order
  pub record ArePortsOf (inlets : List I) (ports : List (LivePort I)) : Type 0 where
    pub pairs : Pairs IsPortOf inlets ports
    pub at : AreAt ports

  -- it came out of this port
  abbrev pub IsInletOf : LivePort I → I → Type 0
  IsInletOf p inlet = inlet ≡ p.inlet

-- ---- turns
-- Turns were made of these ports, which were emptied then, of a mixer that stood so.
pub record TurnsWere {I M : Type 0} (popped : I → List Item) (began : I → I → Type 0)
    (stands then halts : M → Setup → (ℕ → PayloadTypes) → List Call → Type 0) (turns : ℕ) (turned : LiveTurnsEnd LiveFault)
    (old new : List (LivePort I)) (m m' : M) : Type 0 where
  pub ports : List (LivePort I)
  pub many : length ports ≡ length old
  pub grew : AllGrew popped began old ports
  pub emptied : AllGrew popped began ports new
  pub ran : Ran popped turned stands then halts turns old ports m m'
  pub faulted : WasFaulted turned ports

-- ---- the whole
module _ {L G : Type 0} where
  -- what was popped of a leg that runs
  abbrev pub popped_in : Worker LinkItem (LinkLeg L) G → List Item
  popped_in lane = items_of (popped_of lane)

module _ {L : Type 0} (g : links.Ghosts L) where
  -- The leg that began as the first came back as the second, and of what it gave these items were the first.
  abbrev pub GaveFirst : LinkLeg L → LinkLeg L → List Item → Type 0
  GaveFirst first back items = (left : List Item) × LegStands g first back (items ++ left)

module _ {L M C G : Type 0} where
  -- a call may run that is described so
  pub record CanRun {K : Type 0} (g : links.Ghosts L) (k : clocks.Ghosts C K) (legs_of turns_of : M → ℕ) (addresses : M → List Address) (horizon : ℕ) (job : CallJob L M C G) : Type 0 where
    pub few : vec_len job.legs ≤ 64
    pub new : AreNew (LegGave g) job.legs.items
    pub lanes : HasRoom (vec_len job.legs) job.lanes
    pub no_port : job.ports.items ≡ []
    pub ports : vec_len job.legs ≤ vec_capacity job.ports
    pub none_joined : job.joined.items ≡ []
    pub joined : vec_len job.legs ≤ vec_capacity job.joined
    pub terminals : legs_of job.mixer ≡ vec_len job.legs
    pub none : turns_of job.mixer ≡ 0
    pub turns_fit : job.turns ≤ 5000000
    pub tick_some : 0 < job.tick
    pub tick_fits : job.tick ≤ 400
    pub in_time : 2 ^ 47 ≤ horizon
    pub given : AreWithin (k.pauses job.clock.now) (addresses job.mixer)

  -- It ran: turns were made of what was popped of the legs, all of which came back.
  pub record RanAs {K : Type 0} (g : links.Ghosts L) (k : clocks.Ghosts C K) (stands : M → Setup → (ℕ → PayloadTypes) → List Call → Type 0) (halted : M → Setup → (ℕ → PayloadTypes) → List Call → ℕ → Type 0) (addresses : M → List Address) (unsent : M → LiveFault → Type 0) (job : CallJob L M C G) (ended : JobReturn L M C) : Type 0 where
    pub same : ended.clock.ghost_name ≡ job.clock.ghost_name
    pub passed : OnlyTimePassed k job.clock.now ended.clock.now
    pub many : length ended.legs.items ≡ length job.legs.items
    pub addresses_are : ports_of (addresses ended.mixer) ≡ ports_of (addresses job.mixer)
    pub ports : List (LivePort (Worker LinkItem (LinkLeg L) G))
    pub each : length ports ≡ length job.legs.items
    pub legs : (j : ℕ) (p : LivePort (Worker LinkItem (LinkLeg L) G)) (first back : LinkLeg L)
        → slice_get ports j ≡ Some p
        → slice_get job.legs.items j ≡ Some first → slice_get ended.legs.items j ≡ Some back
        → GaveFirst g first back (popped_in p.inlet)
    pub ran : (s : Setup) (payload_types : ℕ → PayloadTypes) → s.legs ≡ length job.legs.items → AllStay s
        → stands job.mixer s payload_types (all_admitted s.legs)
        → RanTo popped_in ended.turned (StandsPaced k.tells job.tick (k.moment job.clock.now) (k.moment ended.clock.now) (AreInTurn stands addresses (k.pauses job.clock.now)) stands)
        (StandsPaced k.tells job.tick (k.moment job.clock.now) (k.moment ended.clock.now) (AreInTurn stands addresses (k.pauses job.clock.now)) (HaltsThen halted)) s payload_types job.turns ports ended.mixer
    pub faulted : WasFaulted ended.turned ports
    pub failed : (j : ℕ) (p : LivePort (Worker LinkItem (LinkLeg L) G)) → slice_get ports j ≡ Some p
        → p.failed ≡ true → has_fault (popped_in p.inlet) ≡ true
    pub stopped : WasStopped unsent ended.turned ended.mixer
    pub paced : k.tells → ended.turned ≡ Done
        → IsPaced job.turns job.tick (k.moment job.clock.now) (k.moment ended.clock.now)
    pub paused : ended.turned ≡ Done → IsPaused job.turns (k.pauses job.clock.now) (k.pauses ended.clock.now)

  -- the same of one that is lent
  abbrev pub LentCanRun : {K : Type 0} → links.Ghosts L → clocks.Ghosts C K → (M → ℕ) → (M → ℕ)
      → (M → List Address) → ℕ → ManuallyDrop (CallJob L M C G) → Type 0
  LentCanRun g k legs_of turns_of addresses horizon lent = CanRun g k legs_of turns_of addresses horizon (manually_drop_value lent)

  abbrev pub LentRanAs : {K : Type 0} → links.Ghosts L → clocks.Ghosts C K
      → (M → Setup → (ℕ → PayloadTypes) → List Call → Type 0)
      → (M → Setup → (ℕ → PayloadTypes) → List Call → ℕ → Type 0) → (M → List Address) → (M → LiveFault → Type 0)
      → ManuallyDrop (CallJob L M C G) → JobReturn L M C → Type 0
  LentRanAs g k stands halted addresses unsent lent ended = RanAs g k stands halted addresses unsent (manually_drop_value lent) ended
