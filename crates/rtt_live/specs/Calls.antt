-- What a live call of a conference of links comes to: behind its last turn, and when its links were handed back.
use Rattle.std.specs.Prelude.{◌≡◌, ◌≤◌, ◌<◌, ◌+◌, ◌⊎◌, ℕ, suc, Bool, true, Some, Result, Ok, Err, List, [], ◌∷◌, length, slice_get}
use Rattle.std.specs.Option.{option_map_or}
use Rattle.rtt_io.specs.Counts.{Rose, last_count}
use Rattle.stream_spec.specs.Ready.{Chunk}
use Rattle.file_spec.specs.declared.conference_lines.Form.TheVariants.{Links}
use Rattle.file_spec.specs.declared.conference_lines.LegLine.{LegLine}
use Rattle.file_spec.specs.Conference.{Conference, conference_from, port}
use Rattle.mixer_spec.specs.Setups.{AllStay, leg_at, setup}
use Rattle.mixer_spec.specs.Table.{Call, Table, after_calls, chunks_taken}
use Rattle.mixer_spec.specs.Calls.{turns_made}
use Rattle.stream_spec.specs.Links.{Takes}
use Rattle.link_io.specs.Given.{given_by, packets}
use Rattle.link_io.specs.declared.ends.LinkIn as ins
use Rattle.link_io.specs.declared.ends.LinkOut as outs
use Rattle.live_leg.specs.LinkLegs.{LinkLeg}
use Rattle.live_leg.specs.declared.tallies.LegTally.{LegTally}
use Rattle.mix_loop.specs.Clocks.{AtTicks, RiseTo, moments_of}
use Rattle.mix_loop.specs.Order.{up_to_turn}
use Rattle.mix_loop.specs.declared.live_turns.LiveTurnsEnd.{LiveTurnsEnd}
use Rattle.mix_loop.specs.declared.live_turns.LiveTurnsEnd.TheVariants.{Done, Closed, Faulted, Stopped}
use Rattle.live_spec.specs.HeadLive.{HeadLive}
use Rattle.live_spec.specs.Served.{Broken, End, IsCutShort, IsServed, given_to, live_printed}
use Rattle.live_spec.specs.Served as served
use Rattle.rtt_live.specs.declared.calls.CallReturn.{CallReturn}
use Rattle.rtt_live.specs.declared.faults.LiveFault.{LiveFault}
use Rattle.rtt_live.specs.declared.faults.LiveFault.TheVariants.{Link, NoMemory}
use Rattle.rtt_live.specs.declared.reports.LiveEnd.{LiveEnd}
use Rattle.rtt_live.specs.declared.reports.LiveEnd.TheVariants as ends
use Rattle.rtt_live.specs.Ends.{packets_in}
use Rattle.rtt_live.specs.Listeners.{HasHeard, Listening}
use Rattle.rtt_live.specs.Opened.{AreCalm, AreUnused, HavePorts, link_in, port_of}
use Rattle.rtt_live.specs.Spans.{Span}
use Rattle.rtt_live.specs.Tallies.{AreTallies, tallies_in}
use Rattle.rtt_live.specs.Taps.{Notice, Shows, chunks_of, notices_by}

-- ---- conferences
-- no two legs have one port
abbrev pub HaveApartPorts : Conference → Type 0
HaveApartPorts c =
    (j k : ℕ) (a b : LegLine) (p : ℕ) → leg_at c.legs j ≡ Some a → leg_at c.legs k ≡ Some b
    → port a.input ≡ Some p → port b.input ≡ Some p → j ≡ k

-- A conference of links: each leg's input is a port of its own. Each has a place, and none comes later or goes.
pub record IsOfLinks (c : Conference) : Type 0 where
  pub ports : HavePorts c
  pub apart : HaveApartPorts c
  pub stay : AllStay (setup c)

-- Whatever a conference file of links says, it describes such a conference.
abbrev pub LinksAreApart : Type 0
LinksAreApart = (octets : List ℕ) (c : Conference) → conference_from Links octets ≡ Ok c → IsOfLinks c

-- under the port of each leg is what is that leg's
abbrev pub AtPorts : {K : Type 0} → Conference → (ℕ → K) → (ℕ → K) → Type 0
AtPorts c under of = (j : ℕ) (line : LegLine) (p : ℕ) → leg_at c.legs j ≡ Some line → port line.input ≡ Some p
    → under p ≡ of j

-- under the port of each leg is what was there before, or nothing
abbrev pub GaveNothing : {K : Type 0} → Conference → (ℕ → List K) → (ℕ → List K) → Type 0
GaveNothing c old new = (j : ℕ) (line : LegLine) (p : ℕ) → leg_at c.legs j ≡ Some line
    → port line.input ≡ Some p → (new p ≡ old p) ⊎ (new p ≡ [])

-- ---- behind the last turn
-- the link of this number failed
abbrev pub FailedAt : {X : Type 0} → (X → ℕ) → List X → ℕ → Type 0
FailedAt {X} faults xs j = (x : X) × (slice_get xs j ≡ Some x) × Rose 0 (faults x)

-- each of these has the port of its leg
abbrev pub AreAtPorts : {X : Type 0} → (X → ℕ) → Conference → List X → Type 0
AreAtPorts {X} port_of c xs = (j : ℕ) (x : X) (line : LegLine) → slice_get xs j ≡ Some x
    → leg_at c.legs j ≡ Some line → port line.input ≡ Some (port_of x)

-- these chunks were taken, all legs' in order
abbrev pub AreTaken : Table → List Chunk → Type 0
AreTaken table chunks = (j : ℕ) → chunks_of j chunks ≡ chunks_taken (table.taken j)

-- The calls by which the mixer came to this table, and that a tap was told what they tell, in order, and that the call is over.
pub record WasTold (stands : List Notice → Type 0) (c : Conference) (table : Table) : Type 0 where
  pub calls : List Call
  pub made : after_calls (setup c) calls ≡ table
  pub told : stands (Shows ∷ notices_by (setup c) calls)

-- what each of these links was given
abbrev pub at_link : {O K : Type 0} → (O → List K) → List O → ℕ → List K
at_link given links j = option_map_or given (slice_get links j) []

-- By the time that k pauses were made since this count each terminal was given exactly what the first k + 1 of the turns give that
-- these calls make: so long as pauses are counted.
abbrev pub GaveInTurn : Conference → (paused : ℕ) → (given : ℕ → List (ℕ × List ℕ)) → List Call → Type 0
GaveInTurn c paused given calls =
    (k j : ℕ) (line : LegLine) → k < turns_made calls → paused + k < last_count → leg_at c.legs j ≡ Some line
    → packets (given_by (paused + k) (given j)) ≡ given_to c (after_calls (setup c) (up_to_turn (suc k) calls)) j line

-- The calls by which the mixer came to this table, while the clock went on so. The turns were told moments that never fall: each lies
-- at its multiple of the tick since the call began, or later, and is none that the clock had not told by the call's end. What a turn
-- sends was given before the pause behind it.
pub record WasPaced (c : Conference) (table : Table) (span : Span) (given : ℕ → List (ℕ × List ℕ)) : Type 0 where
  pub calls : List Call
  pub made : after_calls (setup c) calls ≡ table
  pub began : ℕ
  pub behind : span.first ≤ began
  pub before : began ≤ span.last
  pub at : AtTicks c.tick began (moments_of calls)
  pub told : RiseTo span.last (moments_of calls)
  pub in_turn : GaveInTurn c span.pauses given calls

-- what lies at the port of each leg
abbrev pub at_ports_of : {K : Type 0} → Conference → (ℕ → K) → ℕ → K
at_ports_of c under j = under (port_of c j)

module _ {I O K : Type 0} (i : ins.Ghosts I) (o : outs.Ghosts O K) (tells : Type 0) (c : Conference) (span : Span) where
  -- A live call of the conference broke off: the legs' links gave this, and the turns that were made give that. Where the world tells
  -- it, this is what the inbound ends have taken, and the outbound ends were given that, or what one more turn gives besides.
  pub record IsBrokenOff (legs : List (LinkLeg I)) (links : List O) : Type 0 where
    pub takes : ℕ → Takes
    pub given : ℕ → List (List ℕ)
    pub served : IsServed c takes given Broken (live_printed c takes given Broken)
    pub now : ℕ
    pub taken : tells → (j : ℕ) (leg : LinkLeg I) → slice_get legs j ≡ Some leg → i.taken leg.arrivals.link ≡ takes j
    pub gave : tells → (j : ℕ) (link : O) (line : LegLine) → slice_get links j ≡ Some link → leg_at c.legs j ≡ Some line
        → IsCutShort c served.table now j line (packets_in o.given link)
    pub paced : tells → WasPaced c served.table span (at_link o.given links)

  -- or nothing was given
  abbrev pub HasGivenUp : List (LinkLeg I) → List O → Type 0
  HasGivenUp legs links = IsBrokenOff legs links ⊎ AreUnused o.given o.faults links

-- `stands` is what is known of the tap that was told this
module _ {I O K : Type 0} (i : ins.Ghosts I) (o : outs.Ghosts O K) (stands : List Notice → Type 0) (tells : Type 0) (c : Conference) (span : Span) where
  -- It is a live call of the conference: the legs' links gave this and were given that. Where the world tells it, that is what these
  -- ends have taken and were given. The tap was told what the mixer took, and of its turns.
  pub record IsCallOf (legs : List (LinkLeg I)) (links : List O) (listeners : List Listening) (end : End) : Type 0 where
    pub takes : ℕ → Takes
    pub given : ℕ → List (List ℕ)
    -- No outbound end failed, and at `Closed` no inbound end did.
    pub calm_ends : AreCalm o.faults links
    pub calm_legs : end ≡ served.Closed → AreCalm (λ (leg : LinkLeg I). i.faults (link_in leg)) legs
    pub served : IsServed c takes given end (live_printed c takes given end)
    pub many : length listeners ≡ length c.legs
    pub heard : (j : ℕ) (l : Listening) → slice_get listeners j ≡ Some l → HasHeard l (given j)
    pub tallied : AreTallies c takes (tallies_in legs)
    pub taken : tells → (j : ℕ) (leg : LinkLeg I) → slice_get legs j ≡ Some leg → i.taken leg.arrivals.link ≡ takes j
    pub gave : tells → (j : ℕ) (link : O) → slice_get links j ≡ Some link → packets_in o.given link ≡ given j
    pub told : WasTold stands c served.table
    pub paced : tells → WasPaced c served.table span (at_link o.given links)

  -- how it ended
  abbrev pub EndsAs : List (LinkLeg I) → List O → List Listening → LiveTurnsEnd LiveFault → Type 0
  EndsAs legs links listeners Done = IsCallOf legs links listeners served.Done
  EndsAs legs links listeners Closed = IsCallOf legs links listeners served.Closed
  EndsAs legs links listeners (Faulted j) = FailedAt (λ (leg : LinkLeg I). i.faults (link_in leg)) legs j × IsBrokenOff i o tells c span legs links
  EndsAs legs links listeners (Stopped (Link j)) = FailedAt o.faults links j × IsBrokenOff i o tells c span legs links
  EndsAs legs links listeners (Stopped NoMemory) = HasGivenUp i o tells c span legs links

  -- Each end of a link is that of its leg. Where the world tells it, links are open at their ports.
  pub record IsCalled {T : Type 0} (opened : ℕ → Bool) (called : CallReturn I O T) : Type 0 where
    pub many_legs : length called.legs.items ≡ length c.legs
    pub many_ends : length called.ends.items ≡ length c.legs
    pub legs_at : AreAtPorts (λ (leg : LinkLeg I). i.port (link_in leg)) c called.legs.items
    pub ends_at : AreAtPorts o.port c called.ends.items
    pub are_open : tells → AtPorts c opened (λ j. true)
    pub ended : EndsAs called.legs.items called.ends.items called.listeners.items called.turned

-- what is answered then
abbrev pub answer_of : LiveTurnsEnd LiveFault → Result LiveEnd LiveFault
answer_of Done = Ok ends.Done
answer_of Closed = Ok ends.Closed
answer_of (Faulted j) = Err (Link j)
answer_of (Stopped why) = Err why

-- ---- when its links were handed back
-- A live call of the conference ended so, and this is printed of it: its legs' links gave this and were given that. It keeps what a
-- live call promises, and that tells of this very run. Where the world tells it, that is what is stored under the ports of the legs.
pub record WasServed (tells : Type 0) (span : Span) (taken_at : ℕ → Takes) (given_at : ℕ → List (ℕ × List ℕ)) (c : Conference) (end : End) (printed : List ℕ) : Type 0 where
  pub takes : ℕ → Takes
  pub given : ℕ → List (List ℕ)
  pub served : IsServed c takes given end printed
  pub keeps : (octets : List ℕ) → conference_from Links octets ≡ Ok c → HeadLive c takes given end printed
  pub same : (octets : List ℕ) (read : conference_from Links octets ≡ Ok c) → (keeps octets read).served ≡ served
  pub taken : tells → AtPorts c taken_at takes
  pub gave : tells → AtPorts c (packets_in given_at) given
  pub paced : tells → WasPaced c served.table span (at_ports_of c given_at)

-- The same, where each leg counted what came of its link.
pub record WasCounted (tells : Type 0) (span : Span) (taken_at : ℕ → Takes) (given_at : ℕ → List (ℕ × List ℕ)) (c : Conference) (end : End) (printed : List ℕ) (tallies : List LegTally) : Type 0 where
  pub was : WasServed tells span taken_at given_at c end printed
  pub many : length tallies ≡ length c.legs
  pub counted : AreTallies c was.takes tallies

-- The same, where the tap was told what the mixer took, and of its turns.
pub record WasTapped (stands : List Notice → Type 0) (tells : Type 0) (span : Span) (taken_at : ℕ → Takes) (given_at : ℕ → List (ℕ × List ℕ)) (c : Conference) (end : End) (printed : List ℕ) : Type 0 where
  pub was : WasServed tells span taken_at given_at c end printed
  pub told : WasTold stands c was.served.table

-- A live call of the conference broke off: its legs' links gave this, and the turns that were made give that. It keeps what a live
-- call promises. Where the world tells it, this is what is stored under the ports of the legs, and that, or, of a terminal to which
-- one more turn was sent, what that turn gives besides.
pub record WasBroken (tells : Type 0) (span : Span) (taken_at : ℕ → Takes) (given_at : ℕ → List (ℕ × List ℕ)) (c : Conference) : Type 0 where
  pub takes : ℕ → Takes
  pub given : ℕ → List (List ℕ)
  pub served : IsServed c takes given Broken (live_printed c takes given Broken)
  pub keeps : (octets : List ℕ) → conference_from Links octets ≡ Ok c
      → HeadLive c takes given Broken (live_printed c takes given Broken)
  pub now : ℕ
  pub taken : tells → AtPorts c taken_at takes
  pub gave : tells → (j : ℕ) (line : LegLine) (p : ℕ) → leg_at c.legs j ≡ Some line → port line.input ≡ Some p
      → IsCutShort c served.table now j line (packets (given_at p))
  pub paced : tells → WasPaced c served.table span (at_ports_of c given_at)

-- What became of a live call of the conference that was given up: it broke off so, or nothing was given.
abbrev pub BrokeOff : (tells : Type 0) → (span : Span) → (given_before : ℕ → List (ℕ × List ℕ))
    → (taken_at : ℕ → Takes) → (given_at : ℕ → List (ℕ × List ℕ)) → Conference → Type 0
BrokeOff tells span given_before taken_at given_at c = WasBroken tells span taken_at given_at c ⊎ (tells → GaveNothing c given_before given_at)

-- The link of the leg j failed: a count of its port rose, of the calls that open it or of its ends.
pub record LinkFailed (own own' ends ends' : ℕ → ℕ) (c : Conference) (j : ℕ) : Type 0 where
  pub line : LegLine
  pub at : leg_at c.legs j ≡ Some line
  pub number : ℕ
  pub is : port line.input ≡ Some number
  pub rose : Rose (own number) (own' number) ⊎ Rose (ends number) (ends' number)

-- why a call was given up
abbrev pub WasGivenUp : (ℕ → ℕ) → (ℕ → ℕ) → (ℕ → ℕ) → (ℕ → ℕ) → Conference → LiveFault → Type 0
WasGivenUp own own' ends ends' c (Link j) = LinkFailed own own' ends ends' c j
WasGivenUp own own' ends ends' c NoMemory = Unit {0}
