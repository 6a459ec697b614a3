-- The packets of a stream that came twice or late.
use Rattle.std.specs.Prelude.{◌≡◌, ℕ, suc, ◌+◌, ◌≤◌, ◌==◌, ◌&&◌, ◌||◌, not, Bool, false, Option, None, Some, List, ◌∷◌, Result, Ok, Err, max, nat_lt}
use Rattle.std.specs.Ordering.{nat_cmp}
use Rattle.std.specs.BTreeSet.{BTreeSet, contains}
use Rattle.wire_spec.specs.declared.faults.TextFault.{TextFault}
use Rattle.wire_spec.specs.Packets.{Packet, Arrival, packet_of}
use Rattle.wire_spec.specs.Dump.{latest}
use Rattle.stream_spec.specs.Numbering.{Numbered, numbered, number_it, used, in_time, has_number, first_number, distinct_from}
use Rattle.command_spec.specs.Reading.{usual_wait}
use Rattle.reorder_buffer.specs.Stories.{Story, Given}
use Rattle.reorder_buffer.specs.States.{State, arrival_count, has_ready, current_of}
use Rattle.reorder_buffer.specs.Tracks.{Tracks}
use Rattle.receiver.specs.Hears.{IsToldOf}
use Rattle.report_spec.specs.Missed.{late_count}
use Rattle.rtt_show.specs.declared.strays.NumberedPacket.{NumberedPacket}
use Rattle.rtt_show.specs.declared.strays.Follower.{Follower}
use Rattle.rtt_show.specs.declared.strays.Strays.{Strays}
use Rattle.rtt_show.specs.Finds.{one_if}
use Rattle.rtt_show.specs.Spreads.{IsSpread, IsNarrow}

-- ---- the packets of text, one after another

-- it gave more, and no more came
abbrev pub Drains : State → State → Type 0
Drains old new = (story : Story) → Tracks old story → (given : List Given) × Tracks new (record story { given = given })

-- it was told of these arrivals, newest first
pub record Follows (f : Follower) (past : List Arrival) : Type 0 where
  pub story : Story
  pub tracks : Tracks f.buffer story
  pub wait : story.wait ≡ usual_wait
  pub told : IsToldOf story past
  pub spread : IsSpread f.spread (numbered past)

-- so many packets came at most, and all that is settled was given
pub record IsShort (n : ℕ) (f : Follower) : Type 0 where
  pub arrivals : arrival_count f.buffer ≤ n
  pub quiet : has_ready f.buffer ≡ false
  pub narrow : IsNarrow n f.spread

-- a packet that comes at this moment after these
abbrev pub arriving : List Arrival → ℕ → Packet → Arrival
arriving past at packet = record { time = max at (latest past); packet = packet }

-- it is e, after these
pub record IsCame (c : NumberedPacket) (past : List Numbered) (e : Numbered) : Type 0 where
  pub number : c.number ≡ e.number
  pub in_time : c.in_time ≡ in_time usual_wait e past

-- this packet came besides
abbrev pub ComesMore : Follower → ℕ → Packet → NumberedPacket → Follower → Type 0
ComesMore old at packet c new =
    (past : List Arrival) → Follows old past
    → Follows new (arriving past at packet ∷ past) × IsCame c (numbered past) (number_it (numbered past) (arriving past at packet))

-- the packet that the buffer has came besides
abbrev pub CurrentComes : Follower → ℕ → NumberedPacket → Follower → Type 0
CurrentComes old at c new = ComesMore old at (packet_of (current_of old.buffer)) c new

-- a packet of text came besides, or another, with which nothing comes
abbrev pub FollowsMore : Follower → ℕ → Result Packet TextFault → Option NumberedPacket → Follower → Type 0
FollowsMore old at (Ok packet) (Some c) new = ComesMore old at packet c new
FollowsMore old at (Err fault) None new = (past : List Arrival) → Follows old past → Follows new past
FollowsMore old at (Ok packet) None new = ⊥
FollowsMore old at (Err fault) (Some c) new = ⊥

-- ---- what came twice or late

abbrev pub has : BTreeSet ℕ → ℕ → Bool
has numbers n = contains nat_cmp numbers n

-- a number above the first of which each packet came too late
abbrev pub is_late_number : ℕ → List Numbered → ℕ → Bool
is_late_number first past n = nat_lt first n && (has_number past n && not (has_number (used usual_wait past) n))

pub record AreStrays (s : Strays) (past : List Numbered) : Type 0 where
  pub used : (n : ℕ) → has s.used n ≡ has_number (used usual_wait past) n
  pub late : (n : ℕ) → has s.late n ≡ is_late_number (first_number 0 past) past n
  pub packets : s.packets ≡ late_count usual_wait past
  pub above : s.above ≡ distinct_from (suc (first_number 0 past)) past

-- no count is greater
pub record IsFewStrays (n : ℕ) (s : Strays) : Type 0 where
  pub packets : s.packets ≤ n
  pub above : s.above ≤ n

-- this number is used
pub record UsesMore (old : Strays) (number first : ℕ) (new : Strays) : Type 0 where
  pub used : (n : ℕ) → has new.used n ≡ (number == n || has old.used n)
  pub late : (n : ℕ) → has new.late n ≡ has old.late n
  pub packets : new.packets ≡ old.packets
  pub above : new.above ≡ old.above + one_if (not (number == first))

-- a packet with this number is not used
pub record LatesMore (old : Strays) (number first : ℕ) (new : Strays) : Type 0 where
  pub used : (n : ℕ) → has new.used n ≡ has old.used n
  pub late : (n : ℕ) → has new.late n ≡ ((nat_lt first number && number == n) || has old.late n)
  pub packets : new.packets ≡ old.packets + 1
  pub above : new.above ≡ old.above + one_if (nat_lt first number && not (has old.late number))

abbrev pub StraysMore : Strays → NumberedPacket → ℕ → Strays → Type 0
StraysMore old c first new =
    (past : List Numbered) (e : Numbered)
    → IsCame c past e → first ≡ first_number e.number past → AreStrays old past → AreStrays new (e ∷ past)

-- ---- both

pub record Strayed (f : Follower) (s : Strays) (past : List Arrival) : Type 0 where
  pub follows : Follows f past
  pub strays : AreStrays s (numbered past)

abbrev pub IsBound : ℕ → Follower → Strays → Type 0
IsBound n f s = IsShort n f × IsFewStrays n s

-- what these octets are came besides
abbrev pub StrayedMore : Follower → Strays → ℕ → Result Packet TextFault → Follower → Strays → Type 0
StrayedMore f s at (Ok packet) g t = (past : List Arrival) → Strayed f s past
    → Strayed g t (arriving past at packet ∷ past)
StrayedMore f s at (Err fault) g t = (past : List Arrival) → Strayed f s past → Strayed g t past
