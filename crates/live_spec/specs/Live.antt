-- A live run (profile): turns are made at whatever moments, and legs are asked at whatever pace, but what came of a leg is mixed
-- in time.
use Rattle.std.specs.Prelude.{◌≡◌, ◌⊎◌, ◌<◌, ◌≤◌, ℕ, ◌+◌, ◌-◌, Bool, true, false, not, Option, None, Some, List, [], ◌∷◌, drop, length}
use Rattle.stream_spec.specs.Ready.{Chunk}
use Rattle.stream_spec.specs.Fronts.{IsFront}
use Rattle.mixer_spec.specs.Setups.{Setup}
use Rattle.mixer_spec.specs.Table.{Table, chunks_taken, has_room, is_idle, is_seated}
use Rattle.mixer_spec.specs.Core.{Core, Event, Enter, Stop, Depart, Push, Take, Turn, after, turns_in}
use Rattle.stream_spec.specs.Links.{Came, Datagram, Large, Quiet, Closed, Takes, is_closed}
use Rattle.live_spec.specs.Told.{Hearing, all_by, ready_by}

-- the span of the leg i has no room for the chunk in its hand
abbrev pub is_held_back : Setup → Table → ℕ → Option Chunk → Bool
is_held_back s table i None = false
is_held_back s table i (Some c) = not (has_room s i c table)

-- a turn that is made now is blocked for the leg i
abbrev pub is_blocked : Setup → Core → ℕ → Bool
is_blocked s w i = is_held_back s w.table i (w.legs i).hand

-- ---- the takes that count
-- the first n of these takes, which stand newest first; all, where there are fewer
abbrev pub first_takes : ℕ → Takes → Takes
first_takes n takes = drop (length takes - n) takes

abbrev pub is_quiet : Came → Bool
is_quiet (Datagram octets) = false
is_quiet Large = false
is_quiet Quiet = true
is_quiet Closed = false

-- when these takes were made, the link had nothing at the last of them
abbrev pub is_blank : Takes → Bool
is_blank [] = false
is_blank (t ∷ past) = is_quiet t.came

-- how often a link is asked at least before a turn, unless it had nothing before that
abbrev pub most_takes : ℕ
most_takes = 256

-- Before a turn `now` of the link's takes count, and before the last turn `before` of them did. Since then it was asked until it
-- had nothing, or so often; or it is closed, and all its takes count.
abbrev pub IsHeardOut : Takes → (before now : ℕ) → Type 0
IsHeardOut takes before now =
    ((before < now) × (is_blank (first_takes now takes) ≡ true))
    ⊎ ((before + most_takes ≤ now) ⊎ ((now ≡ length takes) × (is_closed takes ≡ true)))

-- What is ready by the takes that count was taken by the mixer. Unless the turn is blocked for the leg, its link was heard out.
pub record IsUpToDate (h : Hearing) (takes : Takes) (blocked : Bool) (before now : ℕ) (taken : List Chunk) : Type 0 where
  pub more : before ≤ now
  pub came : now ≤ length takes
  pub took : IsFront (ready_by h (first_takes now takes)) taken
  pub heard_out : blocked ≡ false → IsHeardOut takes before now

-- of counts for each turn, newest first, those for the last one; 0, where no turn was made
abbrev pub at_last : List (ℕ → ℕ) → ℕ → ℕ
at_last [] i = 0
at_last (now ∷ counts) i = now i

-- those for the turns before it
abbrev pub but_last : List (ℕ → ℕ) → List (ℕ → ℕ)
but_last [] = []
but_last (now ∷ counts) = counts

-- ---- turns
module _ (s : Setup) (hears : ℕ → Hearing) (takes : ℕ → Takes) (chunks : ℕ → List Chunk) where
  -- The leg i, heard so, of whose link that came, holds a place, and is up to date before the turn after these events.
  pub record MayTurn (past : List Event) (before now i : ℕ) : Type 0 where
    pub seated : is_seated (after s chunks past).table.seats i ≡ true
    pub fresh : IsUpToDate (hears i) (takes i) (is_blocked s (after s chunks past) i) before now (chunks_taken ((after s chunks past).table.taken i))

  -- By the takes that count each link is closed, the mixer took all that is heard, and nothing waits or is still to be repeated.
  pub record IsOver (past : List Event) (now : ℕ → ℕ) : Type 0 where
    pub closed : (i : ℕ) → i < s.legs → is_closed (first_takes (now i) (takes i)) ≡ true
    pub taken : (i : ℕ) → i < s.legs → chunks_taken ((after s chunks past).table.taken i) ≡ chunks i
    pub idle : is_idle s (after s chunks past).table ≡ true

  -- A turn is made where each leg may turn, and the call is not over.
  pub record AllMayTurn (past : List Event) (before now : ℕ → ℕ) : Type 0 where
    pub each : (i : ℕ) → i < s.legs → MayTurn past (before i) (now i) i
    pub goes_on : IsOver past now → ⊥

-- each leg holds a place
abbrev pub AllSeated : Setup → Table → Type 0
AllSeated s table = (i : ℕ) → i < s.legs → is_seated table.seats i ≡ true

-- What is asked of an event behind these, where so many takes of each link count before each turn, newest first: nothing is taken
-- before all legs hold a place, and none ends its listening or leaves.
abbrev pub MayCome : Setup → (ℕ → Hearing) → (ℕ → Takes) → (ℕ → List Chunk) → List (ℕ → ℕ) → List Event → Event → Type 0
MayCome s hears takes chunks counts past (Enter i t) = Unit {0}
MayCome s hears takes chunks counts past (Stop i t) = ⊥
MayCome s hears takes chunks counts past (Depart i) = ⊥
MayCome s hears takes chunks counts past (Push i) = Unit {0}
MayCome s hears takes chunks counts past (Take i t) = AllSeated s (after s chunks past).table
MayCome s hears takes chunks counts past (Turn now) = AllMayTurn s hears takes chunks past (at_last (but_last counts)) (at_last counts)

-- the counts before this event
abbrev pub counts_before : List (ℕ → ℕ) → Event → List (ℕ → ℕ)
counts_before counts (Enter i t) = counts
counts_before counts (Stop i t) = counts
counts_before counts (Depart i) = counts
counts_before counts (Push i) = counts
counts_before counts (Take i t) = counts
counts_before counts (Turn now) = but_last counts

abbrev pub AreLive : Setup → (ℕ → Hearing) → (ℕ → Takes) → (ℕ → List Chunk) → List (ℕ → ℕ) → List Event → Type 0
AreLive s hears takes chunks counts [] = Unit {0}
AreLive s hears takes chunks counts (e ∷ past) = MayCome s hears takes chunks counts past e × AreLive s hears takes chunks (counts_before counts e) past

-- the chunks of each leg, by all that its link gave
abbrev pub live_chunks : (ℕ → Hearing) → (ℕ → Takes) → ℕ → List Chunk
live_chunks hears takes i = all_by (hears i) (takes i)

-- A live run of so many turns leads to the table, where legs are heard so, and their links gave this.
pub record Live (s : Setup) (hears : ℕ → Hearing) (takes : ℕ → Takes) (turns : ℕ) (table : Table) : Type 0 where
  pub past : List Event
  -- how many takes of each link count before each turn, newest first
  pub counts : List (ℕ → ℕ)
  pub live : AreLive s hears takes (live_chunks hears takes) counts past
  pub turned : turns_in past ≡ turns
  pub leads : (after s (live_chunks hears takes) past).table ≡ table
