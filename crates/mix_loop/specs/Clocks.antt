-- What passes while turns are made.
use Rattle.std.specs.Prelude.{◌≡◌, ◌≤◌, ◌<◌, ◌+◌, ◌*◌, ◌^◌, ℕ, List, [], ◌∷◌, length}
use Rattle.rtt_base.specs.declared.text_packets.PayloadTypes.{PayloadTypes}
use Rattle.mixer_spec.specs.Setups.{Setup}
use Rattle.mixer_spec.specs.Table.{Call, Admit, Hush, Leave, Offer, Turn}
use Rattle.link_io.specs.Ports.{Same}
use Rattle.mix_loop.specs.declared.clocks.TurnClock as clocks

-- ---- turns
-- the moments of the turns that these calls make, newest first
abbrev pub moments_of : List Call → List ℕ
moments_of [] = []
moments_of (Admit i l ∷ past) = moments_of past
moments_of (Hush i ∷ past) = moments_of past
moments_of (Leave i ∷ past) = moments_of past
moments_of (Offer c ∷ past) = moments_of past
moments_of (Turn now ∷ past) = now ∷ moments_of past

-- each of these is at its multiple of the tick since a moment, or later, so long as clocks tell that
abbrev pub AtTicks : ℕ → ℕ → List ℕ → Type 0
AtTicks tick began [] = Unit {0}
AtTicks tick began (now ∷ past) = (began + length past * tick < 2 ^ 47 → began + length past * tick ≤ now) × AtTicks tick began past

-- these never fall, and the last of them is no later than this
abbrev pub RiseTo : ℕ → List ℕ → Type 0
RiseTo until [] = Unit {0}
RiseTo until (now ∷ past) = (now ≤ until) × RiseTo now past

-- The turns that these calls make are told such moments, since one that was no earlier than the first, and no later than the last
-- that the clock told: they never fall, and none is later than that last one.
pub record ArePaced (tick old new : ℕ) (calls : List Call) : Type 0 where
  pub began : ℕ
  pub behind : old ≤ began
  pub before : began ≤ new
  pub at : AtTicks tick began (moments_of calls)
  pub told : RiseTo new (moments_of calls)

-- what is known of a mixer of which these calls were made, that, where links tell, their turns are paced, and what is known of their order
abbrev pub StandsPaced : {M : Type 0} → (tells : Type 0) → (tick old new : ℕ)
    → (order stands : M → Setup → (ℕ → PayloadTypes) → List Call → Type 0) → M → Setup → (ℕ → PayloadTypes)
    → List Call → Type 0
StandsPaced tells tick old new order stands m s payload_types calls = stands m s payload_types calls × (tells → ArePaced tick old new calls) × order m s payload_types calls

-- ---- time
-- So many ticks have passed since a moment, which was no earlier than the first, and no later than the last: so long as clocks tell
-- moments.
pub record IsPaced (turns tick old new : ℕ) : Type 0 where
  pub began : ℕ
  pub behind : old ≤ began
  pub before : began ≤ new
  pub passed : began + turns * tick < 2 ^ 47 → began + turns * tick ≤ new

-- Only time did: the counts of faults and the links are the same, and the moment did not fall.
pub record OnlyTimePassed {C K : Type 0} (g : clocks.Ghosts C K) (old new : C) : Type 0 where
  pub same_own : Same g.own_faults old new
  pub same_objects : Same g.object_faults old new
  pub rises : g.moment old ≤ g.moment new
  pub same_opened : g.tells → Same g.opened old new
  pub same_leads : g.tells → g.leads new ≡ g.leads old
