-- What a call tells of all that the buffer may have been told and have given before it (profile).
use Rattle.std.specs.Prelude.{◌≡◌, ℕ, ◌+◌, ◌^◌, ◌<◌, ◌≤◌, ◌⊎◌, ◌∷◌, ◌++◌, Bool, None, List, length, nat_lt}
use Rattle.rtt_base.specs.declared.limits.TheConstants.{MOST_HELD}
use Rattle.rtt_base.specs.declared.text_packets.TextPacket.{TextPacket}
use Rattle.wire_spec.specs.Packets.{Packet, packet_of}
use Rattle.stream_spec.specs.Lists.{In}
use Rattle.reorder_buffer.specs.Stories.{Story, Given, came, ended, gave, given_of, given_packet, answer, is_in_time, dues, ready_dues}
use Rattle.reorder_buffer.specs.States.{State, next_latest, put_current, with_packet}
use Rattle.reorder_buffer.specs.Tracks.{Follows, Tracks, SameBut}
use Rattle.reorder_buffer.specs.Views.{next_number}
use Rattle.reorder_buffer.specs.declared.answers.Due.{Due}
use Rattle.reorder_buffer.specs.declared.answers.Taken.{Taken}

-- what was so is that now
abbrev pub LeadsStory : State → State → (Story → Story) → Type 0
LeadsStory old new f = (story : Story) → Tracks old story → Tracks new (f story)

-- the answer is that of what was told and given
abbrev pub TellsStory : {X : Type 0} → State → X → (Story → X) → Type 0
TellsStory s x f = (story : Story) → Tracks s story → x ≡ f story

-- ---- a packet comes

-- the current packet comes at `now`
abbrev pub came_current : State → ℕ → Story → Story
came_current s now story = came story now (packet_of s.current)

abbrev pub answer_current : State → ℕ → Story → Taken
answer_current s now story = answer story now (packet_of s.current)

abbrev pub is_current_in_time : State → ℕ → Story → Bool
is_current_in_time s now story = is_in_time story now (packet_of s.current)

-- what is inside came now or was inside before
abbrev pub ComeAlone : State → State → Type 0
ComeAlone old new = (q : TextPacket) → In q new.packets → (q ≡ old.current) ⊎ In q old.packets

-- ---- packets are given

-- the packet that is current now is given
abbrev pub Gives : State → State → Due → Type 0
Gives old new due = LeadsStory old new (λ story. gave story (given_of due new.current))

-- the packet with this number, whichever it is, comes at `now` and is given at once
abbrev pub GivesAtOnce : State → State → ℕ → ℕ → ℕ → Type 0
GivesAtOnce old new now number ready = (p : Packet) → number ≡ next_number old p.seq
    → LeadsStory old new (λ story. gave (came story now p) (given_packet number ready p))

-- a packet is given as it came
abbrev pub GivesAsItCame : State → State → Type 0
GivesAsItCame old new = old.packets ≡ new.current ∷ new.packets

-- what was given is a front of what is ready
abbrev pub GaveFront : State → Type 0
GaveFront s = (story : Story) → Tracks s story → (rest : List Given) × (ready_dues story ≡ story.given ++ rest)

-- what is ready is a front of all that is used
abbrev pub ReadyIsFront : State → Type 0
ReadyIsFront s = (story : Story) → Tracks s story → (rest : List Given) × (dues story ≡ ready_dues story ++ rest)

-- all that is ready by the greatest moment was given
abbrev pub GaveReady : State → Type 0
GaveReady s = (story : Story) → Tracks s story → story.given ≡ ready_dues story

-- each used packet is ready by the end
abbrev pub AllReady : State → Type 0
AllReady s = (story : Story) → Tracks s story → ready_dues (ended story) ≡ dues story

-- whether some packet is ready by the greatest moment and not given
abbrev pub is_owing : Story → Bool
is_owing story = nat_lt (length story.given) (length (ready_dues story))

-- ---- inside

-- what s follows, t follows
abbrev pub FollowsAll : State → State → Type 0
FollowsAll s t = (story : Story) → Follows s story → Follows t story

-- they are the same, but that another packet may be current
abbrev pub IsButCurrent : State → State → Type 0
IsButCurrent t s = t ≡ with_packet s t.current

abbrev pub SameButCurrent : State → State → Type 0
SameButCurrent s t = SameBut (with_packet s t.current) t

-- the current packet, which has this number, may be held at the place: there is room for it
pub record MayHold (s : State) (place n : ℕ) : Type 0 where
  pub counted : 0 < s.arrivals
  pub room : length s.settled + length s.held ≤ MOST_HELD
  pub within : place ≤ length s.held
  pub number : n < 2 ^ 60

-- it is held there, and all is settled that can be
pub record HoldsPacket (old : State) (place n : ℕ) (new : State) : Type 0 where
  pub stands : FollowsAll (put_current old place n) new
  pub still : next_latest new ≡ None
  pub same : SameButCurrent (put_current old place n) new
