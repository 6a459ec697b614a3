-- What a buffer was told and has given, and what it owes by then (profile).
use Rattle.std.specs.Prelude.{ℕ, zero, suc, ◌+◌, ◌-◌, Bool, true, false, List, [], ◌∷◌, ◌++◌, map, filter, ◌&&◌, ◌||◌, nat_lt, nat_le, if◌then◌else◌, max}
use Rattle.rtt_base.specs.declared.text_packets.TextPacket.{TextPacket}
use Rattle.wire_spec.specs.Packets.{Packet, Arrival, packet_of}
use Rattle.stream_spec.specs.Numbering.{Numbered, numbered, number_after, first_number, has_number, is_given_up, in_time, used}
use Rattle.stream_spec.specs.Ready.{ready_of}
use Rattle.reorder_buffer.specs.declared.answers.Due.{Due}
use Rattle.reorder_buffer.specs.declared.answers.Taken.{Taken}
use Rattle.reorder_buffer.specs.declared.answers.Taken.TheVariants.{Before, Old, Repeat, Ready, Held}

-- a packet with its number and the moment at which it is ready
pub record Given : Type 0 where
  pub number : ℕ
  pub ready : ℕ
  pub packet : Packet

abbrev pub given_of : Due → TextPacket → Given
given_of d p = record { number = d.number; ready = d.ready; packet = packet_of p }

abbrev pub given_packet : ℕ → ℕ → Packet → Given
given_packet number ready p = record { number = number; ready = ready; packet = p }

-- `past`: the arrivals, newest first; `moment`: the greatest moment handed in; `given`: what was given out, in order
pub record Story : Type 0 where
  pub wait : ℕ
  pub past : List Arrival
  pub moment : ℕ
  pub given : List Given

-- nothing came yet
abbrev pub begun : ℕ → Story
begun wait = record { wait = wait; past = []; moment = 0; given = [] }

-- time goes on
abbrev pub went : Story → ℕ → Story
went story now = record story { moment = max story.moment now }

-- a packet comes at the greatest moment so far
abbrev pub arrived : Story → Packet → Story
arrived story p = record story { past = record { time = story.moment; packet = p } ∷ story.past }

-- a packet comes at `now`, or at the greatest moment before, where that is later
abbrev pub came : Story → ℕ → Packet → Story
came story now p = arrived (went story now) p

-- the end: `wait` after the greatest moment
abbrev pub ended : Story → Story
ended story = record story { moment = story.moment + story.wait }

-- one more packet is given
abbrev pub gave : Story → Given → Story
gave story g = record story { given = story.given ++ g ∷ [] }

abbrev pub due_at : ℕ → List Numbered → Numbered → Given
due_at wait past u = record { number = u.number; ready = ready_of wait past u; packet = u.packet }

-- the used packets in rising number, each with its ready time
abbrev pub dues_of : ℕ → List Numbered → List Given
dues_of wait past = map (due_at wait past) (used wait past)

abbrev pub dues : Story → List Given
dues story = dues_of story.wait (numbered story.past)

abbrev pub is_due : ℕ → Given → Bool
is_due t g = nat_le g.ready t

-- those of them that are ready by the greatest moment
abbrev pub ready_dues : Story → List Given
ready_dues story = filter (is_due story.moment) (dues story)

-- each of the k numbers from low on has come in time or is given up by t
abbrev pub all_settled : ℕ → List Numbered → ℕ → ℕ → ℕ → Bool
all_settled wait past t low zero = true
all_settled wait past t low (suc k) = all_settled wait past t low k && (has_number (used wait past) (low + k) || is_given_up wait past t (low + k))

-- so has each number from the first up to n
abbrev pub is_settled : ℕ → List Numbered → ℕ → ℕ → Bool
is_settled wait past t n = all_settled wait past t (first_number n past) (suc n - first_number n past)

-- what becomes of the arrival e after these
abbrev pub taken_as : ℕ → List Numbered → Numbered → Taken
taken_as wait past e =
    if nat_lt e.number (first_number e.number past) then Before
    else if is_settled wait past e.time e.number then Old
    else if has_number (used wait past) e.number then Repeat
    else if is_settled wait (e ∷ past) e.time e.number then Ready
    else Held

-- a packet that comes at the greatest moment so far, with its number
abbrev pub arriving : Story → Packet → Numbered
arriving story p = record { time = story.moment; number = number_after (numbered story.past) p.seq; packet = p }

abbrev pub answer : Story → ℕ → Packet → Taken
answer story now p = taken_as story.wait (numbered story.past) (arriving (went story now) p)

abbrev pub is_in_time : Story → ℕ → Packet → Bool
is_in_time story now p = in_time story.wait (arriving (went story now) p) (numbered story.past)

-- whether a packet that is so taken is used
abbrev pub is_used : Taken → Bool
is_used Before = false
is_used Old = false
is_used Repeat = false
is_used Ready = true
is_used Held = true
