-- What a buffer holds, and how it changes (profile).
use Rattle.std.specs.Prelude.{◌≡◌, ℕ, ◌+◌, ◌-◌, ◌*◌, ◌<◌, ◌≤◌, ◌==◌, Bool, true, false, List, [], ◌∷◌, ◌++◌, length, Option, None, Some, nat_lt, nat_le, if◌then◌else◌, min, max, insert, drop, get_or}
use Rattle.rtt_base.specs.declared.text_packets.TextPacket.{TextPacket}
use Rattle.wire_spec.specs.Packets.{packet_of}
use Rattle.stream_spec.specs.Numbering.{Numbered, has_number}
use Rattle.reorder_buffer.specs.Pools.{no_packet}
use Rattle.reorder_buffer.specs.Stories.{Given, given_of}
use Rattle.reorder_buffer.specs.declared.answers.Due.{Due}
use Rattle.reorder_buffer.specs.declared.answers.Taken.{Taken}
use Rattle.reorder_buffer.specs.declared.answers.Taken.TheVariants.{Before, Old, Repeat, Ready, Held}
use Rattle.rtt_base.specs.declared.limits.TheConstants.{MOST_HELD}

-- `first`: the first arrival's number; `top`: the greatest number; below `front` each number has come or is given up, the last of them at `latest`;
-- `current`: the packet that is read, or was given last
pub record State : Type 0 where
  pub wait : ℕ
  pub moment : ℕ
  pub arrivals : ℕ
  pub finished : Bool
  pub first : ℕ
  pub top : ℕ
  pub front : ℕ
  pub latest : ℕ
  pub settled : List Given
  pub held : List Numbered
  pub packets : List TextPacket
  pub current : TextPacket

abbrev pub fresh : ℕ → State
fresh wait = record { wait = wait; moment = 0; arrivals = 0; finished = false; first = 0; top = 0; front = 0; latest = 0; settled = []; held = []; packets = []; current = no_packet }

abbrev pub has_some : {X : Type 0} → List X → Bool
has_some [] = false
has_some (x ∷ xs) = true

-- whether a held packet is settled
abbrev pub has_ready : State → Bool
has_ready s = has_some s.settled

abbrev pub arrival_count : State → ℕ
arrival_count s = s.arrivals

abbrev pub is_finished : State → Bool
is_finished s = s.finished

-- the packets inside, as they came: those that are settled, and those that are held
abbrev pub packets_in : State → List TextPacket
packets_in s = s.packets

abbrev pub current_of : State → TextPacket
current_of s = s.current

-- another packet is current
abbrev pub with_packet : State → TextPacket → State
with_packet s q = record s { current = q }

abbrev pub passed : State → ℕ → State
passed s now = record s { moment = max s.moment now }

-- the least of t and the times of these
abbrev pub oldest_from : ℕ → List Numbered → ℕ
oldest_from t [] = t
oldest_from t (x ∷ xs) = oldest_from (min t x.time) xs

abbrev pub when_by : ℕ → ℕ → Option ℕ
when_by t m = if nat_le m t then Some m else None

-- when a number below all of these was given up, if it is by now
abbrev pub given_up_at : ℕ → ℕ → List Numbered → Option ℕ
given_up_at wait t held = if nat_lt MOST_HELD (length held) then Some t else when_by t (oldest_from t held + wait)

abbrev pub latest_after : ℕ → ℕ → Option ℕ → Option ℕ
latest_after latest time None = None
latest_after latest time (Some end) = Some (max (max latest end) time)

-- the latest end, once the first of these is settled, if it can be
abbrev pub latest_from : ℕ → ℕ → ℕ → ℕ → List Numbered → Option ℕ
latest_from wait t front latest [] = None
latest_from wait t front latest (x ∷ xs) = if x.number == front then Some (max latest x.time) else latest_after latest x.time (given_up_at wait t (x ∷ xs))

abbrev pub next_latest : State → Option ℕ
next_latest s = latest_from s.wait s.moment s.front s.latest s.held

abbrev pub settled_over : State → ℕ → List Numbered → State
settled_over s latest [] = s
settled_over s latest (x ∷ xs) = record s { front = x.number + 1; latest = latest; settled = s.settled ++ record { number = x.number; ready = latest; packet = x.packet } ∷ []; held = xs }

-- the first that is held is settled
abbrev pub settled_first : State → ℕ → State
settled_first s latest = settled_over s latest s.held

-- an arrival is counted
abbrev pub counted : State → ℕ → State
counted s n = record s { arrivals = s.arrivals + 1; first = if s.arrivals == 0 then n else s.first; front = if s.arrivals == 0 then n else s.front; top = max s.top n }

-- a packet that comes now, with this number
abbrev pub coming : State → ℕ → Numbered
coming s n = record { time = s.moment; number = n; packet = packet_of s.current }

-- e is held, which the program has as q
abbrev pub put_at : State → ℕ → Numbered → TextPacket → State
put_at s place e q = record s { held = insert s.held place e; packets = insert s.packets (length s.settled + place) q }

-- the current packet is held, with this number
abbrev pub put_current : State → ℕ → ℕ → State
put_current s place n = put_at s place (coming s n) s.current

-- the current packet, which is the next one where none is held, is settled
abbrev pub settled_at_once : State → ℕ → State
settled_at_once s n = settled_first (put_current s 0 n) (max s.latest s.moment)

-- A packet with the number n would be given as soon as it comes: nothing is settled or held, it is the next one, and
-- the first of the stream came.
pub record IsNext (s : State) (n : ℕ) : Type 0 where
  pub begun : 0 < s.arrivals
  pub none_settled : s.settled ≡ []
  pub none_held : s.held ≡ []
  pub front_is : n ≡ s.front
  pub small : n ≤ 196608 + 65536 * s.arrivals

-- when such a packet is ready, which comes now
abbrev pub ready_at_once : State → ℕ → ℕ
ready_at_once s now = max s.latest (max s.moment now)

-- such a packet comes now and is given at once
abbrev pub given_at_once : State → ℕ → ℕ → State
given_at_once s now n = record s { moment = max s.moment now; arrivals = s.arrivals + 1; top = max s.top n; front = n + 1; latest = ready_at_once s now }

-- what is given: the first that is settled, which is current then
abbrev pub GivesFirst : State → State → Due → Type 0
GivesFirst old new due = (old.settled ≡ given_of due new.current ∷ new.settled) × (new ≡ record old { settled = new.settled; packets = new.packets; current = new.current })

-- why a packet with this number is not held
abbrev pub PacketIsRefused : State → ℕ → Taken → Type 0
PacketIsRefused s n Before = n < s.first
PacketIsRefused s n Old = (s.first ≤ n) × (n < s.front)
PacketIsRefused s n Repeat = (s.first ≤ n) × (s.front ≤ n) × (has_number s.held n ≡ true)
PacketIsRefused s n Ready = ⊥
PacketIsRefused s n Held = ⊥

abbrev pub AllAbove : ℕ → List Numbered → Type 0
AllAbove n [] = Unit {0}
AllAbove n (x ∷ xs) = (n < x.number) × AllAbove n xs

-- where a number that is not among these belongs
pub record IsPlace (n : ℕ) (held : List Numbered) (place : ℕ) : Type 0 where
  pub within : place ≤ length held
  pub above : AllAbove n (drop place held)
  pub behind : (d : Numbered) → 0 < place → (get_or held (place - 1) d).number < n
