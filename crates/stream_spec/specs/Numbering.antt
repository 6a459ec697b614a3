-- Which number each arrival of a stream has, and which arrivals are used (RFC 3550, section 5.1, for sequence
-- numbers; how long a gap is waited for is a profile). Lists of arrivals are newest first, so what stands behind an
-- arrival is what came before it.
use Rattle.std.specs.Prelude.{ℕ, ◌≤◌, suc, ◌+◌, ◌-◌, ◌%◌, ◌==◌, Bool, not, List, [], ◌∷◌, ◌&&◌, ◌||◌, nat_lt, nat_le, if◌then◌else◌, max}
use Rattle.std.specs.List.{list_any}
use Rattle.wire_spec.specs.Packets.{Packet, Arrival}
use Rattle.stream_spec.specs.Lists.{In, put_by, RisingBy}
use Rattle.rtt_base.specs.declared.limits.TheConstants.{MOST_HELD}

-- an arrival with its number
pub record Numbered : Type 0 where
  pub time : ℕ
  pub number : ℕ
  pub packet : Packet

-- The number that is congruent to seq modulo 65536 and nearest to top: it lies 32768 below to 32767 above, so on a
-- tie it is the lower one.
abbrev pub nearest : ℕ → ℕ → ℕ
nearest top seq = (top - 32768) + (seq + 65536 - (top - 32768) % 65536) % 65536

-- how far two numbers lie apart
abbrev pub distance : ℕ → ℕ → ℕ
distance m n = (m - n) + (n - m)

-- the greatest number of all
abbrev pub greatest : List Numbered → ℕ
greatest [] = 0
greatest (e ∷ past) = max (greatest past) e.number

-- the number of an arrival with this sequence number after these
abbrev pub number_after : List Numbered → ℕ → ℕ
number_after [] seq = seq + 65536
number_after (e ∷ past) seq = nearest (greatest (e ∷ past)) seq

abbrev pub number_it : List Numbered → Arrival → Numbered
number_it past a = record { time = a.time; number = number_after past a.packet.seq; packet = a.packet }

abbrev pub numbered : List Arrival → List Numbered
numbered [] = []
numbered (a ∷ before) = number_it (numbered before) a ∷ numbered before

-- the number of the first arrival, or n where there is none
abbrev pub first_number : ℕ → List Numbered → ℕ
first_number n [] = n
first_number n (e ∷ past) = first_number e.number past

abbrev pub has_number : List Numbered → ℕ → Bool
has_number es n = list_any (λ e. e.number == n) es

-- how many different numbers from n on came
abbrev pub distinct_from : ℕ → List Numbered → ℕ
distinct_from n [] = 0
distinct_from n (e ∷ past) = (if nat_le n e.number && not (has_number past e.number) then 1 else 0) + distinct_from n past

-- By the moment t the number n is given up: a greater number came `wait` ago or earlier, or more than MOST_HELD different
-- greater numbers came.
abbrev pub is_given_up : ℕ → List Numbered → ℕ → ℕ → Bool
is_given_up wait past t n = list_any (λ x. nat_lt n x.number && nat_le (x.time + wait) t) past || nat_lt MOST_HELD (distinct_from (suc n) past)

-- e, after these, is in time: it is not below the first number, did not come before, and is not given up
abbrev pub in_time : ℕ → Numbered → List Numbered → Bool
in_time wait e past =
    nat_le (first_number e.number past) e.number && (not (has_number past e.number) && not (is_given_up wait past e.time e.number))

-- e among these, which rise in number
abbrev pub by_number : Numbered → List Numbered → List Numbered
by_number e xs = put_by (λ x. x.number) e xs

-- what came in time, in rising number
abbrev pub used : ℕ → List Numbered → List Numbered
used wait [] = []
used wait (e ∷ past) = if in_time wait e past then by_number e (used wait past) else used wait past

-- strictly rising in number
abbrev pub RisingNumbers : List Numbered → Type 0
RisingNumbers xs = RisingBy (λ x. x.number) xs

-- times never fall
abbrev pub Falling : List Numbered → Type 0
Falling [] = Unit {0}
Falling (e ∷ past) = ((u : Numbered) → In u past → u.time ≤ e.time) × Falling past
