-- What a hold stands for.
use Rattle.std.specs.Prelude.{◌≡◌, ℕ, suc, ◌+◌, ◌*◌, ◌^◌, ◌<◌, ◌≤◌, Bool, List, ◌∷◌, ◌++◌, length, map, nat_lt}
use Rattle.reorder_buffer.specs.Pools.{packet_at, current_packet, times, one_if}
use Rattle.reorder_buffer.specs.States.{State}
use Rattle.reorder_buffer.specs.Views.{numbered_in, settled_in, places_of, AreSmall}
use Rattle.reorder_buffer.specs.declared.holds.Hold.TheInside.{Inside}
use Rattle.rtt_base.specs.declared.limits.TheConstants.{END_OF_MOMENTS, LONGEST_WAIT, MOST_ARRIVALS}

abbrev pub state_of : Inside → State
state_of h =
    record { wait = h.wait; moment = h.moment; arrivals = h.arrivals; finished = h.finished; first = h.first; top = h.top; front = h.front; latest = h.latest; settled = map (settled_in h.pool.packets) h.settled; held = map (numbered_in h.pool.packets) h.held; packets = map (packet_at h.pool.packets) (places_of h.settled h.held); current = current_packet h.pool }

-- all places that are named: the current one, those of what is settled or held, and the spare ones
abbrev pub named_places : Inside → List ℕ
named_places h = h.pool.current ∷ (places_of h.settled h.held ++ h.pool.spare)

-- each place is named once
abbrev pub AreApart : Inside → Type 0
AreApart h = (place : ℕ) → times place (named_places h) ≡ one_if (nat_lt place (length h.pool.packets))

pub record HoldIsSound (h : Inside) : Type 0 where
  pub apart : AreApart h
  pub all : suc (length h.settled + length h.held + length h.pool.spare) ≡ length h.pool.packets
  pub room : length h.settled + length h.held ≤ 65
  pub few : length h.pool.packets ≤ 66
  pub wait : h.wait ≤ LONGEST_WAIT
  pub moment : h.moment < 2 ^ 49
  pub early : h.finished ≡ Bool.false → h.moment < END_OF_MOMENTS
  pub arrivals : h.arrivals ≤ MOST_ARRIVALS
  pub top : h.top ≤ 131072 + 65536 * h.arrivals
  pub small : AreSmall h.held
  pub begun : h.arrivals ≡ 0 → length h.held ≡ 0
