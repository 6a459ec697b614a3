-- What comes later of a recording stands before what came, and came no earlier.
use Rattle.std.proofs.Common.{◌≡◌, ℕ, ◌≤◌, inl, inr, Some, List, [], ◌∷◌, ◌++◌, refl, ap, arith}
use Rattle.std.specs.Prelude.{Result, Ok, Err, max}
use Rattle.rtt_base.specs.declared.text_packets.PayloadTypes.{PayloadTypes}
use Rattle.wire_spec.specs.declared.faults.TextFault.{TextFault}
use Rattle.wire_spec.specs.Packets.{Packet, Arrival}
use Rattle.wire_spec.specs.Text.{text_within}
use Rattle.wire_spec.specs.Dump.{Item, What, latest, arrived, arrivals_within, with_arrival}
use Rattle.wire_spec.specs.Dump as recording
use Rattle.stream_spec.specs.Fronts.{AreFrom}

-- `all` are these arrivals, and others that came at t or later
pub record Later (t : ℕ) (came all : List Arrival) : Type 0 where
  pub more : List Arrival
  pub is : all ≡ more ++ came
  pub times : AreFrom t more
  pub now : t ≤ latest all

arrived_later : (t time : ℕ) (r : Result Packet TextFault) (came all : List Arrival) → Later t came all → Later t came (arrived time r all)
arrived_later t time (Err f) came all l = l
arrived_later t time (Ok p) came all l = let n = l.now in record {
  more = record { time = max time (latest all); packet = p } ∷ l.more;
  is = ap (λ (rest : List Arrival). record { time = max time (latest all); packet = p } ∷ rest) l.is;
  times = λ a i. elim i [ inl e ↦ let q = ap (λ (x : Arrival). x.time) e in omega arith | inr j ↦ l.times a j ];
  now = omega arith;
}

with_later : (t most ssrc : ℕ) (payload_types : PayloadTypes) (item : Item) (came all : List Arrival) → Later t came all → Later t came (with_arrival most ssrc payload_types item all)
with_later t most ssrc payload_types item came all l = go item.what
  where
    go : (w : What) → Later t came (elim w [ recording.Whole octets ↦ arrived item.time (text_within most octets (Some ssrc) payload_types) all | recording.Rtcp ↦ all | recording.Cut ↦ all | recording.Large ↦ all ])
    go (recording.Whole octets) = arrived_later t item.time (text_within most octets (Some ssrc) payload_types) came all l
    go recording.Rtcp = l
    go recording.Cut = l
    go recording.Large = l

after_later : (t most ssrc : ℕ) (payload_types : PayloadTypes) (items : List Item) (came all : List Arrival) → Later t came all → Later t came (arrivals_within most ssrc payload_types all items)
after_later t most ssrc payload_types [] came all l = l
after_later t most ssrc payload_types (item ∷ items) came all l = after_later t most ssrc payload_types items came (with_arrival most ssrc payload_types item all) (with_later t most ssrc payload_types item came all l)

pub all_later : (most ssrc : ℕ) (payload_types : PayloadTypes) (items : List Item) (came : List Arrival) → Later (latest came) came (arrivals_within most ssrc payload_types came items)
all_later most ssrc payload_types items came = after_later (latest came) most ssrc payload_types items came came (record { more = []; is = refl; times = λ a i. absurd i; now = omega arith })
