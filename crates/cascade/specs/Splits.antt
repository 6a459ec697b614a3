-- What a recording was split into.
use Rattle.std.specs.Prelude.{◌≡◌, ℕ, List, [], map}
use Rattle.wire_spec.specs.Packets.{Arrival}
use Rattle.wire_spec.specs.Dump.{Item, Recording, arrivals_after, arrivals_with}
use Rattle.rtpdump_io.specs.Calls.{SomeCame}
use Rattle.command_spec.specs.Splitting.{Trunk, split}
use Rattle.cascade.specs.declared.dividers.Demux.{Demux}
use Rattle.cascade.specs.declared.splits.Splits.{Splits}
use Rattle.cascade.specs.declared.splits.DemuxSettings.{DemuxSettings}
use Rattle.cascade.specs.Dividers.{Listens}

-- the octets of each recording
abbrev pub recordings_of : Splits → List (List ℕ)
recordings_of s = map (λ x. x.octets) s.splitters.items

-- how the recording is read that is split
abbrev pub trunk_of : ℕ → DemuxSettings → Trunk
trunk_of ssrc c = record { ssrc = ssrc; payload_types = c.payload_types; wait = c.wait; limit = c.limit }

-- this record came
abbrev pub TakesItem : Demux → Demux → Item → Type 0
TakesItem old new item =
    (t : Trunk) (sources : List ℕ) (past : List Arrival) → Listens old t sources past
    → Listens new t sources (arrivals_with t.ssrc t.payload_types item past)

-- these records came, oldest first
abbrev pub TakesItems : Demux → Demux → List Item → Type 0
TakesItems old new items =
    (t : Trunk) (sources : List ℕ) (past : List Arrival) → Listens old t sources past
    → Listens new t sources (arrivals_after t.ssrc t.payload_types past items)

-- some records came; those of this recording, which has no fault, where this tells it
abbrev pub HearsAll : Type 0 → Recording → Demux → Demux → Type 0
HearsAll tells recording before after = SomeCame tells recording (TakesItems before after)

-- the recordings of these sources out of these records
abbrev pub SplitsAs : Trunk → List ℕ → Recording → Splits → Type 0
SplitsAs t sources recording s = recordings_of s ≡ map (split t.payload_types t.wait (arrivals_after t.ssrc t.payload_types [] recording.items)) sources
