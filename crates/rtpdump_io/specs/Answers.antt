-- The records that the answers of a reader stand for.
use Rattle.std.specs.Prelude.{ℕ, Bool, true, false, List}
use Rattle.wire_spec.specs.Dump.{Item, Whole}
use Rattle.wire_spec.specs.Dump as dumps
use Rattle.rtpdump_io.specs.declared.items.DumpItem.{DumpItem}
use Rattle.rtpdump_io.specs.declared.items.DumpItem.TheVariants.{Packet, Rtcp, Cut, Large, End}

-- the record that an answer stands for, whose octets are handed out beside it
abbrev pub record_of : DumpItem → List ℕ → Item
record_of (Packet at) octets = record { time = at; what = Whole octets }
record_of (Rtcp at) octets = record { time = at; what = dumps.Rtcp }
record_of (Cut at) octets = record { time = at; what = dumps.Cut }
record_of (Large at) octets = record { time = at; what = dumps.Large }
record_of End octets = record { time = 0; what = dumps.Rtcp }

-- the end of a recording
abbrev pub is_end : DumpItem → Bool
is_end End = true
is_end (Packet at) = false
is_end (Rtcp at) = false
is_end (Cut at) = false
is_end (Large at) = false
