-- What was found in the records of a recording.
use Rattle.std.specs.Prelude.{◌≡◌, ℕ, ◌+◌, ◌≤◌, ◌^◌, Bool, List, [], ◌∷◌, ◌++◌, if◌then◌else◌}
use Rattle.wire_spec.specs.Dump.{Item}
use Rattle.rtpdump_io.specs.declared.items.DumpItem.{DumpItem}
use Rattle.rtpdump_io.specs.declared.items.DumpItem.TheVariants as items
use Rattle.command_spec.specs.Streams.{Sort, is_same_sort, stream_of, pair_of}
use Rattle.command_spec.specs.Streams as sorts
use Rattle.command_spec.specs.Showing.{how_many}
use Rattle.rtt_show.specs.declared.findings.Findings.{Findings}
use Rattle.rtt_show.specs.declared.findings.OtherRecord.{OtherRecord}
use Rattle.rtt_show.specs.declared.findings.OtherRecord.TheVariants.{Rtcp, Cut, Large, NoRtp}
use Rattle.rtt_show.specs.Groups.{Grouped}

-- this was found in the records: an SSRC has 32 bits, and a payload type seven
pub record IsFound (f : Findings) (items : List Item) : Type 0 where
  pub streams : Grouped (stream_of f.payload_types) (2 ^ 32) f.streams items
  pub pairs : Grouped (pair_of f.payload_types) (2 ^ 39) f.pairs items
  pub rtcp : f.rtcp ≡ how_many sorts.Rtcp items
  pub cut : f.cut ≡ how_many sorts.Cut items
  pub large : f.large ≡ how_many sorts.Large items
  pub no_rtp : f.no_rtp ≡ how_many sorts.NoRtp items

-- no count is greater
pub record IsSmall (n : ℕ) (f : Findings) : Type 0 where
  pub streams : f.streams.others ≤ n
  pub pairs : f.pairs.others ≤ n
  pub rtcp : f.rtcp ≤ n
  pub cut : f.cut ≤ n
  pub large : f.large ≤ n
  pub no_rtp : f.no_rtp ≤ n

-- a record more
abbrev pub FindsMore : Findings → Item → Findings → Type 0
FindsMore old item new = (items : List Item) → IsFound old items → IsFound new (items ++ item ∷ [])

-- a record that holds no whole packet
abbrev pub IsNoPacket : DumpItem → Type 0
IsNoPacket item = (at : ℕ) → item ≡ items.Packet at → ⊥

abbrev pub unread_sort : OtherRecord → Sort
unread_sort Rtcp = sorts.Rtcp
unread_sort Cut = sorts.Cut
unread_sort Large = sorts.Large
unread_sort NoRtp = sorts.NoRtp

abbrev pub one_if : Bool → ℕ
one_if b = if b then 1 else 0

-- one of these is counted
pub record Tallies (old : Findings) (unread : OtherRecord) (new : Findings) : Type 0 where
  pub payload_types : new.payload_types ≡ old.payload_types
  pub streams : new.streams ≡ old.streams
  pub pairs : new.pairs ≡ old.pairs
  pub rtcp : new.rtcp ≡ old.rtcp + one_if (is_same_sort sorts.Rtcp (unread_sort unread))
  pub cut : new.cut ≡ old.cut + one_if (is_same_sort sorts.Cut (unread_sort unread))
  pub large : new.large ≡ old.large + one_if (is_same_sort sorts.Large (unread_sort unread))
  pub no_rtp : new.no_rtp ≡ old.no_rtp + one_if (is_same_sort sorts.NoRtp (unread_sort unread))
