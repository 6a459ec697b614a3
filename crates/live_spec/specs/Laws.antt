-- What holds of the recordings of a call.
use Rattle.std.specs.Prelude.{◌≡◌, ℕ, ◌+◌, ◌-◌, ◌*◌, ◌^◌, ◌<◌, ◌≤◌, ◌==◌, false, None, Some, List, [], ◌∷◌, length, map, flat_map, reverse, take, if◌then◌else◌}
use Rattle.std.specs.List.{AllByRecursion}
use Rattle.rtt_base.specs.declared.limits.TheConstants.{MOST_PACKET_OCTETS, MOST_TEXT_OCTETS}
use Rattle.wire_spec.specs.declared.limits.TheConstants.{LAST_RECORD_MOMENT, MOST_RECORDING_OCTETS}
use Rattle.wire_spec.specs.Dump.{What, Whole, Rtcp, Item, arrivals, dump, usual_limit}
use Rattle.stream_spec.specs.Ready.{chunks}
use Rattle.stream_spec.specs.Still.{still}
use Rattle.command_spec.specs.Streams.{AreGiven}
use Rattle.report_spec.specs.Times.{start_of}
use Rattle.mixer_spec.specs.Pieces.{chunks_cut, pieces}
use Rattle.stream_spec.specs.Links.{Takes}
use Rattle.live_spec.specs.Told.{Hearing, told_by, all_by}
use Rattle.live_spec.specs.Recorded.{Entry, Part, packet_size, part_written, all_parts, recorded}
use Rattle.live_spec.specs.Came.{datagrams, parts_arrivals}

-- at most as many octets as a packet has
abbrev pub IsShort : Entry → Type 0
IsShort e = length e.octets ≤ MOST_PACKET_OCTETS

-- ---- files

-- what is read of an entry: octets of RTCP are not handed out as a packet, nor are no octets
abbrev pub what_is : List ℕ → What
what_is octets = if packet_size octets == 0 then Rtcp else Whole octets

abbrev pub item_in : ℕ → Entry → Item
item_in begins e = record { time = e.at - begins; what = what_is e.octets }

abbrev pub IsEarly : ℕ → Entry → Type 0
IsEarly begins e = e.at - begins ≤ LAST_RECORD_MOMENT

-- Its octets are a recording that is read to its end, and that begins at its moment, where 32 bits hold the seconds since 1970.
pub record IsWhole (start : ℕ) (p : Part) : Type 0 where
  pub small : length (part_written start p) ≤ MOST_RECORDING_OCTETS
  pub early : AllByRecursion (IsEarly p.begins) p.entries
  pub read : dump usual_limit (part_written start p) ≡ record { items = map (item_in p.begins) p.entries; fault = None }
  pub begins_at : start + p.begins < 1000 * 2 ^ 32 → start_of (part_written start p) ≡ Some (start + p.begins)

abbrev pub FilesAreWhole : Type 0
FilesAreWhole =
    (start : ℕ) (past : List Entry)
    → AllByRecursion IsShort past
    → AllByRecursion (IsWhole start) (all_parts (recorded start past))

abbrev pub NothingIsLost : Type 0
NothingIsLost =
    (start : ℕ) (past : List Entry)
    → flat_map (λ (p : Part). p.entries) (all_parts (recorded start past)) ≡ reverse past

-- Where n octets of the file are there, what is read of them are the first so many of what stands in it.
pub record IsReadTo (start n : ℕ) (p : Part) : Type 0 where
  pub many : ℕ
  pub read : (dump usual_limit (take n (part_written start p))).items ≡ map (item_in p.begins) (take many p.entries)
  -- each record that is there whole is among them
  pub all : (k : ℕ) → k ≤ length p.entries
      → length (part_written start (record { begins = p.begins; entries = take k p.entries })) ≤ n → k ≤ many

abbrev pub FrontsAreRead : Type 0
FrontsAreRead =
    (start n : ℕ) (past : List Entry)
    → AllByRecursion IsShort past
    → 44 ≤ n
    → AllByRecursion (IsReadTo start n) (all_parts (recorded start past))

-- ---- what is heard

-- the moment of the last take
abbrev pub latest_take : Takes → ℕ
latest_take [] = 0
latest_take (a ∷ past) = a.at

-- moments of takes never fall
abbrev pub NeverFall : Takes → Type 0
NeverFall [] = Unit {0}
NeverFall (a ∷ past) = (latest_take past ≤ a.at) × NeverFall past

-- Takes as a link gives them, at which a leg is heard that has payload types of text, is not followed and has no long texts.
pub record AreTakesFor (h : Hearing) (takes : Takes) : Type 0 where
  pub types : AreGiven h.payload_types
  pub alone : h.follow ≡ false
  pub brief : h.most ≡ MOST_TEXT_OCTETS
  pub short : AllByRecursion IsShort (datagrams takes)
  pub rise : NeverFall takes

abbrev pub FilesAreHeard : Type 0
FilesAreHeard =
    (start : ℕ) (h : Hearing) (takes : Takes)
    → AreTakesFor h takes
    → parts_arrivals start h.ssrc h.payload_types (recorded start (datagrams takes)) ≡ (told_by h takes).past

-- the octets of the only file, or of the last one
abbrev pub last_file : ℕ → Takes → List ℕ
last_file start takes = part_written start (recorded start (datagrams takes)).last

abbrev pub RecordedIsHeard : Type 0
RecordedIsHeard =
    (start : ℕ) (h : Hearing) (takes : Takes)
    → AreTakesFor h takes
    → (recorded start (datagrams takes)).over ≡ []
    → chunks_cut (pieces h.piece) (chunks h.wait h.leg (still (arrivals (last_file start takes) h.ssrc h.payload_types)) h.ssrc)
    ≡ all_by h takes
