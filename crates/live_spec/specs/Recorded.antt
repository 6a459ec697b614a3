-- The recordings that a call writes as it runs (profile; the file form of rtpdump). Moments are in milliseconds, by the clock of
-- the links. `start` is the wall clock at its moment 0, in milliseconds since 1970.
use Rattle.std.specs.Prelude.{ℕ, ◌+◌, ◌-◌, ◌*◌, ◌/◌, ◌%◌, ◌&&◌, Bool, List, [], ◌∷◌, ◌++◌, length, flat_map, codes, decimal, nat_le, if◌then◌else◌}
use Rattle.std.specs.Int.{w16, w32, to_be_bytes}
use Rattle.wire_spec.specs.declared.limits.TheConstants.{LAST_RECORD_MOMENT, MOST_RECORDING_OCTETS}
use Rattle.command_spec.specs.Streams.{is_rtcp}

-- octets that came, or were given, and the moment
pub record Entry : Type 0 where
  pub at : ℕ
  pub octets : List ℕ

-- ---- the octets of a file

-- the line and the head of a recording from 127.0.0.1, port 5004, that begins so many milliseconds after the begin of 1970
abbrev pub head_written : ℕ → List ℕ
head_written t =
    codes "#!rtpplay1.0 127.0.0.1/5004" ++ (10 ∷ (to_be_bytes w32 (t / 1000) ++ (to_be_bytes w32 (t % 1000 * 1000) ++ (127 ∷ 0 ∷ 0 ∷ 1 ∷ (to_be_bytes w16 5004 ++ to_be_bytes w16 0)))))

-- the size that a record has for its packet: 0 says that it is one of RTCP
abbrev pub packet_size : List ℕ → ℕ
packet_size octets = if is_rtcp octets then 0 else length octets

-- octets that come at the moment t of their file
abbrev pub entry_written : ℕ → List ℕ → List ℕ
entry_written t octets = to_be_bytes w16 (length octets + 8) ++ (to_be_bytes w16 (packet_size octets) ++ (to_be_bytes w32 t ++ octets))

-- a file: the moment at which it begins, and what stands in it, oldest first
pub record Part : Type 0 where
  pub begins : ℕ
  pub entries : List Entry

-- moments in a file count from where it begins
abbrev pub record_in : ℕ → Entry → List ℕ
record_in begins e = entry_written (e.at - begins) e.octets

abbrev pub part_written : ℕ → Part → List ℕ
part_written start p = head_written (start + p.begins) ++ flat_map (record_in p.begins) p.entries

-- ---- one file behind the other

-- a record more fits into the file, and its moment is not behind the last one of a recording
abbrev pub has_room : ℕ → Part → Entry → Bool
has_room start p e =
    nat_le (length (part_written start p) + (8 + length e.octets)) MOST_RECORDING_OCTETS && nat_le (e.at - p.begins) LAST_RECORD_MOMENT

-- the files that are over, oldest first, and the last one
pub record Parts : Type 0 where
  pub over : List Part
  pub last : Part

abbrev pub all_parts : Parts → List Part
all_parts ps = ps.over ++ ps.last ∷ []

abbrev pub with_entry : Part → Entry → Part
with_entry p e = record { begins = p.begins; entries = p.entries ++ e ∷ [] }

abbrev pub begun_with : Entry → Part
begun_with e = record { begins = e.at; entries = e ∷ [] }

-- one entry more: in the last file, or where that has no room in the next one, which begins with it
abbrev pub noted : ℕ → Parts → Entry → Parts
noted start ps e =
    if has_room start ps.last e then record { over = ps.over; last = with_entry ps.last e }
    else record { over = ps.over ++ ps.last ∷ []; last = begun_with e }

-- the first file begins at moment 0
abbrev pub nothing_noted : Parts
nothing_noted = record { over = []; last = record { begins = 0; entries = [] } }

-- the files of these entries, which stand newest first
abbrev pub recorded : ℕ → List Entry → Parts
recorded start [] = nothing_noted
recorded start (e ∷ past) = noted start (recorded start past) e

-- ---- their names

-- `PREFIX.NAME.in.K.rtp` and `PREFIX.NAME.out.K.rtp`, counted from 1
abbrev pub file_name : (prefix name way : List ℕ) → ℕ → List ℕ
file_name prefix name way k = prefix ++ codes "." ++ name ++ way ++ decimal k ++ codes ".rtp"

abbrev pub in_name : (prefix name : List ℕ) → ℕ → List ℕ
in_name prefix name k = file_name prefix name (codes ".in.") k

abbrev pub out_name : (prefix name : List ℕ) → ℕ → List ℕ
out_name prefix name k = file_name prefix name (codes ".out.") k
