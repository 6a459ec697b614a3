-- The records of a recording with the octets of those of RTCP (profile): what stands behind such a record's head, where it is at most 4224 octets.
use Rattle.std.specs.Prelude.{ℕ, zero, suc, List, [], ◌∷◌, length, take, drop, Result, Ok, Err, nat_lt, if◌then◌else◌}
use Rattle.rtt_base.specs.declared.limits.TheConstants.{MOST_PACKET_OCTETS}
use Rattle.wire_spec.specs.Dump.{Item, What, Whole, Rtcp, Cut, Large, Place, Fault, Step, End, Broken, Next, size_of, opening, dump_step}

-- a record, and its octets where it is one of RTCP
pub record Entry : Type 0 where
  pub item : Item
  pub octets : List ℕ

-- what stands behind the head of the record in front
abbrev pub body_of : List ℕ → List ℕ
body_of rest = drop 8 (take (size_of rest) rest)

abbrev pub at_most_4224 : List ℕ → List ℕ
at_most_4224 octets = if nat_lt MOST_PACKET_OCTETS (length octets) then [] else octets

abbrev pub octets_of : What → List ℕ → List ℕ
octets_of (Whole packet) body = []
octets_of Rtcp body = at_most_4224 body
octets_of Cut body = []
octets_of Large body = []

-- one step and what comes of the rest
abbrev pub entries_by : (Place → List Entry) → List ℕ → Step → List Entry
entries_by more rest End = []
entries_by more rest (Broken fault) = []
entries_by more rest (Next item place) = record { item = item; octets = octets_of item.what (body_of rest) } ∷ more place

-- in at most so many steps
unfoldable pub entries_within : ℕ → ℕ → Place → List Entry
entries_within zero limit p = []
entries_within (suc fuel) limit p = entries_by (entries_within fuel limit) p.rest (dump_step limit p)

-- what is still to come at a place: each record has eight octets, so as many steps as octets are enough
unfoldable pub entries_at : ℕ → Place → List Entry
entries_at limit p = entries_within (length p.rest) limit p

abbrev pub entries_from : ℕ → Result Place Fault → List Entry
entries_from limit (Err fault) = []
entries_from limit (Ok place) = entries_at limit place

-- the records of a recording of at most so many octets, oldest first, up to its end or its fault
unfoldable pub entries : ℕ → List ℕ → List Entry
entries limit octets = entries_from limit (opening octets)
