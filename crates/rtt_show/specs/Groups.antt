-- The packets of a recording, grouped by what they name: their stream, or their pair.
use Rattle.std.specs.Prelude.{All, ◌≡◌, ℕ, ◌<◌, Option, Some, List, [], ◌∷◌, ◌++◌, length, map, slice_index_or, slice_set, flat_map}
use Rattle.std.specs.List.{AllByRecursion}
use Rattle.wire_spec.specs.Dump.{Item, record_written, sent_item}
use Rattle.rtpdump_io.specs.InMemory.{IsRecord}
use Rattle.command_spec.specs.Firsts.{Firsts}
use Rattle.command_spec.specs.Streams.{Sort, sort_of, named, naming}
use Rattle.rtt_show.specs.declared.groups.Group.{Group}
use Rattle.rtt_show.specs.declared.groups.Groups.{Groups}

-- a group of one packet
abbrev pub one_group : ℕ → ℕ × List ℕ → Group
one_group name r = record { name = name; records = record_written r }

-- a group of one packet more
abbrev pub Begins : ℕ → ℕ × List ℕ → List Group → List Group → Type 0
Begins name r old new = new ≡ old ++ one_group name r ∷ []

-- a group with a packet more
abbrev pub with_record : Group → ℕ × List ℕ → Group
with_record group r = record { name = group.name; records = group.records ++ record_written r }

-- the group at this place has a packet more
pub record AddedAt (place : ℕ) (r : ℕ × List ℕ) (old new : List Group) : Type 0 where
  pub group : Group
  pub there : slice_index_or old place group ≡ group
  pub is : new ≡ slice_set old place (with_record group r)

-- the group has the packets of these records that name what it is named
pub record GroupHolds (of : Sort → Option ℕ) (items : List Item) (group : Group) : Type 0 where
  pub records : List (ℕ × List ℕ)
  pub is : group.records ≡ flat_map record_written records
  pub each : AllByRecursion IsRecord records
  pub are : map sent_item records ≡ naming of group.name items

abbrev pub firsts_in : Groups → Firsts
firsts_in g = record { kept = map (λ group. group.name) g.groups.items; others = g.others }

-- the packets of these records are grouped by what they name, a number below the limit
pub record Grouped (of : Sort → Option ℕ) (limit : ℕ) (g : Groups) (items : List Item) : Type 0 where
  pub firsts : firsts_in g ≡ named of items
  pub below : All (λ name. name < limit) (firsts_in g).kept
  pub each : (k : ℕ) (d : Group) → k < length g.groups.items → GroupHolds of items (slice_index_or g.groups.items k d)

-- a record came besides that names this
abbrev pub GroupsMore : Groups → ℕ → ℕ × List ℕ → Groups → Type 0
GroupsMore old name r new =
    (of : Sort → Option ℕ) (limit : ℕ) (items : List Item)
    → IsRecord r → name < limit → of (sort_of (sent_item r)) ≡ Some name
    → Grouped of limit old items → Grouped of limit new (items ++ sent_item r ∷ [])
