-- What a table of slots stands for: at each terminal what waits of each source, who listens, and what was taken of each
-- source with who was given it. Chunks that wait nowhere any more are kept for a while, or not.
use Rattle.std.specs.Prelude.{◌≡◌, ℕ, Bool, true, false, None, Some, List, [], ◌∷◌, ◌++◌, ◌↔◌, ◌≤◌, IsUtf8, length, map, slice_get, if◌then◌else◌}
use Rattle.stream_spec.specs.Ready.{Chunk}
use Rattle.mixer_spec.specs.Chunks.{joined, octets}
use Rattle.mixer_spec.specs.Setups.{Setup}
use Rattle.mixer_spec.specs.Table.{Taken, Table, chunks_taken, is_given, is_fit, span_with}
use Rattle.mixer_spec.specs.Laws.{AllGiven}
use Rattle.mixer_places.specs.declared.rings.RingPosition.{RingPosition}
use Rattle.mixer_places.specs.declared.parts.Part.{Part}
use Rattle.mixer_places.specs.Rings.{Chunks}
use Rattle.rtt_base.specs.declared.limits.TheConstants.{MOST_TEXT_OCTETS}
use Rattle.mixer_places.specs.Lanes.{Waiting}

-- their octets and lengths
abbrev pub kept_of : List Taken → Chunks
kept_of xs = record { octets = joined (chunks_taken xs); lengths = map (λ x. length x.chunk.text) xs }

-- the place behind these
abbrev pub place_of : List Taken → RingPosition
place_of xs = record { chunks = length xs; octets = octets (chunks_taken xs) }

-- The part of the kept chunks that waits for the terminal j: it was given each of them, and none behind them.
pub record IsPart (j : ℕ) (listens : Bool) (waiting : List Chunk) (kept : List Taken) (p : Part) : Type 0 where
  pub before : List Taken
  pub part : List Taken
  pub behind : List Taken
  pub whole : kept ≡ before ++ (part ++ behind)
  pub waits : chunks_taken part ≡ waiting
  pub all_given : AllGiven true j part
  pub none_behind : AllGiven false j behind
  pub from : p.from ≡ place_of before
  pub to : p.to ≡ (if listens then None else Some (place_of (before ++ part)))
  pub goes_on : listens ≡ true → behind ≡ []

-- Of a source that is heard by the terminals that pass `listens`, these were taken, the last of which are kept; at each
-- terminal these wait.
pub record SlotHolds (w : Waiting) (taken : List Taken) (listens : ℕ → Bool) (waits : ℕ → List Chunk) : Type 0 where
  pub gone : List Taken
  pub kept : List Taken
  pub all : taken ≡ gone ++ kept
  pub chunks : w.chunks ≡ kept_of kept
  pub parts : (j : ℕ) (p : Part) → slice_get w.parts j ≡ Some p → IsPart j (listens j) (waits j) kept p

-- of whatever the lane holds
abbrev pub LaneTells : Waiting → (List Taken → (ℕ → Bool) → (ℕ → List Chunk) → Type 0) → Type 0
LaneTells w P = (taken : List Taken) (listens : ℕ → Bool) (waits : ℕ → List Chunk)
    → SlotHolds w taken listens waits → P taken listens waits

-- a chunk may have this text
pub record FitsChunk (text : List ℕ) : Type 0 where
  pub short : length text ≤ MOST_TEXT_OCTETS
  pub utf8 : IsUtf8 text

-- a chunk with this text comes behind the others, for each terminal that listens
abbrev pub AddsText : List ℕ → Waiting → Waiting → Type 0
AddsText text old new = (taken : List Taken) (listens : ℕ → Bool) (waits : ℕ → List Chunk) (c : Chunk)
    → SlotHolds old taken listens waits → c.text ≡ text
    → SlotHolds new (taken ++ record { chunk = c; given = listens } ∷ []) listens (λ j. if listens j then waits j ++ c ∷ [] else waits j)

-- the source i
pub record SourceStands (s : Setup) (i : ℕ) (w : Waiting) (table : Table) : Type 0 where
  pub terminals : length w.parts ≡ s.legs
  pub holds : SlotHolds w (table.taken i) (is_given table.seats i) (λ j. (table.terminals j).waits i)

-- it is so exactly where the span has room for a chunk with this text
abbrev pub TellsRoom : List ℕ → Waiting → Type 0 → Type 0
TellsRoom text w P = (s : Setup) (i : ℕ) (table : Table) (c : Chunk) → SourceStands s i w table → c.text ≡ text
    → P ↔ (is_fit (span_with s i c table) ≡ true)

-- each source; of the table nothing else counts, and of the setup nothing but how many legs there are
pub record SlotsStandFor (s : Setup) (slots : List Waiting) (table : Table) : Type 0 where
  pub legs : length slots ≡ s.legs
  pub sources : (i : ℕ) (w : Waiting) → slice_get slots i ≡ Some w → SourceStands s i w table

-- of each table for which the slots stand
abbrev pub SlotsTell : List Waiting → (Setup → Table → Type 0) → Type 0
SlotsTell slots P = (s : Setup) (table : Table) → SlotsStandFor s slots table → P s table

-- from each table for which they stood they come to another one
abbrev pub LeadsSlots : List Waiting → List Waiting → (Table → Table) → Type 0
LeadsSlots old new f = (s : Setup) (table : Table) → SlotsStandFor s old table → SlotsStandFor s new (f table)
