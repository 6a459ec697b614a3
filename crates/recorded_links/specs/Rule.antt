-- What was noted is what was taken away, then what lies on the shelf, and then what is in hand. At most one pass may note, and it has the
-- lists of what was noted and what is in hand. The same for what was taken away.
use Rattle.std.specs.Prelude.{◌≡◌, ◌≤◌, ℕ, Bool, true, List, [], ◌∷◌, ◌++◌, drop, length, map}
use mathlib.Core.Option.{some}
use lib.ListN.{get_elem?}
use Rattle.live_spec.specs.Recorded.{Entry}
use Rattle.recorded_links.specs.declared.batches.Batch.{Batch}
use Rattle.recorded_links.specs.declared.rule.NotedEntry.{NotedEntry}
use Rattle.recorded_links.specs.declared.rule.ShelfHistory.{ShelfHistory}
use Rattle.recorded_links.specs.Notes.{entries_in}

abbrev pub noted_of : Entry → NotedEntry
noted_of e = record { at = e.at; octets = e.octets }

-- the entries of a batch, as a pass knows them
abbrev pub entries_of : Batch → List NotedEntry
entries_of b = map noted_of (entries_in b.notes.items b.octets)

-- those of all that lie there
abbrev pub all_entries : List Batch → List NotedEntry
all_entries [] = []
all_entries (b ∷ items) = entries_of b ++ all_entries items

abbrev pub known : (notes takes : Bool) → (noted hand taken : List NotedEntry) → ShelfHistory
known notes takes noted hand taken = record { notes = notes; takes = takes; noted = noted; hand = hand; taken = taken }

-- a batch is laid down: what stands in it behind what was in hand is noted
abbrev pub laid : ShelfHistory → Batch → ShelfHistory
laid v b = known v.notes v.takes (v.noted ++ drop (length v.hand) (entries_of b)) [] v.taken

-- where the pass with this number may note it is this one, and where it may take it is that one
abbrev pub Fits : (noter writer : ℕ) → (noted hand taken : List NotedEntry) → ℕ → ShelfHistory → Type 0
Fits noter writer noted hand taken port v =
    (v.notes ≡ true → (port ≡ noter) × (v.noted ≡ noted) × (v.hand ≡ hand)) × (v.takes ≡ true → (port ≡ writer) × (v.taken ≡ taken))

abbrev pub ShelfHolds : List Batch → List ShelfHistory → Type 0
ShelfHolds items views = (noter : ℕ) × (writer : ℕ) × (noted : List NotedEntry) × (hand : List NotedEntry) × (taken : List NotedEntry)
    × (noted ≡ taken ++ (all_entries items ++ hand))
    × ((port : ℕ) (v : ShelfHistory) → get_elem? views port ≡ some v → Fits noter writer noted hand taken port v)
    × (length items ≤ 1)
