-- The entries of a batch.
use Rattle.std.specs.Prelude.{ℕ, ◌+◌, List, [], ◌∷◌, take, drop}
use Rattle.live_spec.specs.Recorded.{Entry}
use Rattle.recorded_links.specs.declared.notes.Note.{Note}
use Rattle.recorded_links.specs.Places.{entry}

-- how many octets all of them have
abbrev pub octets_of : List Note → ℕ
octets_of [] = 0
octets_of (n ∷ notes) = n.len + octets_of notes

-- of these octets, which lie one behind the other
abbrev pub entries_in : List Note → List ℕ → List Entry
entries_in [] octets = []
entries_in (n ∷ notes) octets = entry n.at (take n.len octets) ∷ entries_in notes (drop n.len octets)
