-- What a recording that is being written has of what was taken away from its shelf.
use Rattle.std.specs.Prelude.{ℕ, Option, List, [], ◌∷◌, map}
use Rattle.rtt_io.specs.declared.sinks.Sink as sinks
use Rattle.live_spec.specs.Recorded.{Entry, Parts, noted, nothing_noted}
use Rattle.recorded_links.specs.declared.rule.NotedEntry.{NotedEntry}
use Rattle.recorded_links.specs.Places.{entry}
use Rattle.recorded_links.specs.Standing.{Keeping, RecorderStandsFor}

abbrev pub entry_of : NotedEntry → Entry
entry_of e = entry e.at e.octets

-- these entries more, oldest first
abbrev pub all_noted : ℕ → Parts → List Entry → Parts
all_noted start ps [] = ps
all_noted start ps (e ∷ es) = all_noted start (noted start ps e) es

module _ {F : Type 0} (g : sinks.Ghosts F) where
  -- whatever were its files, these entries more were noted
  abbrev pub NotesAll : (before after : List ℕ → Option (List ℕ)) → (old new : Keeping F) → List Entry → Type 0
  NotesAll before after old new es = (ps : Parts) → RecorderStandsFor g before old ps
      → RecorderStandsFor g after new (all_noted old.start ps es)

  -- its files are those of all that was taken away, unless it ended before its call
  abbrev pub HasTaken : (List ℕ → Option (List ℕ)) → Keeping F → List NotedEntry → Type 0
  HasTaken contents k taken = RecorderStandsFor g contents k (all_noted k.start nothing_noted (map entry_of taken))

  -- where they were that, they are
  abbrev pub HasTakenStill : (before after : List ℕ → Option (List ℕ)) → (old new : Keeping F)
      → (taken more : List NotedEntry) → Type 0
  HasTakenStill before after old new taken more = HasTaken before old taken → HasTaken after new more
