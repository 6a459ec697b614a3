-- What the recordings of a call are, once it ended.
use Rattle.std.specs.Prelude.{◌≡◌, ◌≢◌, ℕ, ◌+◌, Option, Some, List, map, slice_get}
use Rattle.stream_spec.specs.Links.{Takes}
use Rattle.live_spec.specs.Recorded.{nothing_noted}
use Rattle.recorded_links.specs.declared.calls.CallTrack.{CallTrack}
use Rattle.recorded_links.specs.declared.names.Way.TheVariants.{In, Out}
use Rattle.recorded_links.specs.declared.rule.NotedEntry.{NotedEntry}
use Rattle.recorded_links.specs.Coming.{AreGiven, takes_noted}
use Rattle.recorded_links.specs.Files.{AreUnder, files_written}
use Rattle.recorded_links.specs.Written.{all_noted, entry_of}

-- the files of these entries, oldest first, lie under their names
abbrev pub HoldsAll : (stem : List ℕ) (start : ℕ) → (List ℕ → Option (List ℕ)) → List NotedEntry → Type 0
HoldsAll stem start contents es =
    AreUnder stem contents (files_written start (all_noted start nothing_noted (map entry_of es)))

-- none of the links that were opened since so many were is at this port
abbrev pub IsUnopened : (before port : ℕ) → List (ℕ × List ℕ) → Type 0
IsUnopened before port leads = (k : ℕ) (to : List ℕ) → slice_get leads (before + k) ≢ Some (port, to)

-- one of them is
abbrev pub IsOpened : (before port : ℕ) → List (ℕ × List ℕ) → Type 0
IsOpened before port leads = (k : ℕ) × (to : List ℕ) × (slice_get leads (before + k) ≡ Some (port, to))

-- Of each recording at whose port a link was opened since so many were: its files hold what the link gave; or what it was given, each packet
-- at some moment. Of links at one port the one whose ends were handed back last.
pub record AreRecorded (rs : List CallTrack) (before : ℕ) (leads : List (ℕ × List ℕ)) (taken_at : ℕ → Takes)
    (given_at : ℕ → List (ℕ × List ℕ)) (contents : List ℕ → Option (List ℕ)) : Type 0 where
  pub came : (j : ℕ) (r : CallTrack) → slice_get rs j ≡ Some r → IsOpened before r.port leads → r.way ≡ In
      → HoldsAll r.stem r.start contents (takes_noted (taken_at r.port))
  pub went : (j : ℕ) (r : CallTrack) → slice_get rs j ≡ Some r → IsOpened before r.port leads → r.way ≡ Out
      → (es : List NotedEntry) × AreGiven es (given_at r.port) × HoldsAll r.stem r.start contents es
