-- What a recording that is being written stands for.
use Rattle.std.specs.Prelude.{◌≡◌, ℕ, ◌+◌, ◌≤◌, Option, None, Some, IsSome, List, [], ◌∷◌, ◌++◌, length, map, take}
use Rattle.rtt_io.specs.declared.sinks.Sink as sinks
use Rattle.live_spec.specs.Recorded.{Entry, Parts, noted, part_written, record_in, with_entry, begun_with}
use Rattle.recorded_links.specs.declared.places.FilePosition.{FilePosition}
use Rattle.recorded_links.specs.Names.{numbered}
use Rattle.recorded_links.specs.Places.{IsPlaceOf}
use Rattle.recorded_links.specs.Files.{AreUnder, files_written}

-- what is kept of a recording
pub record Keeping (F : Type 0) : Type 0 where
  pub stem : List ℕ
  pub start : ℕ
  pub number : ℕ
  pub place : FilePosition
  pub file : Option F
  -- whole records that are not in the file yet
  pub pending : List ℕ

-- with an entry more in the last file
abbrev pub with_more : Parts → Entry → Parts
with_more ps e = record { over = ps.over; last = with_entry ps.last e }

-- with a next file, which begins with this entry
abbrev pub with_next : Parts → Entry → Parts
with_next ps e = record { over = ps.over ++ ps.last ∷ []; last = begun_with e }

-- These files lie under their names, the last one but for at most so many octets at its end; or there is a front of these octets behind it.
pub record StillHolds (stem : List ℕ) (start : ℕ) (contents : List ℕ → Option (List ℕ)) (missing : ℕ) (ps : Parts) (behind : List ℕ) : Type 0 where
  pub octets : ℕ
  pub few : length (part_written start ps.last) ≤ octets + missing
  pub under : AreUnder stem contents (map (part_written start) ps.over ++ take octets (part_written start ps.last ++ behind) ∷ [])

module _ {F : Type 0} (g : sinks.Ghosts F) where
  -- it never failed, and has the name of this number
  abbrev pub IsFresh : List ℕ → ℕ → F → Type 0
  IsFresh stem number file = (g.faults file ≡ 0) × (g.name file ≡ numbered stem number)

  -- the files that are over lie there, and the last one is being written
  pub record IsWriting (contents : List ℕ → Option (List ℕ)) (k : Keeping F) (file : F) (ps : Parts) : Type 0 where
    pub tells : g.tells
    pub number : k.number ≡ length ps.over + 1
    pub place : IsPlaceOf k.start ps.last k.place
    pub over : AreUnder k.stem contents (map (part_written k.start) ps.over)
    pub took : g.took file ++ k.pending ≡ part_written k.start ps.last
    pub there : IsSome (contents (numbered k.stem k.number))

  -- of a recording that ended before its call no more is said than when it ended
  abbrev pub by_file : (List ℕ → Option (List ℕ)) → Keeping F → Option F → Parts → Type 0
  by_file contents k None ps = Unit {0}
  by_file contents k (Some file) ps = IsWriting contents k file ps

  -- these are its files
  abbrev pub RecorderStandsFor : (List ℕ → Option (List ℕ)) → Keeping F → Parts → Type 0
  RecorderStandsFor contents k ps = by_file contents k k.file ps

  -- whatever were its files, an entry more was noted
  abbrev pub NotesMore : (before after : List ℕ → Option (List ℕ)) → (old new : Keeping F) → Entry → Type 0
  NotesMore before after old new e = (ps : Parts) → RecorderStandsFor before old ps
      → RecorderStandsFor after new (noted old.start ps e)

  -- whatever are its files, they stay that
  abbrev pub StaysAll : (before after : List ℕ → Option (List ℕ)) → (old new : Keeping F) → Type 0
  StaysAll before after old new = (ps : Parts) → RecorderStandsFor before old ps → RecorderStandsFor after new ps

  -- whatever are its files, all that stands in them lies under their names
  abbrev pub LiesThere : (before after : List ℕ → Option (List ℕ)) → Keeping F → Type 0
  LiesThere before after k = (ps : Parts) → RecorderStandsFor before k ps
      → AreUnder k.stem after (files_written k.start ps)

  -- whatever were its files, all that was not pending lies there, and a front of what was
  abbrev pub KeepsWritten : (before after : List ℕ → Option (List ℕ)) → Keeping F → Type 0
  KeepsWritten before after k = (ps : Parts) → RecorderStandsFor before k ps
      → StillHolds k.stem k.start after (length k.pending) ps []

  -- the same, where this entry was to be noted: where all that was pending lies there, so may a front of its record
  abbrev pub KeepsNoted : (before after : List ℕ → Option (List ℕ)) → Keeping F → Entry → Type 0
  KeepsNoted before after k e = (ps : Parts) → RecorderStandsFor before k ps
      → StillHolds k.stem k.start after (length k.pending) ps (record_in ps.last.begins e)
