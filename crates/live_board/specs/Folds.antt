-- What a board shows of a list of changes, which are chunks, oldest first. Texts are counted in octets.
use Rattle.std.specs.Prelude.{ℕ, ◌-◌, ◌==◌, List, [], length, drop, if◌then◌else◌}
use Rattle.std.specs.List.{flat_map}
use Rattle.rtt_base.specs.declared.records.Chunk.{Chunk}
use Rattle.live_board.specs.declared.limits.TheConstants.{MOST_TAIL_OCTETS}

-- what is shown of one leg: how many octets came in all, and the last of them
pub record Shown : Type 0 where
  pub total : ℕ
  pub last : List ℕ

-- the octets that a change adds to the text of a leg: none where its source is another leg, or no leg
abbrev pub octets_in : ℕ → Chunk → List ℕ
octets_in leg c = if c.source == leg then c.text else []

-- the text of a leg
abbrev pub text_of : ℕ → List Chunk → List ℕ
text_of leg changes = flat_map (octets_in leg) changes

-- the last 2048 octets of a text, or all where they are fewer
abbrev pub tail_of : List ℕ → List ℕ
tail_of octets = drop (length octets - MOST_TAIL_OCTETS) octets

-- what is shown of a text
abbrev pub shown_of : List ℕ → Shown
shown_of octets = record { total = length octets; last = tail_of octets }

-- what is shown of a leg after these changes
abbrev pub fold_of : ℕ → List Chunk → Shown
fold_of leg changes = shown_of (text_of leg changes)
