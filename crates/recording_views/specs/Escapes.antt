-- Characters of a text that is read from its front.
use Rattle.std.specs.Prelude.{◌≢◌, ℕ, ◌≤◌, ◌<◌, ◌==◌, ◌&&◌, Bool, if◌then◌else◌, List, []}
use Rattle.command_spec.specs.Transcripts.{escaped_sign}

-- a character of ASCII that stands for itself: it prints, and is no backslash
pub record IsPlain (c : ℕ) : Type 0 where
  pub from : 0x20 ≤ c
  pub to : c < 0x7F
  pub other : c ≢ 0x5C

-- what stands for a character that comes after CR or not: an LF after CR adds nothing
abbrev pub escaped_after : Bool → ℕ → List ℕ
escaped_after after_cr c = if c == 0x0A && after_cr then [] else escaped_sign c
