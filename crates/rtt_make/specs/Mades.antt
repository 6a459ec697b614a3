-- What the code makes of a number, in the words of the definitions.
use Rattle.std.specs.Prelude.{◌≡◌, ℕ}
use Rattle.file_spec.specs.Conferences.{meaning_of}
use Rattle.command_spec.specs.Generated.{Generated, generated}
use Rattle.rtt_make.specs.declared.conferences.Made.{Made}

abbrev pub made_of : Made → Generated
made_of m = record { conference = meaning_of m.conference; scripts = m.scripts; firsts = m.seqs }

-- it is what some number makes
abbrev pub IsGenerated : Made → Type 0
IsGenerated m = (n : ℕ) × (made_of m ≡ generated n)
