use Rattle.std.proofs.Common.{length}
use Rattle.recorded_links.specs.Begun.{recordings_of}
use Rattle.rtt_program.proofs.program_for.Given as goal

-- so long as is said
abbrev pub ghosts-program_over-S-Silence : goal.ghosts-program_over-S-Silence
ghosts-program_over-S-Silence g a = record { longest = a.gone }

-- those that were begun
abbrev pub ghosts-program_over-C-Call : goal.ghosts-program_over-C-Call
ghosts-program_over-C-Call g a = record { recordings = recordings_of a.recording; before = length (g.L.Links.leads a.links) }
