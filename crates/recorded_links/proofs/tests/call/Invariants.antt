use Rattle.std.proofs.Common.{length}
use Rattle.recorded_links.specs.Begun.{recordings_of}
use Rattle.link_io.specs.contracts.mem_links.MemLinksLinks.TheImpl.{leads-value}
use Rattle.recorded_links.proofs.tests.call.Given as goal

-- those that were begun
abbrev pub ghosts-call_over : goal.ghosts-call_over
ghosts-call_over g a = record { recordings = recordings_of a.recording; before = length (leads-value.it a.below) }
