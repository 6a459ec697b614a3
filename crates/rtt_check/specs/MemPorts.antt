-- What ports in memory answer.
use Rattle.std.specs.Prelude.{ℕ, ◌==◌, List, [], ◌∷◌, Option, None, Some, if◌then◌else◌}
use Rattle.report_spec.specs.declared.ports.PortFault.{PortFault}
use Rattle.rtt_check.specs.declared.mem_ports.MemAnswer.{MemAnswer}

-- why the port can't be had, where it can't: as the first entry of it says
abbrev pub answer_of : List MemAnswer → ℕ → Option PortFault
answer_of [] port = None
answer_of (first ∷ more) port = if first.port == port then Some first.fault else answer_of more port
