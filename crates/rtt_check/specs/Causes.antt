-- Why a call of the system that opens a port failed, by the number of its error (errno(3) of Linux).
use Rattle.std.specs.Prelude.{ℕ, ◌==◌, ◌||◌, if◌then◌else◌}
use Rattle.report_spec.specs.declared.ports.PortFault.{PortFault}
use Rattle.report_spec.specs.declared.ports.PortFault.TheVariants.{Taken, NoRight, NoAddress, ManyFiles, Other}

-- EPERM and EACCES; ENFILE and EMFILE; EAFNOSUPPORT, where this machine has no IPv6, and EADDRNOTAVAIL; EADDRINUSE
abbrev pub cause_at : ℕ → PortFault
cause_at number =
    if number == 1 || number == 13 then NoRight
    else (if number == 23 || number == 24 then ManyFiles
    else (if number == 97 || number == 99 then NoAddress
    else (if number == 98 then Taken else Other)))
