use Rattle.std.proofs.Common.{refl}
use Rattle.wire_spec.specs.Dump.{dump_opening}
use Rattle.rtpdump_io.proofs.Written.{has_room}
use Rattle.rtpdump_io.proofs.writers.write_opening.Goals as goal

pub returns-clause-fits : goal.returns-clause-fits
returns-clause-fits g c =
    let written = g.O.OctetBuffer.written in
    has_room g.O.OctetBuffer.greatest (written c.args.out.now) (written c.append.new.self) dump_opening 44 c.append.result refl c.append.ensures
