use Rattle.std.proofs.Common.{◌+◌, length}
use Rattle.wire_spec.specs.Dump.{record_written}
use Rattle.rtpdump_io.proofs.Written.{has_room, record_length}
use Rattle.rtpdump_io.proofs.writers.write_record.Goals as goal

pub returns-clause-fits : goal.returns-clause-fits
returns-clause-fits g c =
    let written = g.O.OctetBuffer.written in
    let packet = c.args.packet.now in
    has_room g.O.OctetBuffer.greatest (written c.args.out.now) (written c.append_record.new.out) (record_written (c.args.at, packet)) (8 + length packet) c.append_record.result (record_length c.args.at packet) c.append_record.ensures
