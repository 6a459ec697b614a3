use Rattle.std.proofs.Common.{map}
use Rattle.wire_spec.specs.Dump.{sent_item}
use Rattle.rtt_show.proofs.Showing.{sources_few, sources_differ}
use Rattle.rtt_show.proofs.streams.show_stream.Goals as goal

pub hear_sources-requires-clause-few : goal.hear_sources-requires-clause-few
hear_sources-requires-clause-few c = sources_few c.args.payload_types c.args.ssrc c.in_ok-found.found (map sent_item c.requires.0) (c.in_ok-found.ensures c.requires.0 c.requires.1)

pub hear_sources-requires-clause-differ : goal.hear_sources-requires-clause-differ
hear_sources-requires-clause-differ c = sources_differ c.args.payload_types c.args.ssrc c.in_ok-found.found (map sent_item c.requires.0) (c.in_ok-found.ensures c.requires.0 c.requires.1)
