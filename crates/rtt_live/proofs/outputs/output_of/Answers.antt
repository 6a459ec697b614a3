use Rattle.file_spec.specs.Conferences.{meaning_of}
use Rattle.rtt_live.proofs.Writing.{output_made}
use Rattle.rtt_live.proofs.outputs.output_of.Goals as goal

pub returns : goal.returns
returns c =
    output_made (meaning_of c.args.conference.now) c.args.own c.stream_to-stream.result c.in_ok-sources.sources.items c.as_slice.result.now c.new.result
    c.stream_to-stream.ensures.stream c.as_slice.ensures.value c.in_ok-sources.ensures.are c.new.ensures
