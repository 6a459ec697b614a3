use Rattle.file_spec.specs.Conferences.{meaning_of}
use Rattle.mixer_posts.proofs.Streaming.{leg_read, stream_is}
use Rattle.mixer_posts.proofs.streams.stream_to.Goals as goal

pub returns-clause-stream : goal.returns-clause-stream
returns-clause-stream c =
    let leg = c.index-as_slice-own.result in
    stream_is (meaning_of c.args.conference.now) c.args.own leg (leg_read c.args.conference.now.legs c.as_slice.result.now c.args.own leg c.as_slice.ensures c.requires c.index-as_slice-own.is)
