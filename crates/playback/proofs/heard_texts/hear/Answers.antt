use Rattle.playback.proofs.Sendings.{recording_is}
use Rattle.playback.proofs.heard_texts.hear.Goals as goal

pub records_of-records-requires : goal.records_of-records-requires
records_of-records-requires c =
    let w = recording_is c.args.log.now c.args.terminal c.as_slice.result.now c.in_ok-recording.recording c.requires.terminal c.requires.sent c.in_ok-recording.ensures c.as_slice.ensures in
    (w.0, w.1.is)

pub hear_by_plan-requires-clause-records : goal.hear_by_plan-requires-clause-records
hear_by_plan-requires-clause-records c =
    let w = recording_is c.args.log.now c.args.terminal c.as_slice.result.now c.in_ok-recording.recording c.requires.terminal c.requires.sent c.in_ok-recording.ensures c.as_slice.ensures in
    (w.0, record { is = c.records_of-records.ensures w.0 w.1.is; each = w.1.each; few = w.1.few })
