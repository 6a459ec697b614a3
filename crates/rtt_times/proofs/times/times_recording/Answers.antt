use Rattle.std.proofs.Common.{◌∙◌, ap, sym}
use Rattle.rtt_base.specs.declared.text_packets.PayloadTypes.{PayloadTypes}
use Rattle.rtt_show.specs.Whole.{ends}
use Rattle.report_spec.specs.Times.{timed_view}
use Rattle.rtt_times.proofs.times.times_recording.Goals as goal

pub returns-in-Ok-times_found-clause-told : goal.returns-in-Ok-times_found-clause-told
returns-in-Ok-times_found-clause-told g c = λ t.
    let q = c.in-Ok.ensures.gathered in
    c.in-Ok-times_found.ensures q.items q.few q.is_found
    ∙ (ap (λ (p : PayloadTypes). timed_view p c.args.start (record { items = q.items; fault = ends c.in-Ok.end })) (c.gather.ensures.payload_types ∙ c.new-found.ensures.payload_types)
    ∙ ap (timed_view c.args.payload_types c.args.start) (sym (q.is t)))
