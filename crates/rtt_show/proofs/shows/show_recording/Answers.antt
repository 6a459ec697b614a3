use Rattle.std.proofs.Common.{◌∙◌, ap, sym}
use Rattle.rtt_base.specs.declared.text_packets.PayloadTypes.{PayloadTypes}
use Rattle.rtt_show.specs.Whole.{ends}
use Rattle.report_spec.specs.Showing.{recording_view}
use Rattle.rtt_show.proofs.shows.show_recording.Goals as goal

pub returns-in-Ok-show_found-clause-shown : goal.returns-in-Ok-show_found-clause-shown
returns-in-Ok-show_found-clause-shown g c = λ t.
    let q = c.in-Ok.ensures.gathered in
    c.in-Ok-show_found.ensures q.items q.few q.is_found
    ∙ (ap (λ (p : PayloadTypes). recording_view p c.args.start (record { items = q.items; fault = ends c.in-Ok.end })) (c.gather.ensures.payload_types ∙ c.new-found.ensures.payload_types)
    ∙ ap (recording_view c.args.payload_types c.args.start) (sym (q.is t)))
