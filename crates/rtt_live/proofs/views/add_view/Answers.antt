use Rattle.file_spec.specs.Conferences.{meaning_of}
use Rattle.rtt_live.proofs.Showing.{adds_view}
use Rattle.rtt_live.proofs.views.add_view.Goals as goal
use Rattle.wire_spec.proofs.Plain.{on_ok}

pub returns : goal.returns
returns c = on_ok c.append.result c.append.ensures
    (adds_view (meaning_of c.args.conference.now) c.args.own c.args.listener c.clear.new.self c.append_view.new.view c.args.views.now c.append.new.self c.as_slice.result.now
    c.clear.ensures c.in_ok-append_view.ensures c.as_slice.ensures)
