use Rattle.std.proofs.Common.{◌≡◌, ◌<◌, Some, length, arith}
use Rattle.std.specs.Prelude.{slice_get}
use Rattle.std.specs.Arc.{arc_value}
use Rattle.recorded_links.specs.Calls.{call_track}
use Rattle.recorded_links.specs.Shelves.{taken}
use Rattle.recorded_links.proofs.Others.{none_written, one_written, same_recording}
use Rattle.recorded_links.proofs.tracks.write_each.Goals as goal
use Rattle.stream_spec.proofs.Plain.{get_read}

pub loop-number-init : goal.loop-number-init
loop-number-init g c = none_written g.J.File.Sink g.J.Journals.tells (λ t. call_track t.port t.way t.recorder.stem t.recorder.start (arc_value t.shelf)) (λ t. t.recorder) (λ t. taken t.pass) (g.J.Journals.contents c.args.journals.now) c.args.tracks.now.items

pub loop-number-preserved : goal.loop-number-preserved
loop-number-preserved g c =
    let items = c.loop-number.tracks.items in
    let w = c.index_mut-track.result.now in
    let l : c.loop-number.number < length items = omega (arith, c.loop-number-test.true, c.len-number-end.ensures, c.args.tracks.now.ok.0, c.loop-number.invariant.names.many) in
    let at : slice_get items c.loop-number.number ≡ Some w = get_read items c.loop-number.number w l c.index_mut-track.ensures.value in
    one_written g.J.File.Sink g.J.Journals.tells (λ t. call_track t.port t.way t.recorder.stem t.recorder.start (arc_value t.shelf)) (λ t. t.recorder) (λ t. taken t.pass) (g.J.Journals.contents c.args.journals.now) (g.J.Journals.contents c.loop-number.journals) (g.J.Journals.contents c.write_in.new.journals)
    c.args.tracks.now.items items c.loop-number.number w c.write_in.new.self at (same_recording c.write_in.ensures.same c.write_in.ensures.named) c.write_in.ensures.named.0 c.write_in.ensures.named.1 c.write_in.ensures.others c.write_in.ensures.taken c.loop-number.invariant

pub returns : goal.returns
returns g c = record { same = c.loop-number.invariant.same; have = c.loop-number.invariant.have }
