use Rattle.std.proofs.Common.{rules, ◌≡◌, ap}
use Rattle.recorded_links.proofs.Fronts.{left_whole}
use Rattle.recorded_links.proofs.recorders.hand_back.Goals as goal

pub returns-clause-left : goal.returns-clause-left
returns-clause-left g c = λ told tells.
    let sink = g.J.File.Sink in
    let contents = g.J.Journals.contents in
    let same : c.write_pending.new.journals ≡ c.args.journals.now = search (rules, c.in-Some.ensures.same) in
    left_whole (contents c.args.journals.now) (contents c.write_pending.new.journals) (contents c.done.new.self) (sink.name c.args.file) (sink.name c.in-Some.file)
    (sink.took c.args.file) (sink.took c.in-Some.file) c.args.pending.now c.in-Some.ensures.named (c.in-Some.ensures.took told) (ap contents same) (c.done.ensures.kept tells)
