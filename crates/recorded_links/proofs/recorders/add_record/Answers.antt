use Rattle.std.proofs.Common.{rules, ◌≡◌, ◌++◌, ℕ, List, Some, ap, ◌∙◌}
use Rattle.recorded_links.proofs.Fronts.{left_further}
use Rattle.live_spec.specs.Recorded.{entry_written}
use Rattle.recorded_links.proofs.recorders.add_record.Goals as goal
use Rattle.wire_spec.proofs.Plain.{front_of_more as longer}

pub returns-in_default-clause-left : goal.returns-in_default-clause-left
returns-in_default-clause-left g c = λ told tells there.
    let l = c.make_room.ensures.left told tells (search rules) there in
    let m = longer l.0 c.args.pending.now (entry_written c.args.moment c.args.octets.now) in
    (m.0, l.1 ∙ ap (λ (f : List ℕ). Some (g.J.File.Sink.took c.args.file ++ f)) m.1)

pub returns-clause-left : goal.returns-clause-left
returns-clause-left g c = λ told tells.
    let sink = g.J.File.Sink in
    let contents = g.J.Journals.contents in
    let kept : c.append_record.new.out ≡ c.make_room.new.pending = search (rules, c.append_record.ensures.err) in
    let same : c.make_room.new.journals ≡ c.args.journals.now = search (rules, c.in-Some.ensures.same) in
    left_further (contents c.args.journals.now) (contents c.make_room.new.journals) (contents c.hand_back.new.journals) (sink.name c.args.file) (sink.name c.in-Some.file)
    (sink.took c.args.file) c.args.pending.now (sink.took c.in-Some.file) c.make_room.new.pending c.append_record.new.out (entry_written c.args.moment c.args.octets.now)
    c.in-Some.ensures.named (c.in-Some.ensures.further told) kept (ap contents same) (c.hand_back.ensures.left told tells)
