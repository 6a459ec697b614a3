use Rattle.std.proofs.Common.{ap, ap₂, sym, ◌∙◌, ◌++◌}
use Rattle.std.specs.Prelude.{map}
use Rattle.recorded_links.specs.Notes.{entries_in}
use Rattle.recorded_links.specs.Rule.{noted_of}
use Rattle.recorded_links.specs.Shelves.{hand, noted, taken}
use Rattle.recorded_links.proofs.Taking.{has_last}
use Rattle.recorded_links.proofs.endings.note_last.Goals as goal

pub returns-clause-taken : goal.returns-clause-taken
returns-clause-taken g c = λ tells has.
    let es = entries_in c.notes.result.now c.octets.result.now in
    has_last g.J.File.Sink (g.J.Journals.contents c.args.journals.now) (g.J.Journals.contents c.note_each.new.journals) c.args.recorder.now c.note_each.new.recorder (taken c.args.take) (noted c.args.note) (hand c.args.note) es
    c.note_each.ensures.named.1
    (c.in-Some.ensures ∙ ap (λ l. (taken c.args.take ++ l) ++ hand c.args.note) (ap₂ (λ n o. map noted_of (entries_in n o)) (sym c.notes.ensures) (sym c.octets.ensures)))
    c.requires.rests (c.note_each.ensures.notes tells) has
