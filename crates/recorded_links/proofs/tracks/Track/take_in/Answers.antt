use Rattle.std.proofs.Common.{ap, ap₂, sym, ◌∙◌, ◌++◌}
use Rattle.std.specs.Prelude.{map}
use Rattle.recorded_links.specs.Notes.{entries_in}
use Rattle.recorded_links.specs.Rule.{noted_of}
use Rattle.recorded_links.specs.Shelves.{taken}
use Rattle.recorded_links.proofs.Taking.{has_more}
use Rattle.recorded_links.proofs.tracks.Track.take_in.Goals as goal

pub returns-clause-taken : goal.returns-clause-taken
returns-clause-taken g c = λ tells has.
    let was = taken c.args.self.now.pass in
    let es = entries_in c.notes.result.now c.octets.result.now in
    has_more g.J.File.Sink (g.J.Journals.contents c.args.journals.now) (g.J.Journals.contents c.note_each.new.journals) c.args.self.now.recorder c.note_each.new.recorder was (taken c.take.new.pass) es
    c.note_each.ensures.named.1
    (c.in-Some.ensures.taken ∙ ap (λ l. was ++ l) (ap₂ (λ n o. map noted_of (entries_in n o)) (sym c.notes.ensures) (sym c.octets.ensures)))
    (c.note_each.ensures.notes tells) has
