use Rattle.std.proofs.Common.{◌≡◌, Bool, true, List, [], ap, subst, sym, ◌∙◌}
use Rattle.std.specs.Prelude.{if◌then◌else◌}
use Rattle.file_spec.specs.Conferences.{meaning_of}
use Rattle.command_spec.specs.Inputs.{inputs_under}
use Rattle.command_spec.specs.Mixing.{counts_lines}
use Rattle.rtt_attend.specs.declared.source_notes.SourceNotes.{SourceNotes}
use Rattle.rtt_attend.specs.Named.{AreTold}
use Rattle.rtt_attend.proofs.input_notes.count_inputs.Goals as goal

pub returns-in-Ok-lines_of-clause-counted : goal.returns-in-Ok-lines_of-clause-counted
returns-in-Ok-lines_of-clause-counted g c = λ t.
    let conference = meaning_of c.args.conference.now in
    let held = g.W.World.contents c.args.world.now in
    let lines = counts_lines conference (inputs_under held conference.legs) in
    let asked : conference.service.counts ≡ true = c.if-not-conference.false in
    c.in-Ok-lines_of.ensures held (subst (λ (all : List SourceNotes). AreTold held conference all) (sym c.as_slice.ensures.value) (c.in-Ok.ensures.told t))
    ∙ sym (ap (λ (b : Bool). if b then lines else []) asked)
