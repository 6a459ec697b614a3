use Rattle.unaware_view.proofs.runs.Run.read.Goals as goal
use Rattle.std.proofs.Common.{ap, ◌∙◌}
use Rattle.std.specs.Prelude.{◌==◌}
use Rattle.view_spec.specs.declared.classes.CharClass.{CharClass}
use Rattle.view_spec.specs.Characters.{opens}
use Rattle.unaware_view.specs.Runs.{erasable_by}

pub returns-clause-run : goal.returns-clause-run
returns-clause-run c =
    let me = c.args.self.now in
    let erasable = c.erasable_by-erasable.ensures ∙ ap (λ (k : CharClass). erasable_by k me.after_cr me.erasable c.args.c) c.class-kind.ensures in
    let line = c.opens-is_open.ensures ∙ ap (λ (k : CharClass). opens k me.is_open) c.class-kind.ensures in
    (λ i. record { erasable = erasable i; after_cr = c.args.c == 0x0D; ending = c.push.ensures.value i; has_chunk = me.has_chunk; labelled = me.labelled; is_open = line i })
