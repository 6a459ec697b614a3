use Rattle.std.proofs.Common.{◌++◌, ◌<◌, ◌≤◌, length, Ok, refl, subst, sym, ap, ◌∙◌, arith}
use Rattle.script_text.proofs.EscapeLoop.{HasRead, none_read, more_read, no_escape, end_read, end_long}
use Rattle.script_text.proofs.escapes.read_text.Goals as goal
use Rattle.file_spec.specs.declared.limits.TheConstants.{LONGEST_TEXT}

pub loop-run-init : goal.loop-run-init
loop-run-init c = subst (HasRead c.args.octets.now c.args.octets.now) (sym c.clear.ensures) (none_read c.args.octets.now)

pub returns-in_default-split_escape-clause-err : goal.returns-in_default-split_escape-clause-err
returns-in_default-split_escape-clause-err c =
    (refl, no_escape c.args.octets.now c.loop-run.rest.now c.loop-run.text c.in-Some.run'.now c.in-Some.behind.now c.in-Some.ensures.parts c.in_default-split_escape.ensures.parts c.loop-run.invariant)

pub loop-run-preserved : goal.loop-run-preserved
loop-run-preserved c =
    let both = c.in_ok-append-2.ensures.ok ∙ ap (λ t. t ++ c.in-Some-split_escape.meant.now) c.in_ok-append.ensures.ok in
    subst (HasRead c.args.octets.now c.in-Some-split_escape.after.now) (sym both)
    (more_read c.args.octets.now c.loop-run.rest.now c.loop-run.text c.in-Some.run'.now c.in-Some.behind.now c.in-Some-split_escape.meant.now c.in-Some-split_escape.after.now
    c.in-Some.ensures.parts c.in-Some-split_escape.ensures.parts c.loop-run.invariant)

pub returns-then-len-gt-LONGEST_TEXT-clause-err : goal.returns-then-len-gt-LONGEST_TEXT-clause-err
returns-then-len-gt-LONGEST_TEXT-clause-err c =
    let long : LONGEST_TEXT < length (c.loop-run.text ++ c.loop-run.rest.now) = omega (arith, c.if-len-gt-LONGEST_TEXT.true, c.len.ensures, ap length c.in_ok-append-3.ensures.ok) in
    (refl, end_long c.args.octets.now c.loop-run.rest.now c.loop-run.text c.in_default.ensures.parts long c.loop-run.invariant)

pub returns-clause-ok : goal.returns-clause-ok
returns-clause-ok c =
    let short : length (c.loop-run.text ++ c.loop-run.rest.now) ≤ LONGEST_TEXT = omega (arith, c.if-len-gt-LONGEST_TEXT.false, c.len.ensures, ap length c.in_ok-append-3.ensures.ok) in
    end_read c.args.octets.now c.loop-run.rest.now c.loop-run.text c.in_default.ensures.parts short c.loop-run.invariant ∙ ap Ok (sym c.in_ok-append-3.ensures.ok)
