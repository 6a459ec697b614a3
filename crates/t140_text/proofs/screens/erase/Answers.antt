use Rattle.std.proofs.Common.{◌≡◌, true, ap, ◌∙◌, string_bytes}
use Rattle.view_spec.specs.Characters.{class_of, is_marker}
use Rattle.t140_text.proofs.Erased.{erased_text, marked_text, markers, marks_not, none_text}
use Rattle.t140_text.proofs.screens.erase.Goals as goal

pub returns-in_default : goal.returns-in_default
returns-in_default c cs e = none_text c.args.text.now c.pop.new.self cs e c.in_default.ensures.none c.in_default.ensures.bound

pub returns-in_ok-push : goal.returns-in_ok-push
returns-in_ok-push c cs e =
    let is : is_marker (class_of c.in-Some.last) ≡ true = ap (λ x. is_marker (class_of x)) c.if-last-eq65533.true ∙ markers in
    marked_text (string_bytes c.args.text.now) c.pop.new.self _ cs c.in-Some.last e c.in-Some.ensures.bytes is c.in_ok-push.ensures.bytes

pub returns-else-last-eq65533 : goal.returns-else-last-eq65533
returns-else-last-eq65533 c cs e = erased_text (string_bytes c.args.text.now) c.pop.new.self cs c.in-Some.last e c.in-Some.ensures.bytes (marks_not c.in-Some.last c.if-last-eq65533.false)
