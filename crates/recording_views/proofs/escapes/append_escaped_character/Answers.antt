use Rattle.std.proofs.Common.{List, ℕ, ◌++◌, sym, ap, ◌∙◌}
use Rattle.view_spec.specs.declared.classes.CharClass.TheVariants.{Erase, Bell}
use Rattle.recording_views.proofs.Escaping.{escaped_by_class, escaped_marker, escaped_print}
use Rattle.recording_views.proofs.escapes.append_escaped_character.Goals as goal
use Rattle.receiver.proofs.Parts.{on_ok_then as on_ok}

pub returns-in-Erase : goal.returns-in-Erase
returns-in-Erase c =
    on_ok c.append.result (λ e. e ∙ ap (λ (l : List ℕ). c.args.out.now ++ l) (sym (escaped_by_class c.args.c c.args.after_cr Erase (sym c.class.ensures ∙ c.in-Erase.is) (λ q. cc)))) c.append.ensures.ok

pub returns-in-Bell : goal.returns-in-Bell
returns-in-Bell c =
    on_ok c.append-in-Bell.result (λ e. e ∙ ap (λ (l : List ℕ). c.args.out.now ++ l) (sym (escaped_by_class c.args.c c.args.after_cr Bell (sym c.class.ensures ∙ c.in-Bell.is) (λ q. cc)))) c.append-in-Bell.ensures.ok

pub returns-in-Marker : goal.returns-in-Marker
returns-in-Marker c =
    on_ok c.append_as_it_is.result (λ e. e ∙ ap (λ (l : List ℕ). c.args.out.now ++ l) (sym (escaped_marker c.args.c c.args.after_cr (sym c.class.ensures ∙ c.in-Marker.is)))) c.append_as_it_is.ensures

pub returns-in-Print-2 : goal.returns-in-Print-2
returns-in-Print-2 c =
    on_ok c.append_as_it_is-in-Print-2.result (λ e. e ∙ ap (λ (l : List ℕ). c.args.out.now ++ l) (sym (escaped_print c.args.c c.args.after_cr (sym c.class.ensures ∙ c.in-Print-2.is) c.if-c-eq92.false))) c.append_as_it_is-in-Print-2.ensures
