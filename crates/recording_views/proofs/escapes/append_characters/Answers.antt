use Rattle.std.proofs.Common.{List, ℕ, ◌++◌, sym, ap, ◌∙◌, map-id as map_same}
use Rattle.std.proofs.lemmas.Iterator.{YieldsList-from_chars}
use Rattle.std.proofs.lemmas.Iterator.Consumers.{YieldsList-end}
use Rattle.view_spec.proofs.Steps.{ends_with_cr-last}
use Rattle.command_spec.specs.Transcripts.{escaped}
use Rattle.recording_views.proofs.Escaping.{appended_push, escaped_signs}
use Rattle.recording_views.proofs.escapes.append_characters.Goals as goal

pub loop-c-preserved : goal.loop-c-preserved
loop-c-preserved c = record {
  after_cr = sym (ends_with_cr-last c.loop-c.yielded c.in-Some.c);
  out = appended_push c.args.out.now c.loop-c.out c.append_escaped_character.new.out c.loop-c.yielded c.in-Some.c c.loop-c.after_cr c.loop-c.invariant.after_cr c.loop-c.invariant.out c.in_ok-append_escaped_character.ensures;
}

pub returns : goal.returns
unfolding escaped
returns c =
    let same = c.in-Ok.ensures.cases.0 in
    let t = YieldsList-end (YieldsList-from_chars c.args.text.now c.requires (cc)) c.loop-c.yielded _ c.loop-c.yielded_by _ _ c.in-None.is c.next.ensures.steps in
    c.loop-c.invariant.out ∙ ap (λ (l : List ℕ). c.args.out.now ++ escaped_signs l) (sym (map_same c.loop-c.yielded) ∙ t.0)
