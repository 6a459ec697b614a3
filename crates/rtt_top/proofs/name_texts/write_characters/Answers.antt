use Rattle.std.proofs.Common.{◌≡◌, ◌≤◌, ◌++◌, encode_utf8, chars, length, sym, ap, subst, ◌∙◌, arith}
use Rattle.std.specs.List.{concat}
use Rattle.std.proofs.lemmas.Iterator.{YieldsList-from_chars}
use Rattle.std.proofs.lemmas.Iterator.Consumers.{YieldsList-end, YieldsList-so_far, YieldsList-turn}
use Rattle.rtt_io.specs.Fronts.{TakesFront}
use Rattle.report_spec.specs.Told.{told_character, told_name}
use Rattle.rtt_top.proofs.Fronts.{on_err}
use Rattle.rtt_top.proofs.Telling.{told_at, told_pieces, told_push, told_whole}
use Rattle.rtt_top.proofs.name_texts.write_characters.Goals as goal

pub loop-c-preserved : goal.loop-c-preserved
loop-c-preserved g c =
    let before = c.loop-c.invariant.never_falls in
    let now = c.write_character.ensures.never_falls in
    record {
      never_falls = omega arith;
      written = λ t. told_push (g.E.Sink.took c.args.err.now) (g.E.Sink.took c.loop-c.err) (g.E.Sink.took c.write_character.new.err) c.loop-c.yielded c.in-Some.c
          (c.loop-c.invariant.written t) (c.in_ok-write_character.ensures.written t);
    }

pub returns-clause-written : goal.returns-clause-written
returns-clause-written g c = λ t.
    let road = YieldsList-from_chars c.args.name.now c.utf8.name (cc) in
    let all = YieldsList-end road c.loop-c.yielded _ c.loop-c.yielded_by _ _ c.in-None.is c.next.ensures.steps in
    c.loop-c.invariant.written t ∙ ap (λ l. g.E.Sink.took c.args.err.now ++ l) (told_whole c.args.name.now c.loop-c.yielded all.0)

pub returns-in_err-write_character-clause-partly : goal.returns-in_err-write_character-clause-partly
returns-in_err-write_character-clause-partly g c = λ t.
    let road = YieldsList-from_chars c.args.name.now c.utf8.name (cc) in
    let old = g.E.Sink.took c.args.err.now in
    let mid = g.E.Sink.took c.loop-c.err in
    let new = g.E.Sink.took c.write_character.new.err in
    let so_far = YieldsList-so_far road c.loop-c.yielded _ c.loop-c.yielded_by in
    let turn = YieldsList-turn road c.loop-c.yielded _ c.loop-c.yielded_by _ _ c.in-Some.c c.in-Some.is c.next.ensures.steps in
    on_err (TakesFront old new (told_name c.args.name.now)) c.from_residual.result
    (told_at old mid new c.args.name.now c.loop-c.yielded c.in-Some.c so_far turn.0 turn.1 (c.loop-c.invariant.written t) (c.in_err-write_character.ensures.partly t))
