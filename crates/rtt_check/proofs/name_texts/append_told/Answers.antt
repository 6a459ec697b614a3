use Rattle.std.proofs.Common.{◌++◌, chars, encode_utf8, ap, ◌∙◌}
use Rattle.std.proofs.lemmas.Iterator.{YieldsList-from_chars}
use Rattle.std.proofs.lemmas.Iterator.Consumers.{YieldsList-end}
use Rattle.report_spec.specs.Told.{told_character}
use Rattle.rtt_check.proofs.Pieces.{all_pieces, one_more_piece}
use Rattle.rtt_check.proofs.name_texts.append_told.Goals as goal

pub loop-c-preserved : goal.loop-c-preserved
loop-c-preserved c =
    one_more_piece (λ d. encode_utf8 (told_character d)) c.args.text.now c.loop-c.text c.append_character.new.text c.loop-c.yielded c.in-Some.c c.loop-c.invariant c.in_ok-append_character.ensures

pub returns : goal.returns
returns c =
    let road = YieldsList-from_chars c.args.name.now c.utf8.name (cc) in
    let all = YieldsList-end road c.loop-c.yielded _ c.loop-c.yielded_by _ _ c.in-None.is c.next.ensures.steps in
    c.loop-c.invariant ∙ ap (λ l. c.args.text.now ++ l) (all_pieces (λ d. encode_utf8 (told_character d)) c.loop-c.yielded (chars c.args.name.now) all.0)
