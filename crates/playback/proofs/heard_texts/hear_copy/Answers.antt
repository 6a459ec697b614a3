use Rattle.std.proofs.Common.{ℕ, drop, ap, ◌∙◌}
use Rattle.std.proofs.lemmas.Grind.{get_or_default_zero}
use Rattle.playback.specs.Arriving.{copy_of}
use Rattle.playback.proofs.PlayedCopies.{heard_copy, no_copy}
use Rattle.playback.proofs.heard_texts.hear_copy.Goals as goal
use Rattle.wire_spec.proofs.Plain.{on_ok, rest_is}

pub returns-clause-listens : goal.returns-clause-listens
returns-clause-listens c = on_ok c.arrive.result c.arrive.ensures.listens (λ g.
    heard_copy c.args.terminal.now c.arrive.new.self c.args.found.now c.args.records.now _ (copy_of c.args.copy) c.in-Some.packet.now c.in-Some.field-0-0 c.in-Some.field-0-2.now
    (rest_is c.args.records.now c.index-place.result.now ∙ ap (λ (p : ℕ). drop p c.args.records.now) (c.index-place.ensures ∙ get_or_default_zero c.args.found.now.places.items c.args.copy.index c.index-place.result.now c.requires.sent.sent)) c.requires.sent.sent c.in-Some.ensures.record g)

pub unreachable-requires : goal.unreachable-requires
unreachable-requires c =
    no_copy c.args.found.now c.args.records.now _ (copy_of c.args.copy)
    (rest_is c.args.records.now c.index-place.result.now ∙ ap (λ (p : ℕ). drop p c.args.records.now) (c.index-place.ensures ∙ get_or_default_zero c.args.found.now.places.items c.args.copy.index c.index-place.result.now c.requires.sent.sent)) c.requires.sent.sent c.in-None.ensures.record c.requires.found.0 c.requires.found.1 c.requires.found.2
