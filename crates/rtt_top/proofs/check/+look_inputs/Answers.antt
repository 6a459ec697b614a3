use Rattle.std.proofs.Common.{List, Some, sym, subst, ◌∙◌}
use Rattle.file_spec.specs.declared.conference_lines.LegLine.{LegLine}
use Rattle.rtt_top.specs.Looks.{IsUnreadAmong, LooksAmongIn}
use Rattle.rtt_top.proofs.Looking.{in_err, in_ok, looks_behind, looks_here, looks_later, unread_behind, unread_here, unread_later}
use Rattle.rtt_top.proofs.check.+look_inputs.Goals as goal

pub returns-then-is_on_trunk-clause-unread : goal.returns-then-is_on_trunk-clause-unread
returns-then-is_on_trunk-clause-unread g t c =
    let w = g.W.World in
    let old = c.args.world.now in
    let new = c.look_inputs.new.world in
    let limit = c.args.limit in
    let conference = c.args.conference.now in
    let input = c.args.input in
    let on = sym c.is_on_trunk.ensures ∙ c.if-is_on_trunk.true in
    in_err c.look_inputs.result
    (λ u p. subst (λ (l : List LegLine). IsUnreadAmong w limit conference l input old new u.name.now u.fault) (sym c.in-Some.ensures.some)
    (unread_behind w limit conference c.in-Some.leg.now c.in-Some.more.now input old new u.name.now u.fault on p))
    c.look_inputs.ensures.unread

pub returns-then-is_on_trunk-clause-looks : goal.returns-then-is_on_trunk-clause-looks
returns-then-is_on_trunk-clause-looks g t c =
    let w = g.W.World in
    let old = c.args.world.now in
    let limit = c.args.limit in
    let conference = c.args.conference.now in
    let on = sym c.is_on_trunk.ensures ∙ c.if-is_on_trunk.true in
    in_ok c.look_inputs.result
    (λ found p. subst (λ (l : List LegLine). LooksAmongIn w limit conference l old found) (sym c.in-Some.ensures.some)
    (looks_behind w limit conference c.in-Some.leg.now c.in-Some.more.now old found on p))
    c.look_inputs.ensures.looks

pub returns-in-Err-clause-unread : goal.returns-in-Err-clause-unread
returns-in-Err-clause-unread g t c =
    let w = g.W.World in
    let old = c.args.world.now in
    let new = c.look_input.new.world in
    let limit = c.args.limit in
    let conference = c.args.conference.now in
    let input = c.args.input in
    let off = sym c.is_on_trunk.ensures ∙ c.if-is_on_trunk.false in
    subst (λ (l : List LegLine). IsUnreadAmong w limit conference l input old new c.as_str.result.now c.in-Err.fault) (sym c.in-Some.ensures.some)
    (unread_here w limit conference c.in-Some.leg.now c.in-Some.more.now input old new c.as_str.result.now c.in-Err.fault off c.as_str.ensures c.in-Err.ensures.unread)

pub returns-in-Some-found-clause-looks : goal.returns-in-Some-found-clause-looks
returns-in-Some-found-clause-looks g t c =
    let w = g.W.World in
    let old = c.args.world.now in
    let limit = c.args.limit in
    let conference = c.args.conference.now in
    let off = sym c.is_on_trunk.ensures ∙ c.if-is_on_trunk.false in
    subst (λ (l : List LegLine). LooksAmongIn w limit conference l old (Some c.in-Some-found.report)) (sym c.in-Some.ensures.some)
    (looks_here w limit conference c.in-Some.leg.now c.in-Some.more.now old c.in-Some-found.report off (rw c.in-Some-found.is at c.in-Ok.ensures.looks))

pub returns-in-None-clause-unread : goal.returns-in-None-clause-unread
returns-in-None-clause-unread g t c =
    let w = g.W.World in
    let old = c.args.world.now in
    let mid = c.look_input.new.world in
    let new = c.look_inputs-in-None.new.world in
    let limit = c.args.limit in
    let conference = c.args.conference.now in
    let input = c.args.input in
    let off = sym c.is_on_trunk.ensures ∙ c.if-is_on_trunk.false in
    in_err c.look_inputs-in-None.result
    (λ u p. subst (λ (l : List LegLine). IsUnreadAmong w limit conference l input old new u.name.now u.fault) (sym c.in-Some.ensures.some)
    (unread_later w limit conference c.in-Some.leg.now c.in-Some.more.now input old mid new u.name.now u.fault off c.in-Ok.ensures.same (rw c.in-None.is at c.in-Ok.ensures.looks) p))
    c.look_inputs-in-None.ensures.unread

pub returns-in-None-clause-looks : goal.returns-in-None-clause-looks
returns-in-None-clause-looks g t c =
    let w = g.W.World in
    let old = c.args.world.now in
    let mid = c.look_input.new.world in
    let limit = c.args.limit in
    let conference = c.args.conference.now in
    let off = sym c.is_on_trunk.ensures ∙ c.if-is_on_trunk.false in
    in_ok c.look_inputs-in-None.result
    (λ found p. subst (λ (l : List LegLine). LooksAmongIn w limit conference l old found) (sym c.in-Some.ensures.some)
    (looks_later w limit conference c.in-Some.leg.now c.in-Some.more.now old mid found off c.in-Ok.ensures.same (rw c.in-None.is at c.in-Ok.ensures.looks) p))
    c.look_inputs-in-None.ensures.looks

pub returns-in-None-clause-same_contents : goal.returns-in-None-clause-same_contents
returns-in-None-clause-same_contents g t c = λ t n. c.look_inputs-in-None.ensures.same_contents t n ∙ c.look_input.ensures.same_contents t n
