use Rattle.std.proofs.Common.{ap, sym, subst, ◌∙◌}
use Rattle.rtt_io.specs.Names.{SameBut}
use Rattle.report_spec.specs.declared.limits.TheConstants.{MOST_CHECKED_OCTETS}
use Rattle.report_spec.specs.Inputs.{leg_told}
use Rattle.command_spec.specs.declared.faults.Fault.{Fault}
use Rattle.rtt_top.specs.Files.{IsReadOf}
use Rattle.rtt_top.specs.Looks.{IsUnreadAt}
use Rattle.rtt_top.specs.Worlds.{IsUnreadIn}
use Rattle.rtt_top.proofs.Looking.{looked_at, unread_at}
use Rattle.rtt_top.proofs.check.look_input.Goals as goal

pub returns-in-Err-clause-unread : goal.returns-in-Err-clause-unread
returns-in-Err-clause-unread g c =
    let old = c.args.world.now in
    let new = c.read_input.new.world in
    let name = c.args.leg.now.input in
    subst (λ (f : Fault). IsUnreadAt g.W.World c.args.input old new name f) (sym c.fault_at.ensures)
    (unread_at g.W.World c.args.input old new name c.in-Err.fault
    (subst (λ n. IsUnreadIn g.W.World old new n c.in-Err.fault) c.as_str.ensures c.in-Err.ensures.unread)
    (λ t. subst (λ n. SameBut n g.W.World.object_faults old new) c.as_str.ensures (c.read_input.ensures.no_other t)))

pub returns-in-Ok-leg_told-clause-looks : goal.returns-in-Ok-leg_told-clause-looks
returns-in-Ok-leg_told-clause-looks g c = λ before same.
    let old = g.W.World.contents c.args.world.now in
    let octets = c.in-Ok.octets in
    let leg = c.args.leg.now in
    let conference = c.args.conference.now in
    looked_at g.W.World.tells (g.W.World.contents before) c.args.limit conference leg octets c.in-Ok-leg_told.found
    (λ t. subst (λ held. IsReadOf MOST_CHECKED_OCTETS held octets) (ap old c.as_str.ensures ∙ same.0 t leg.input) (c.in-Ok.ensures.given t))
    (c.in-Ok-leg_told.ensures ∙ ap (leg_told c.args.limit conference leg) c.as_slice.ensures)

pub returns-in-Ok-leg_told-clause-same : goal.returns-in-Ok-leg_told-clause-same
returns-in-Ok-leg_told-clause-same g c = (c.read_input.ensures.same_contents, c.in-Ok.ensures.opened, c.in-Ok.ensures.calm)
