use denote.Param.Send.{sendable}
use Rattle.rtt_mix.proofs.threads.run_scope.Goals as goal

pub scoped-requires : goal.scoped-requires
scoped-requires g c =
    let leg = c.type_bounds.send-S in
    let rt = c.type_bounds.sync-R in
    record { at = λ a. (c.requires, (search sendable depth 20, c.type_bounds.send-G, search sendable depth 20)) }
