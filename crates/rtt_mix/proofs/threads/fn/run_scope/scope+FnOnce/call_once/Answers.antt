use Rattle.rtt_mix.proofs.threads.fn.run_scope.scope+FnOnce.call_once.Goals as goal

pub scope-requires : goal.scope-requires
scope-requires g c = let b = c.requires.1.1.1.1.1 in (b.1.0, (b.1.1, (b.1.2, b.0)))
