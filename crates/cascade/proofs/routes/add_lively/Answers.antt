use Rattle.std.proofs.Common.{sym, ◌∙◌}
use Rattle.cascade.proofs.Adding.{adds_blank, adds_one}
use Rattle.cascade.proofs.routes.add_lively.Goals as goal
use Rattle.wire_spec.proofs.Plain.{on_ok}

pub returns-then-is_blank-clause-adds : goal.returns-then-is_blank-clause-adds
returns-then-is_blank-clause-adds c = adds_blank c.args.splitter.now c.args.ready c.args.text.now (sym c.is_blank.ensures ∙ c.if-is_blank.true)

pub returns-clause-adds : goal.returns-clause-adds
returns-clause-adds c = on_ok c.add.result c.add.ensures.adds (adds_one c.args.splitter.now c.add.new.self c.args.ready c.args.text.now (sym c.is_blank.ensures ∙ c.if-is_blank.false))
