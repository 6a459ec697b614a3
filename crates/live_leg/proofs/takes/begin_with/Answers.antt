use Rattle.std.proofs.Math.Logic.{∥∥₁_map}
use Rattle.live_leg.proofs.Ears.{begins_giving, begins_with}
use Rattle.live_leg.proofs.takes.begin_with.Goals as goal

pub returns-clause-begins : goal.returns-clause-begins
returns-clause-begins c =
    begins_with c.args.ear.now c.restart.new.self c.hear-refused.new.self c.args.ssrc c.args.now c.args.octets.now c.restart.ensures.begins c.restart.ensures.settings c.hear-refused.ensures.becomes c.hear-refused.ensures.settings

pub returns-clause-giving : goal.returns-clause-giving
returns-clause-giving c =
    ∥∥₁_map c.requires.giving (begins_giving c.args.ear.now c.hear-refused.new.self c.args.ssrc c.args.now c.args.octets.now
    (begins_with c.args.ear.now c.restart.new.self c.hear-refused.new.self c.args.ssrc c.args.now c.args.octets.now c.restart.ensures.begins c.restart.ensures.settings c.hear-refused.ensures.becomes c.hear-refused.ensures.settings))
