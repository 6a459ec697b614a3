use Rattle.std.proofs.Common.{◌∙◌, arith}
use Rattle.rtt_show.proofs.Beginning.{front_told}
use Rattle.rtt_show.proofs.heads.HeadReader.open.Goals as goal

pub returns-in-Ok-clause-start : goal.returns-in-Ok-clause-start
returns-in-Ok-clause-start g c = λ t. c.start_in-start.ensures.start ∙ front_told _ _ _ _ (c.in-Ok.ensures.looks t).is (c.in-Ok.ensures.looks t).room (c.in-Ok.ensures.looks t).whole
