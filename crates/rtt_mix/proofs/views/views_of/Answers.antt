use Rattle.std.proofs.Common.{arith}
use Rattle.std.proofs.lemmas.Result.{IfOk-weaker}
use Rattle.file_spec.specs.Conferences.{meaning_of}
use Rattle.rtt_mix.proofs.Viewing.{sums_all, views_all}
use Rattle.rtt_mix.proofs.views.views_of.Goals as goal

pub returns-clause-views : goal.returns-clause-views
returns-clause-views c = IfOk-weaker c.views_between.result _ _
    (λ seen f table sent. views_all (meaning_of c.args.conference.now) table (c.terminals.result) seen (omega (arith, c.requires.each, c.terminals.ensures)) (f table sent)) c.views_between.ensures.views

pub returns-clause-sums : goal.returns-clause-sums
returns-clause-sums c = IfOk-weaker c.views_between.result _ _
    (λ seen f table sent. sums_all (meaning_of c.args.conference.now) table (c.terminals.result) seen (omega (arith, c.requires.each, c.terminals.ensures)) (f table sent)) c.views_between.ensures.views
