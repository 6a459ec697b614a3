use Rattle.std.proofs.Common.{ap, sym, ◌∙◌}
use Rattle.file_spec.specs.Conferences.{meaning_of}
use Rattle.command_spec.specs.Draws.{draw}
use Rattle.rtt_make.proofs.Wholes.{keeps, made_is}
use Rattle.rtt_make.proofs.conferences.make_conf.Goals as goal

pub conference_with-requires-clause-keeps : goal.conference_with-requires-clause-keeps
conference_with-requires-clause-keeps c =
    keeps c.args.number c.draw-legs.result c.draw-legs.new.self c.draw_typed.new.draws c.in_ok-plan.plan
    (ap (draw 15) (sym c.new-draws.ensures) ∙ c.draw-legs.ensures.drawn) c.in_ok-typed.ensures.state c.in_ok-plan.ensures.lines

pub returns : goal.returns
returns c =
    made_is c.args.number c.draw-legs.result c.draw-legs.new.self c.draw_typed.new.draws (meaning_of c.in_ok-conference.conference) c.in_ok-typed.typed.scripts c.in_ok-typed.typed.seqs c.in_ok-plan.plan
    (ap (draw 15) (sym c.new-draws.ensures) ∙ c.draw-legs.ensures.drawn) c.in_ok-typed.ensures.scripts c.in_ok-typed.ensures.seqs c.in_ok-typed.ensures.state c.in_ok-plan.ensures.lines c.in_ok-conference.ensures
