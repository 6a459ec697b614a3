use Rattle.std.proofs.Common.{ap, ◌∙◌}
use Rattle.report_spec.specs.Checking.{report}
use Rattle.report_spec.specs.Looks.{legs_in}
use Rattle.rtt_words.specs.Commands.{checked}
use Rattle.rtt_words.specs.Words.{Check}
use Rattle.rtt_top.specs.Worlds.{ObjectFailedIn, OpenFailedIn}
use Rattle.rtt_top.proofs.Working.{unread}
use Rattle.rtt_top.proofs.check.begin_look.Goals as goal

pub returns-in-Err-clause-stops : goal.returns-in-Err-clause-stops
returns-in-Err-clause-stops g c =
    let old = c.args.world.now in
    let new = c.read_input.new.world in
    let file = c.args.words.now.file.now in
    unread g.W.World.tells (g.W.World.contents old) (Check (checked c.args.words.now)) (OpenFailedIn g.W.World old new file) (ObjectFailedIn g.W.World old new file) c.in-Err.fault c.in-Err.ensures.unread

pub returns-clause-begun : goal.returns-clause-begun
returns-clause-begun g c = (
  c.in-Ok.ensures.given,
  c.in-Ok-report_of.ensures ∙ ap (report c.args.words.now.file.now) c.as_slice.ensures,
  c.in-Ok-legs_in.ensures ∙ ap legs_in c.as_slice-2.ensures,
)

pub returns-clause-same : goal.returns-clause-same
returns-clause-same g c = (c.read_input.ensures.same_contents, c.in-Ok.ensures.opened, c.in-Ok.ensures.calm)
