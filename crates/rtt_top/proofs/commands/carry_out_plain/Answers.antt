use Rattle.std.proofs.Common.{Some, ap, sym, subst, ◌∙◌}
use Rattle.rtt_words.specs.Commands.{meaning}
use Rattle.rtt_words.specs.Words.{Command, Read, Script}
use Rattle.rtt_top.specs.RecordingViews.{words_for}
use Rattle.rtt_top.specs.Outside.{outside_at, output_at}
use Rattle.rtt_top.specs.Runs.{Runs}
use Rattle.rtt_top.proofs.commands.carry_out_plain.Goals as goal

pub returns-in-Read-clause-runs : goal.returns-in-Read-clause-runs
returns-in-Read-clause-runs g c =
    let file = c.in-Read.words.file.now in
    let run = c.run_view in
    let AreRun : Command → Type 0 = λ k. Runs (Some k) g.W.World.tells g.K.Sink.tells g.E.Sink.tells
    (outside_at g.W.World g.K.Sink c.args.world.now c.args.out.now) (outside_at g.W.World g.K.Sink run.new.world run.new.out)
    (output_at g.E.Sink c.args.err.now) (output_at g.E.Sink run.new.err) run.result in
    subst AreRun (ap (λ r. Read (words_for r file)) c.request_of.ensures ∙ sym (ap meaning c.in-Read.is)) run.ensures

pub returns-in-Script-clause-runs : goal.returns-in-Script-clause-runs
returns-in-Script-clause-runs g c =
    let file = c.in-Script.words.file.now in
    let run = c.run_view-in-Script in
    let AreRun : Command → Type 0 = λ k. Runs (Some k) g.W.World.tells g.K.Sink.tells g.E.Sink.tells
    (outside_at g.W.World g.K.Sink c.args.world.now c.args.out.now) (outside_at g.W.World g.K.Sink run.new.world run.new.out)
    (output_at g.E.Sink c.args.err.now) (output_at g.E.Sink run.new.err) run.result in
    subst AreRun (ap (λ r. Script (words_for r file)) c.request_of-in-Script.ensures ∙ sym (ap meaning c.in-Script.is)) run.ensures
